use Rattle.std.proofs.Common.{◌≡◌, ◌∷◌, ◌++◌, true, false, ◌-◌, ◌+◌, List, ℕ, refl, drop, map, sym, ap, ◌∙◌, arith}
use Rattle.std.proofs.Common.{rules}
use Rattle.std.proofs.Common.{append_assoc, subst, length}
use Rattle.std.specs.List.{list_all}
use Rattle.std.proofs.lemmas.List.{append-nil, nil_from_length}
use Rattle.shared_core_wire.specs.Acceptance.{accepts_message, accepts_payload, accepts_record, row_allows}
use Rattle.shared_core_wire.specs.Grammar.{FieldRecord}
use Rattle.shared_core_wire.specs.Schema.{Row}
use Rattle.shared_core_wire.specs.declared.records.Record.{Record}
use Rattle.shared_core_codec.proofs.Checked.{message_below_in, message_zero_in, distinct_rows}
use Rattle.shared_core_codec.specs.ProgramRows.{kind_view}
use Rattle.shared_core_canonical.specs.declared.places.Placed.{Placed}
use Rattle.shared_core_canonical.specs.Places.{at_place, front_at, rise_from}
use Rattle.shared_core_canonical.specs.Found.{found_records, found_views, places_record}
use Rattle.shared_core_codec.specs.Checking.{field_record_of}
use Rattle.shared_core_canonical.specs.Places.{AreInOrder, values_at}
use Rattle.shared_core_canonical.specs.Found.{records_found}
use Rattle.shared_core_canonical.specs.Rows.{rows_record, nested_bytes, records_read, row_record}
use Rattle.shared_core_canonical.specs.Singles.{single_view}
use Rattle.shared_core_canonical.proofs.ByPlace.{behind_place, behind_rises, behind_same, front_within, left_behind}
use Rattle.shared_core_canonical.proofs.RowsFound.{own_is, row_none, sorted_are, sorted_pass}
use Rattle.shared_core_canonical.proofs.Payloads.{runs_pass, messages_pass, first_pass, later_pass, joined_accepted}
use Rattle.shared_core_canonical.proofs.Payloads.{records_pass, nested_below, canonical_is, if_ok}
use Rattle.shared_core_canonical.proofs.canonical.+message.Goals as goal

pub append_repeated-append_run-requires : goal.append_repeated-append_run-requires
append_repeated-append_run-requires g t c = runs_pass (g.T.Schemas.table c.args.schemas.now) c.args.source.now.left
    c.args.field.number (kind_view c.args.field.kind) (found_records c.args.source.now.records.now) (sym
    c.is_number.ensures ∙ c.if-is_number.true)
    c.requires

pub append_repeated-append_messages-requires : goal.append_repeated-append_messages-requires
append_repeated-append_messages-requires g t c =
    let pass = messages_pass (g.T.Schemas.table c.args.schemas.now) c.args.source.now.left c.args.field.number
    c.in-Message.schema (kind_view c.args.field.kind) (found_records c.args.source.now.records.now)
    (ap kind_view c.in-Message.is)
    c.requires in
    λ κs lives. (omega arith, (search rules, (search rules, pass)))

pub append_single-nested-requires : goal.append_single-nested-requires
append_single-nested-requires g t c =
    let table = g.T.Schemas.table c.args.schemas.now in
    let left = c.args.source.now.left in
    let l = single_view c.in-Some.last c.read_last.new.joined.items in
    let same : c.whole-content.result.now ≡ l.joined = search rules in
    let accepted : accepts_message table left c.in-Message.schema l.joined ≡ true =
    joined_accepted table left c.in-Message.schema (g.T.Row.SchemaRow.view c.args.row.now)
    (found_records c.args.source.now.records.now) l
    c.requires (search rules) (ap kind_view c.in-Message.is) in
    let here : accepts_message table left c.in-Message.schema c.whole-content.result.now ≡ true =
    ap (accepts_message table left c.in-Message.schema) same ∙ accepted in
    λ κs lives. (omega arith, (search rules, (search rules, here)))

pub message-append_rows-requires : goal.message-append_rows-requires
message-append_rows-requires g t c =
    let table = g.T.Schemas.table c.args.schemas.now in
    let left = c.args.source.now.left in
    let bytes = c.args.source.now.bytes.now in
    let rs = records_read left bytes in
    let rows = map g.T.Row.SchemaRow.view c.rows_of-rows.result.now in
    let ps = c.as_slice.result.now in
    let same : rows ≡ table c.args.schema = c.rows_of-rows.ensures in
    let order : AreInOrder field_record_of (records_found rows 0 rs) ps = subst
    (λ (qs : List (Placed Record)). AreInOrder field_record_of (records_found rows 0 rs) qs)
    (sym c.as_slice.ensures.value)
    c.in_ok-found.ensures in
    let pass : list_all (accepts_record (accepts_message table left) rows) rs ≡ true = ap
    (λ (ks : List Row). list_all (accepts_record (accepts_message table left) ks) rs) same ∙
    records_pass table left c.args.schema bytes c.requires in
    let all = sorted_pass (accepts_record (accepts_message table left) rows) rows rs ps order pass in
    λ κs lives. (omega arith, (search rules, (search rules, (order.rising, all))))

pub message-returns : goal.message-returns
message-returns g t c =
    let table = g.T.Schemas.table c.args.schemas.now in
    let left = c.args.source.now.left in
    let bytes = c.args.source.now.bytes.now in
    let rs = records_read left bytes in
    let nested = nested_bytes table left in
    let rows = map g.T.Row.SchemaRow.view c.rows_of-rows.result.now in
    let ps = c.as_slice.result.now in
    let same : rows ≡ table c.args.schema = c.rows_of-rows.ensures in
    let order : AreInOrder field_record_of (records_found rows 0 rs) ps = subst
    (λ (qs : List (Placed Record)). AreInOrder field_record_of (records_found rows 0 rs) qs)
    (sym c.as_slice.ensures.value)
    c.in_ok-found.ensures in
    let written : c.append_rows.new.out.items ≡ c.new-out.result.items ++ places_record nested rows 0 (found_views ps) =
    c.in_ok-append_rows.ensures in
    written
    ∙ ap (λ (xs : List ℕ). xs ++ places_record nested rows 0 (found_views ps)) c.new-out.ensures.items
    ∙ sorted_are nested rows rs ps
    (distinct_rows table (g.met.T.Schemas.valid c.args.schemas.now) c.args.schema rows same) order
    ∙ ap (λ (ks : List Row). rows_record nested ks rs) same ∙ canonical_is table left c.args.schema bytes c.requires

pub append_rows-loop-row-init : goal.append_rows-loop-row-init
append_rows-loop-row-init g t c =
    let table = g.T.Schemas.table c.args.schemas.now in
    let left = c.args.source.now.left in
    let rows = c.args.rows.now in
    let ps = c.args.source.now.records.now in
    let none : length rows - length rows ≡ 0 = omega arith in
    record {
      within = omega arith;
      started = omega arith;
      allowed = c.requires.allowed;
      rising = subst (λ (place : ℕ). rise_from place ps ≡ true) (sym none) c.requires.rising;
      same = λ q l. refl;
      written = ap (λ (place : ℕ). c.args.out.now.items ++ places_record (nested_bytes table left)
          (map g.T.Row.SchemaRow.view rows) place (found_views ps)) none;
    }

pub append_rows-append_row-requires : goal.append_rows-append_row-requires
append_rows-append_row-requires g t c =
    let view = g.T.Row.SchemaRow.view in
    let table = g.T.Schemas.table c.args.schemas.now in
    let left = c.args.source.now.left in
    let ps = c.args.source.now.records.now in
    let own = c.of_row-own.result.records.now in
    let row = view c.in-Some.row.now in
    let place = length c.args.rows.now - length c.loop-row.rest.now in
    let split : c.loop-row.rest.now ≡ c.in-Some.row.now ∷ c.in-Some.after.now = search rules in
    let front : own ≡ front_at place (drop c.loop-row.start ps) = c.of_row-own.ensures.records in
    let owned : found_records own ≡ values_at place (found_views ps) =
    own_is place c.loop-row.start own ps front c.loop-row.invariant.rising
    (c.loop-row.invariant.same place (omega arith)) in
    let pass : list_all (λ r. row_allows (accepts_message table left) r row) (found_records own) ≡ true =
    ap (list_all (λ r. row_allows (accepts_message table left) r row)) owned
    ∙ first_pass table left row (map view c.in-Some.after.now) (map view c.loop-row.rest.now)
    (values_at place (found_views ps)) (ap (map view) split) (c.loop-row.invariant.allowed place) in
    let here : list_all (λ r. row_allows (accepts_message table c.of_row-own.result.left) r row) (found_records own) ≡
    true = subst
    (λ (l : ℕ). list_all (λ r. row_allows (accepts_message table l) r row) (found_records own) ≡ true)
    (sym c.of_row-own.ensures.left) pass in
    λ κs lives. (omega (arith, c.of_row-own.ensures.left), (search rules, (search rules, here)))

pub append_rows-loop-row-preserved : goal.append_rows-loop-row-preserved
append_rows-loop-row-preserved g t c =
    let view = g.T.Row.SchemaRow.view in
    let table = g.T.Schemas.table c.args.schemas.now in
    let left = c.args.source.now.left in
    let nested = nested_bytes table left in
    let ps = c.args.source.now.records.now in
    let fs = found_views ps in
    let own = c.of_row-own.result.records.now in
    let row = view c.in-Some.row.now in
    let after = map view c.in-Some.after.now in
    let start = c.loop-row.start in
    let place = length c.args.rows.now - length c.loop-row.rest.now in
    let next = length c.args.rows.now - length c.in-Some.after.now in
    let split : c.loop-row.rest.now ≡ c.in-Some.row.now ∷ c.in-Some.after.now = search rules in
    let longer : length c.loop-row.rest.now ≡ length (c.in-Some.row.now ∷ c.in-Some.after.now) = ap length split in
    let step : place + 1 ≡ next = omega (arith, longer, c.loop-row.invariant.within) in
    let front : own ≡ front_at place (drop start ps) = c.of_row-own.ensures.records in
    let gone : drop (start + length own) ps ≡ behind_place place (drop start ps) =
    ap (λ (qs : List (Placed Record)). drop (start + length qs) ps) front ∙ left_behind place start ps in
    let owned : found_records own ≡ values_at place fs =
    own_is place start own ps front c.loop-row.invariant.rising (c.loop-row.invariant.same place (omega arith)) in
    let written : c.append_row.new.out.items ≡ c.loop-row.out.items ++ row_record
    (nested_bytes table c.of_row-own.result.left) row (found_records own) = c.in_ok-append_row.ensures in
    record {
      within = omega (arith, longer, c.loop-row.invariant.within);
      started = front_within place start own ps front c.loop-row.invariant.started;
      allowed = λ q. later_pass table left row after (map view c.loop-row.rest.now) (values_at q fs)
          (ap (map view) split) (c.loop-row.invariant.allowed q);
      rising = ap (λ (qs : List (Placed Record)). rise_from next qs) gone
          ∙ behind_rises place next (drop start ps) step c.loop-row.invariant.rising;
      same = λ q l. ap (λ (qs : List (Placed Record)). at_place q qs) gone
          ∙ behind_same place q (drop start ps) (omega (arith, step, l))
          ∙ c.loop-row.invariant.same q (omega (arith, step, l));
      written =
          ap (λ (xs : List ℕ). xs ++ places_record nested after next fs) written
          ∙ ap (λ (l : ℕ). (c.loop-row.out.items ++ row_record (nested_bytes table l) row (found_records own)) ++
          places_record nested after next fs) c.of_row-own.ensures.left
          ∙ ap (λ (rs : List FieldRecord). (c.loop-row.out.items ++ row_record nested row rs) ++
          places_record nested after next fs) owned
          ∙ append_assoc c.loop-row.out.items (row_record nested row (values_at place fs))
          (places_record nested after next fs)
          ∙ sym (ap (λ (n : ℕ). c.loop-row.out.items ++ (row_record nested row (values_at place fs) ++
          places_record nested after n fs)) step)
          ∙ sym (ap (λ (rest : List g.row.T-Row.Denot). c.loop-row.out.items ++ places_record nested
          (map view rest) place fs) split) ∙ c.loop-row.invariant.written;
    }

pub append_row-returns-then-is_empty : goal.append_row-returns-then-is_empty
append_row-returns-then-is_empty g t c =
    let row = g.T.Row.SchemaRow.view c.args.row.now in
    let nested = nested_bytes (g.T.Schemas.table c.args.schemas.now) c.args.source.now.left in
    let out = c.args.out.now.items in
    let ps = c.args.source.now.records.now in
    let none : length ps ≡ 0 = search rules in
    sym (append-nil out)
    ∙ sym (ap (λ (xs : List ℕ). out ++ xs)
    (ap (λ (qs : List (Placed Record)). row_record nested row (found_records qs)) (nil_from_length ps none)
    ∙ row_none nested row))

pub nested-returns-then-source-eq0 : goal.nested-returns-then-source-eq0
nested-returns-then-source-eq0 g t c =
    let table = g.T.Schemas.table c.args.schemas.now in
    let none : c.args.source.now.left ≡ 0 = omega (arith, c.if-source-eq0.true) in
    let refused : false ≡ true = sym (message_zero_in table c.args.schema c.args.bytes.now)
    ∙ sym (ap (λ (l : ℕ). accepts_message table l c.args.schema c.args.bytes.now) none) ∙ c.requires in
    absurd cc

pub nested-message-requires : goal.nested-message-requires
nested-message-requires g t c =
    let table = g.T.Schemas.table c.args.schemas.now in
    let left = c.args.source.now.left in
    let pass : accepts_payload table (left - 1) c.args.schema c.args.bytes.now ≡ true =
    sym (message_below_in table (left - 1) left c.args.schema c.args.bytes.now
    (omega (arith, c.if-source-eq0.false))) ∙ c.requires in
    λ κs lives. (omega (arith, c.if-source-eq0.false), (search rules, (search rules, pass)))

pub nested-returns : goal.nested-returns
nested-returns g t c =
    let table = g.T.Schemas.table c.args.schemas.now in
    let left = c.args.source.now.left in
    if_ok c.message.result _ (nested_bytes table left c.args.schema c.args.bytes.now)
    (sym (nested_below table (left - 1) left c.args.schema c.args.bytes.now
    (omega (arith, c.if-source-eq0.false)))) c.message.ensures
