use Rattle.std.proofs.Common.{◌≡◌, ◌++◌, ◌∷◌, List, ℕ, true, false, OnOk, ◌+◌, ◌-◌, ◌∙◌, refl, sym, ap, subst}
use Rattle.std.proofs.Common.{arith, rules}
use Rattle.std.proofs.Common.{drop, length}
use Rattle.std.specs.List.{list_all}
use Rattle.shared_core_wire.specs.ReadRecords.{read_records}
use Rattle.shared_core_canonical.specs.declared.places.Placed.{Placed}
use Rattle.shared_core_canonical.specs.Places.{at_place, front_at, rise_from}
use Rattle.shared_core_canonical.specs.Rows.{records_read}
use Rattle.shared_core_canonical.proofs.ByPlace.{behind_place, behind_rises, behind_same, front_within, left_behind}
use Rattle.shared_core_renumber.specs.declared.entries.Renumbering.{Renumbering}
use Rattle.shared_core_renumber.specs.declared.found.Found.{Found}
use Rattle.shared_core_renumber.specs.Entries.{from_schema}
use Rattle.shared_core_renumber.specs.Allowed.{nested_allows, payload_allows}
use Rattle.shared_core_renumber.specs.Written.{allows_found, entries_bytes, first_bytes, found_values}
use Rattle.shared_core_canonical.specs.Places.{values_at}
use Rattle.shared_core_renumber.specs.Written.{is_allowed, nested_bytes, ranked, records_found}
use Rattle.shared_core_renumber.proofs.Ranks.{entry_written, group_allowed, group_is, next_group, same_group}
use Rattle.shared_core_renumber.proofs.Steps.{all_allowed, allows_none, allows_below, bytes_below}
use Rattle.shared_core_renumber.proofs.write.+message.Goals.{append_message-then-entry-before+in_ok-append_group}
use Rattle.shared_core_renumber.proofs.write.+message.Goals.{append_message-else-entry-before}
use Rattle.shared_core_renumber.proofs.write.+message.Goals as goal

pub append_message-loop-entry-init : goal.append_message-loop-entry-init
append_message-loop-entry-init t c =
    let left = c.args.source.now.left in
    let s = c.args.source.now.schema in
    let rs = records_read left c.args.source.now.bytes.now in
    let own = c.from_schema-own.result.now in
    let none : length own - length own ≡ 0 = omega arith in
    record {
      within = omega arith;
      started = omega arith;
      rising = subst (λ (place : ℕ). rise_from place c.in_ok-found.found.items ≡ true) (sym none)
          c.in_ok-found.ensures.rising;
      same = λ q l. refl;
      written = ap (λ (es : List Renumbering). c.args.out.now.items ++ entries_bytes
          (nested_bytes c.args.entries.now left) s 0 es (records_found s es rs)) c.from_schema-own.ensures;
    }

pub append_message-append_group-requires : goal.append_message-append_group-requires
append_message-append_group-requires t c =
    let entries = c.args.entries.now in
    let left = c.args.source.now.left in
    let s = c.args.source.now.schema in
    let bytes = c.args.source.now.bytes.now in
    let rs = records_read left bytes in
    let inner = nested_allows entries left in
    let own = c.from_schema-own.result.now in
    let ps = c.in_ok-found.found.items in
    let start = c.loop-entry.start in
    let count = length own in
    let place = count - length c.loop-entry.rest.now in
    let group = c.front_at-group.result.now in
    let front : group ≡ front_at place (drop start ps) = c.front_at-group.ensures
    ∙ ap (λ (qs : List (Placed Found)). front_at place (drop start qs)) c.as_slice.ensures.value in
    let values = group_is place start group ps (ranked count (records_found s own rs)) front
    c.loop-entry.invariant.rising (c.loop-entry.invariant.same place (omega arith)) c.in_ok-found.ensures in
    let allowed : list_all (is_allowed inner) (records_found s own rs) ≡ true =
    ap (λ (es : List Renumbering). list_all (is_allowed inner) (records_found s es rs)) c.from_schema-own.ensures
    ∙ all_allowed inner s (from_schema s entries) (read_records left bytes) c.requires in
    let pass : list_all (allows_found inner) (found_values group) ≡ true = ap (list_all (allows_found inner)) values
    ∙ group_allowed inner count place (records_found s own rs) allowed in
    (omega arith, pass)

pub append_message-loop-entry-preserved : goal.append_message-loop-entry-preserved
append_message-loop-entry-preserved t c =
    let left = c.args.source.now.left in
    let s = c.args.source.now.schema in
    let rs = records_read left c.args.source.now.bytes.now in
    let inner = nested_bytes c.args.entries.now left in
    let own = c.from_schema-own.result.now in
    let fs = records_found s own rs in
    let ps = c.in_ok-found.found.items in
    let start = c.loop-entry.start in
    let before = c.loop-entry.before in
    let out = c.loop-entry.out.items in
    let new = c.if-entry-before.out.items in
    let count = length own in
    let rest = c.loop-entry.rest.now in
    let entry = c.in-Some.entry.now in
    let after = c.in-Some.after.now in
    let place = count - length rest in
    let next = count - length after in
    let group = c.front_at-group.result.now in
    let split : rest ≡ entry ∷ after = search rules in
    let longer : length rest ≡ length (entry ∷ after) = ap length split in
    let step : place + 1 ≡ next = omega (arith, longer, c.loop-entry.invariant.within) in
    let front : group ≡ front_at place (drop start ps) = c.front_at-group.ensures
    ∙ ap (λ (qs : List (Placed Found)). front_at place (drop start qs)) c.as_slice.ensures.value in
    let gone : drop (start + length group) ps ≡ behind_place place (drop start ps) =
    ap (λ (qs : List (Placed Found)). drop (start + length qs) ps) front ∙ left_behind place start ps in
    let values : found_values group ≡ values_at place (ranked count fs) = group_is place start group ps (ranked count
    fs) front c.loop-entry.invariant.rising (c.loop-entry.invariant.same place (omega arith)) c.in_ok-found.ensures in
    let first : new ≡ out ++ first_bytes inner before entry after fs = elim c.if-entry-before.branch [
      | append_message-then-entry-before+in_ok-append_group w ↦
          next_group inner s count before own entry after rest rs out new (found_values group) w.if-entry-before.true
          split refl c.loop-entry.invariant.within values (search rules)
      | append_message-else-entry-before w ↦
          (let same : new ≡ out = search rules in
          same ∙ same_group inner before entry after fs out w.if-entry-before.false)
    ] in
    record {
      within = omega (arith, longer, c.loop-entry.invariant.within);
      started = front_within place start group ps front c.loop-entry.invariant.started;
      rising = ap (λ (qs : List (Placed Found)). rise_from next qs) gone
          ∙ behind_rises place next (drop start ps) step c.loop-entry.invariant.rising;
      same = λ q l. ap (λ (qs : List (Placed Found)). at_place q qs) gone
          ∙ behind_same place q (drop start ps) (omega (arith, step, l))
          ∙ c.loop-entry.invariant.same q (omega (arith, step, l));
      written = entry_written inner s before entry after rest fs out new _ split c.if-entry-source.false first
          c.loop-entry.invariant.written;
    }

pub append_nested-returns-then-source-eq0 : goal.append_nested-returns-then-source-eq0
append_nested-returns-then-source-eq0 t c =
    let refused : false ≡ true = sym (allows_none c.args.entries.now c.args.source.now.left c.args.inner.now.schema
    c.args.inner.now.bytes.now (omega (arith, c.if-source-eq0.true))) ∙ c.requires in
    absurd cc

pub append_nested-append_message-requires : goal.append_nested-append_message-requires
append_nested-append_message-requires t c =
    let left = c.args.source.now.left in
    let inner = c.args.inner.now in
    let pass : payload_allows c.args.entries.now (left - 1) inner.schema inner.bytes.now ≡ true =
    sym (allows_below c.args.entries.now (left - 1) left inner.schema inner.bytes.now
    (omega (arith, c.if-source-eq0.false))) ∙ c.requires in
    (omega (arith, c.if-source-eq0.false), pass)

pub append_nested-returns : goal.append_nested-returns
append_nested-returns t c =
    let left = c.args.source.now.left in
    let inner = c.args.inner.now in
    subst (λ (written : List ℕ). OnOk c.append_message.result (c.append_message.new.out.items ≡ c.args.out.now.items ++
    written)) (sym (bytes_below c.args.entries.now (left - 1) left inner.schema inner.bytes.now
    (omega (arith, c.if-source-eq0.false)))) c.append_message.ensures
