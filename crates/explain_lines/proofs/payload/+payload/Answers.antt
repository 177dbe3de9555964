use Rattle.std.proofs.Common.{drop}
use Rattle.shared_core_wire.specs.Reader.{varint_at}
use Rattle.explain_lines.specs.Explanation.{after_varint, raw}
use Rattle.explain_lines.specs.Texts.{group_end_text, group_start_text}
use Rattle.std.proofs.Common.{◌≡◌, ◌+◌, ◌-◌, ◌<◌, ℕ, List, [], ◌∷◌, ◌++◌, length, sym, ap, subst, ◌∙◌, rules, arith}
use Rattle.std.proofs.Common.{Some}
use Rattle.std.proofs.lemmas.List.{nil_from_length}
use Rattle.explain_lines.specs.declared.piece.FieldAt.{FieldAt}
use Rattle.explain_lines.specs.Explanation.{Explanation, explained, followed_by, nested_explained, no_record}
use Rattle.explain_lines.specs.Explanation.{record_explained, taken}
use Rattle.shared_core_wire.specs.Grammar.{FieldRecord}
use Rattle.shared_core_wire.specs.Reader.{record_at}
use Rattle.shared_core_wire.specs.View.{value_of}
use Rattle.explain_lines.specs.State.{told, Explains}
use Rattle.explain_lines.proofs.Going.{added_group, added_within, ends_with, explains_last, goes_to_end, goes_with}
use Rattle.explain_lines.proofs.Records.{nested_below, nested_zero, record_front, records_nil, records_stop}
use Rattle.explain_lines.proofs.Records.{records_turn}
use Rattle.explain_lines.proofs.payload.+payload.Goals as goal

-- What bytes are that begin with a record, if the path and the record's bytes are known by other names.
turned : (left : ℕ) (path same_path : List FieldAt) (s : ℕ) (bytes : List ℕ) (r : FieldRecord) (rest front : List ℕ) →
    record_at left bytes ≡ Some (r, rest) → same_path ≡ path → front ≡ taken bytes rest → explained left path s bytes
    ≡ followed_by (record_explained (nested_explained left) left same_path s r front) (explained left path s rest)
turned left path same_path s bytes r rest front e is begins =
    records_turn (nested_explained left) left path s bytes r rest e
    ∙ (ap (λ (p : List FieldAt). followed_by (record_explained (nested_explained left) left p s r (taken bytes rest))
    (explained left path s rest)) (sym is)
    ∙ ap (λ (b : List ℕ). followed_by (record_explained (nested_explained left) left same_path s r b)
    (explained left path s rest)) (sym begins))

pub explain_records-returns-in_default : goal.explain_records-returns-in_default
explain_records-returns-in_default t c =
    let path = c.args.lines.now.path.items in
    let rest = c.loop-rest.rest.now in
    let s = c.args.schema in
    let left = c.args.left in
    let some : 0 < length rest = search rules in
    explains_last c.args.lines.now c.loop-rest.lines c.explain_fault.new.lines c.explain_fault.result
    (explained left path s c.args.payload.now) (explained left path s rest)
    (no_record left c.loop-rest.lines.path.items s rest) c.loop-rest.invariant.1 c.loop-rest.invariant.0
    (records_stop (nested_explained left) left path s rest some c.in_default.ensures
    ∙ ap (λ (p : List FieldAt). no_record left p s rest) (sym c.loop-rest.invariant.0)) c.explain_fault.ensures

pub explain_records-returns-then-branch : goal.explain_records-returns-then-branch
explain_records-returns-then-branch t c =
    let path = c.args.lines.now.path.items in
    let rest = c.loop-rest.rest.now in
    let after = c.in-Some.after.now in
    let s = c.args.schema in
    let left = c.args.left in
    let r : FieldRecord = record { number = c.in-Some.number; value = value_of c.in-Some.value } in
    let added = c.in_ok-explain_record.ensures in
    let whole = ends_with (told c.args.lines.now) (explained left path s c.args.payload.now) (told c.loop-rest.lines)
    (explained left path s rest)
    (record_explained (nested_explained left) left c.loop-rest.lines.path.items s r c.taken.result.now)
    (explained left path s after) (told c.explain_record.new.lines) c.loop-rest.invariant.1
    (turned left path c.loop-rest.lines.path.items s rest r after c.taken.result.now c.in-Some.ensures
    c.loop-rest.invariant.0 c.taken.ensures) (sym c.if-branch.true ∙ added.2) added.0 in
    (whole.0, added.1 ∙ c.loop-rest.invariant.0, whole.1)

pub explain_records-loop-rest-smaller : goal.explain_records-loop-rest-smaller
explain_records-loop-rest-smaller t c =
    (record_front c.args.left c.loop-rest.rest.now _ c.in-Some.after.now c.in-Some.ensures).shorter

pub explain_records-loop-rest-preserved : goal.explain_records-loop-rest-preserved
explain_records-loop-rest-preserved t c =
    let path = c.args.lines.now.path.items in
    let rest = c.loop-rest.rest.now in
    let after = c.in-Some.after.now in
    let s = c.args.schema in
    let left = c.args.left in
    let r : FieldRecord = record { number = c.in-Some.number; value = value_of c.in-Some.value } in
    let added = c.in_ok-explain_record.ensures in (
      added.1 ∙ c.loop-rest.invariant.0,
      goes_with (told c.args.lines.now) (explained left path s c.args.payload.now)
          (told c.loop-rest.lines) (explained left path s rest)
          (record_explained (nested_explained left) left c.loop-rest.lines.path.items s r c.taken.result.now)
          (explained left path s after) (told c.explain_record.new.lines) c.loop-rest.invariant.1
          (turned left path c.loop-rest.lines.path.items s rest r after c.taken.result.now c.in-Some.ensures
          c.loop-rest.invariant.0 c.taken.ensures) (sym added.2 ∙ c.if-branch.false) added.0,
    )

pub explain_records-returns : goal.explain_records-returns
explain_records-returns t c =
    let path = c.args.lines.now.path.items in
    let s = c.args.schema in
    let left = c.args.left in
    let nil : length c.loop-rest.rest.now ≡ 0 = search rules in
    let whole = goes_to_end (told c.args.lines.now) (explained left path s c.args.payload.now) (told c.loop-rest.lines)
    (explained left path s c.loop-rest.rest.now) c.loop-rest.invariant.1
    (records_nil (nested_explained left) left path s c.loop-rest.rest.now
    (nil_from_length c.loop-rest.rest.now nil)) in
    (whole.0, c.loop-rest.invariant.0, whole.1)

pub explain_nested-returns-then-known-eq0 : goal.explain_nested-returns-then-known-eq0
explain_nested-returns-then-known-eq0 t c =
    let inner = c.args.lines.now.path.items ++ c.args.known.now.field ∷ [] in
    let none : c.args.known.now.left ≡ 0 = c.if-known-eq0.true in
    subst (λ (e : Explanation). Explains c.args.lines.now c.add_fault_in.new.lines c.add_fault_in.result e)
    (sym (ap (λ (n : ℕ). nested_explained n inner c.args.schema c.args.bytes.now) none
    ∙ nested_zero inner c.args.schema c.args.bytes.now)) c.add_fault_in.ensures

pub explain_nested-returns : goal.explain_nested-returns
explain_nested-returns t c =
    let path = c.args.lines.now.path.items in
    let left = c.args.known.now.left in
    let below : (left - 1) + 1 ≡ left = omega (arith, c.if-known-eq0.false) in
    let whole = added_within (told c.args.lines.now) (told c.enter.new.self) (told c.explain_records.new.lines)
    (told c.leave.new.self) path c.enter.new.self.path.items c.explain_records.new.lines.path.items
    c.leave.new.self.path.items c.args.known.now.field
    (λ (p : List FieldAt). explained (left - 1) p c.args.schema c.args.bytes.now) c.in_ok-ended.ended
    c.in_ok-enter.ensures.told c.in_ok-enter.ensures.path c.in_ok-ended.ensures c.leave.ensures.told
    c.leave.ensures.path in
    rw (nested_below (left - 1) left (path ++ c.args.known.now.field ∷ []) c.args.schema c.args.bytes.now below) whole

pub explain_group-returns : goal.explain_group-returns
explain_group-returns t c =
    let bytes = c.args.known.now.bytes.now in
    let after = after_varint (varint_at bytes) in
    let nested = c.in_ok-explain_nested.ensures in
    added_group (told c.args.lines.now) (told c.add.new.self) (told c.explain_nested.new.lines) (told c.add-2.new.self)
    c.args.lines.now.path.items c.add.new.self.path.items c.explain_nested.new.lines.path.items
    c.add-2.new.self.path.items c.args.known.now.field
    (λ (p : List FieldAt). nested_explained c.args.known.now.left p raw c.args.content.now) c.taken.result.now
    c.rest_after-end.result.now (taken bytes after) (drop (length c.args.content.now) after)
    (group_start_text c.args.known.now.field) (group_end_text c.args.known.now.field) c.in_ok-add.ensures nested.0
    nested.1 c.in_ok-add-2.ensures
    (c.taken.ensures ∙ ap (λ (r : List ℕ). taken bytes r) c.after_varint-after.ensures)
    (c.rest_after-end.ensures.rest ∙ ap (λ (r : List ℕ). drop (length c.args.content.now) r)
    c.after_varint-after.ensures)
