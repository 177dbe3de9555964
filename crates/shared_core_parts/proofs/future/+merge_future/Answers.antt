use Rattle.std.proofs.Common.{◌≡◌, false, Ok, Some, refl, ap, ◌∙◌}
use Rattle.std.specs.Prelude.{IsOk}
use Rattle.shared_core_wire.specs.Acceptance.{accepts_message}
use Rattle.shared_core_wire.specs.Overlay.{all_elements, message_overlay}
use Rattle.shared_core_wire.specs.Schema.{Message}
use Rattle.shared_core_wire.specs.Value.{Nested}
use Rattle.std.specs.Prelude.{[], ◌∷◌}
use Rattle.shared_core_codec.specs.Table.{table, future}
use Rattle.shared_core_codec.specs.Folding.{fold_read}
use Rattle.shared_core_codec.specs.Kept.{IsPartlyMerged}
use Rattle.shared_core_codec.specs.Occurrences.{merged_with, record_in, value_in}
use Rattle.shared_core_codec.proofs.Keeping.{on_err, parts_same, parts_on, part_same, rows_kept, rows_stay, fails_now}
use Rattle.shared_core_codec.proofs.Keeping.{one_merged, fold_more, lies_later, so_far_none, so_far_more}
use Rattle.shared_core_codec.proofs.Keeping.{pushed_elements}
use Rattle.shared_core_wire.specs.ReadRecords.{read_records}
use Rattle.shared_core_wire.specs.RecordsLeft.{records_left, placed_of, placed_result}
use Rattle.shared_core_codec.proofs.FieldElements.{element_appended, element_rejected}
use Rattle.shared_core_codec.proofs.MergingRecords.{computed_accepted, computed_merged, computed_rejected}
use Rattle.shared_core_codec.proofs.MergingRecords.{message_becomes, message_rejected, no_message}
use Rattle.shared_core_parts.specs.Futures.{future_parts, futures_part}
use Rattle.shared_core_parts.proofs.NestedFutures.{future_part, grown, kept_futures}
use Rattle.shared_core_parts.proofs.future.+merge_future.Goals.{extend_futures-in-Err-1, extend_futures-in-Ok-1}
use Rattle.shared_core_parts.proofs.future.+merge_future.Goals as goal

pub extend_futures-returns-clause-ok : goal.extend_futures-returns-clause-ok
extend_futures-returns-clause-ok t c =
    let below = c.in-Some.nested.left in
    let left = c.args.field.now.left in
    let bytes = c.in-Some.nested.bytes.now in
    let pushed = c.in-Ok.future.now in
    let merged = c.merge_future.new.future in
    let result = c.merge_future.result in
    let start = future_parts pushed in
    let ready : IsOk c.push_mut.result = rw c.in-Ok.is refl in
    let same = (c.push_mut.follows.holds merged ready).0 in
    let now = (c.push_mut.follows.lender merged).items in
    let becomes = message_becomes below left future bytes start (future_parts merged) result c.in-Some.ensures.left
    (computed_accepted below future _ bytes start result c.merge_future.ensures.computed)
    (computed_merged below future (future_parts merged) bytes start result c.merge_future.ensures.computed) in
    grown _ result c.args.futures.now.items now (all_elements table (message_overlay table left) (Message future)
    (value_in c.args.field.now ∷ []))
    (element_appended result future_part c.args.futures.now.items now pushed merged (Message future)
    (message_overlay table left) (accepts_message table left) (value_in c.args.field.now) refl
    (ap Nested (ap future_parts c.in-Ok.ensures.value ∙ c.empty_future.ensures)) same
    (rw c.in-Some.ensures.bytes becomes))

pub extend_futures-returns-in_default-clause-malformed : goal.extend_futures-returns-in_default-clause-malformed
extend_futures-returns-in_default-clause-malformed t c e =
    element_rejected (accepts_message table c.args.field.now.left) (Message future) (value_in c.args.field.now) refl
    (no_message c.args.field.now.left future (value_in c.args.field.now) c.in_default.ensures.none)

pub extend_futures-returns-clause-malformed : goal.extend_futures-returns-clause-malformed
extend_futures-returns-clause-malformed t c e =
    let below = c.in-Some.nested.left in
    let bytes = c.in-Some.nested.bytes.now in
    let rejected = computed_rejected below future _ bytes (future_parts c.in-Ok.future.now) c.merge_future.result
    c.merge_future.ensures.computed e in
    element_rejected (accepts_message table c.args.field.now.left) (Message future) (value_in c.args.field.now) refl
    (rw c.in-Some.ensures.bytes (message_rejected below c.args.field.now.left future bytes c.in-Some.ensures.left
    rejected))

-- ---- what is kept

pub merge_future-returns-in_err-found-clause-kept : goal.merge_future-returns-in_err-found-clause-kept
merge_future-returns-in_err-found-clause-kept t c = c.loop-item.invariant.kept

pub merge_future-returns-in_err-found-clause-partly : goal.merge_future-returns-in_err-found-clause-partly
merge_future-returns-in_err-found-clause-partly t c =
    let left = c.args.message.now.left in
    let old = future_parts c.args.future.now in
    let now = future_parts c.loop-item.future in
    let items = read_records left c.args.message.now.bytes.now in
    on_err c.from_residual.result (IsPartlyMerged left future old items now)
    (fails_now left future old now now items (records_left c.loop-item.item-iterator) 0 c.loop-item.invariant.partly
    (rows_stay (table future) 0 now false))

pub merge_future-returns-in_err-merge_future_field-clause-kept :
    goal.merge_future-returns-in_err-merge_future_field-clause-kept
merge_future-returns-in_err-merge_future_field-clause-kept t c =
    let old = future_parts c.args.future.now in
    let now = future_parts c.loop-item.future in
    let new = future_parts c.merge_future_field.new.future in
    parts_on old now new c.loop-item.invariant.kept (rows_kept (table future) c.occurrence.result.number now new _
    c.merge_future_field.ensures.kept)

pub merge_future-returns-in_err-merge_future_field-clause-partly :
    goal.merge_future-returns-in_err-merge_future_field-clause-partly
merge_future-returns-in_err-merge_future_field-clause-partly t c =
    let left = c.args.message.now.left in
    let old = future_parts c.args.future.now in
    let now = future_parts c.loop-item.future in
    let new = future_parts c.merge_future_field.new.future in
    let items = read_records left c.args.message.now.bytes.now in
    on_err c.from_residual-in_err-merge_future_field.result (IsPartlyMerged left future old items new)
    (fails_now left future old now new items (records_left c.loop-item.item-iterator) c.occurrence.result.number
    c.loop-item.invariant.partly c.in_err-merge_future_field.ensures.kept)

pub merge_future-returns-clause-kept : goal.merge_future-returns-clause-kept
merge_future-returns-clause-kept t c = c.loop-item.invariant.kept

pub merge_future-loop-item-init : goal.merge_future-loop-item-init
merge_future-loop-item-init t c =
    let left = c.args.message.now.left in
    let bytes = c.args.message.now.bytes.now in
    let old = future_parts c.args.future.now in
    let e : records_left c.into_iter-item-iterator.result ≡ read_records left bytes =
    ap records_left c.into_iter-item-iterator.ensures.into_iter_gives ∙ c.within-item-items.ensures.computed in
    record {
      lies = rw c.into_iter-item-iterator.ensures.into_iter_gives c.within-item-items.ensures.lies;
      rest = ap (fold_read (merged_with left future) old) e;
      kept = parts_same old;
      partly = so_far_none left future old (read_records left bytes) (records_left c.into_iter-item-iterator.result) e;
    }

pub merge_future-loop-item-preserved : goal.merge_future-loop-item-preserved
merge_future-loop-item-preserved t c =
    let left = c.args.message.now.left in
    let bytes = c.args.message.now.bytes.now in
    let old = future_parts c.args.future.now in
    let now = future_parts c.loop-item.future in
    let new = future_parts c.merge_future_field.new.future in
    let rest = records_left c.loop-item.item-iterator in
    let later = records_left c.next.new.self in
    let r = placed_of c.in_ok-found.found in
    let e : rest ≡ Ok r ∷ later = c.in-Some.ensures.steps ∙ ap (λ x. placed_result x ∷ later) c.in_ok-found.was in
    let m : merged_with left future now r.field_record ≡ Some new =
    one_merged left future c.occurrence.result.left (record_in c.occurrence.result) r.field_record now new
    c.occurrence.ensures.left c.occurrence.ensures.same c.in_ok-merge_future_field.ensures.ok in
    record {
      lies = lies_later bytes rest later r e c.loop-item.invariant.lies;
      rest = fold_more left future now new rest later r e m ∙ c.loop-item.invariant.rest;
      kept = parts_on old now new c.loop-item.invariant.kept
          (rows_kept (table future) c.occurrence.result.number now new _ c.merge_future_field.ensures.kept);
      partly = so_far_more left future old now new (read_records left bytes) rest later r e m
          c.loop-item.invariant.partly;
    }

pub extend_futures-returns-clause-kept : goal.extend_futures-returns-clause-kept
extend_futures-returns-clause-kept t c =
    let merged = c.merge_future.new.future in
    let ready : IsOk c.push_mut.result = rw c.in-Ok.is refl in
    let now = (c.push_mut.follows.lender merged).items in
    kept_futures c.args.futures.now.items now (pushed_elements future_part c.args.futures.now.items now merged
    (c.push_mut.follows.holds merged ready).0)

pub extend_futures-returns-in_default-clause-kept : goal.extend_futures-returns-in_default-clause-kept
extend_futures-returns-in_default-clause-kept t c = part_same (futures_part c.args.futures.now.items)

pub extend_futures-returns-in_default-push_mut-clause-kept : goal.extend_futures-returns-in_default-push_mut-clause-kept
extend_futures-returns-in_default-push_mut-clause-kept t c =
    let rested = rw c.in_default-push_mut.is at c.push_mut.follows.holds-at-none in
    let held : c.match-this.futures.items ≡ c.args.futures.now.items = elim c.match-this.branch [
      | extend_futures-in-Err-1 w ↦ ap (λ f. f.items) w.futures-is ∙ rested.0
      | extend_futures-in-Ok-1 w ↦ ap (λ f. f.items) w.futures-is ∙ rested.0
    ] in
    rw held (part_same (futures_part c.args.futures.now.items))
