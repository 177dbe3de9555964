use Rattle.std.proofs.Common.{◌≡◌, ◌∷◌, false, Ok, Some, ap, ◌∙◌}
use Rattle.shared_core_codec.proofs.Keeping.{on_err, parts_same, parts_on, rows_kept, rows_stay, fails_now, one_merged}
use Rattle.shared_core_codec.proofs.Keeping.{fold_more, lies_later, so_far_none, so_far_more}
use Rattle.shared_core_codec.specs.Folding.{fold_read}
use Rattle.shared_core_codec.specs.Kept.{IsPartlyMerged}
use Rattle.shared_core_codec.specs.Occurrences.{merged_with, record_in}
use Rattle.shared_core_codec.specs.Table.{table}
use Rattle.shared_core_wire.specs.ReadRecords.{read_records}
use Rattle.shared_core_wire.specs.RecordsLeft.{records_left, placed_of, placed_result}
use Rattle.shared_core_codec.proofs.record.merge_occurrences.Goals as goal

pub returns-in_err-found-clause-kept : goal.returns-in_err-found-clause-kept
returns-in_err-found-clause-kept g c = c.loop-item.invariant.kept

pub returns-in_err-found-clause-partly : goal.returns-in_err-found-clause-partly
returns-in_err-found-clause-partly g c =
    let left = c.args.message.now.left in
    let s = g.M.WireRecord.schema in
    let old = g.M.WireRecord.parts c.args.target.now in
    let now = g.M.WireRecord.parts c.loop-item.target in
    let items = read_records left c.args.message.now.bytes.now in
    on_err c.from_residual.result (IsPartlyMerged left s old items now)
    (fails_now left s old now now items (records_left c.loop-item.item-iterator) 0 c.loop-item.invariant.partly
    (rows_stay (table s) 0 now false))

pub returns-in_err-merge_field-clause-kept : goal.returns-in_err-merge_field-clause-kept
returns-in_err-merge_field-clause-kept g c =
    let old = g.M.WireRecord.parts c.args.target.now in
    let now = g.M.WireRecord.parts c.loop-item.target in
    let new = g.M.WireRecord.parts c.merge_field.new.self in
    parts_on old now new c.loop-item.invariant.kept (rows_kept (table g.M.WireRecord.schema) c.occurrence.result.number
    now new _ c.merge_field.ensures.kept)

pub returns-in_err-merge_field-clause-partly : goal.returns-in_err-merge_field-clause-partly
returns-in_err-merge_field-clause-partly g c =
    let left = c.args.message.now.left in
    let s = g.M.WireRecord.schema in
    let old = g.M.WireRecord.parts c.args.target.now in
    let now = g.M.WireRecord.parts c.loop-item.target in
    let new = g.M.WireRecord.parts c.merge_field.new.self in
    let items = read_records left c.args.message.now.bytes.now in
    on_err c.from_residual-in_err-merge_field.result (IsPartlyMerged left s old items new)
    (fails_now left s old now new items (records_left c.loop-item.item-iterator) c.occurrence.result.number
    c.loop-item.invariant.partly c.in_err-merge_field.ensures.kept)

pub returns-clause-kept : goal.returns-clause-kept
returns-clause-kept g c = c.loop-item.invariant.kept

pub loop-item-init : goal.loop-item-init
loop-item-init g c =
    let left = c.args.message.now.left in
    let s = g.M.WireRecord.schema in
    let bytes = c.args.message.now.bytes.now in
    let old = g.M.WireRecord.parts c.args.target.now in
    let e : records_left c.into_iter-item-iterator.result ≡ read_records left bytes =
    ap records_left c.into_iter-item-iterator.ensures.into_iter_gives ∙ c.within-item-items.ensures.computed in
    record {
      lies = rw c.into_iter-item-iterator.ensures.into_iter_gives c.within-item-items.ensures.lies;
      rest = ap (fold_read (merged_with left s) old) e;
      kept = parts_same old;
      partly = so_far_none left s old (read_records left bytes) (records_left c.into_iter-item-iterator.result) e;
    }

pub loop-item-preserved : goal.loop-item-preserved
loop-item-preserved g c =
    let left = c.args.message.now.left in
    let s = g.M.WireRecord.schema in
    let bytes = c.args.message.now.bytes.now in
    let old = g.M.WireRecord.parts c.args.target.now in
    let now = g.M.WireRecord.parts c.loop-item.target in
    let new = g.M.WireRecord.parts c.merge_field.new.self in
    let rest = records_left c.loop-item.item-iterator in
    let later = records_left c.next.new.self in
    let r = placed_of c.in_ok-found.found in
    let e : rest ≡ Ok r ∷ later = c.in-Some.ensures.steps ∙ ap (λ x. placed_result x ∷ later) c.in_ok-found.was in
    let m : merged_with left s now r.field_record ≡ Some new =
    one_merged left s c.occurrence.result.left (record_in c.occurrence.result) r.field_record now new
    c.occurrence.ensures.left c.occurrence.ensures.same c.in_ok-merge_field.ensures.ok in
    record {
      lies = lies_later bytes rest later r e c.loop-item.invariant.lies;
      rest = fold_more left s now new rest later r e m ∙ c.loop-item.invariant.rest;
      kept = parts_on old now new c.loop-item.invariant.kept
          (rows_kept (table s) c.occurrence.result.number now new _ c.merge_field.ensures.kept);
      partly = so_far_more left s old now new (read_records left bytes) rest later r e m c.loop-item.invariant.partly;
    }
