use Rattle.std.proofs.Common.{◌≡◌, ◌+◌, ◌*◌}
use Rattle.shared_core_wire.specs.ReadRecords.{read_records}
use Rattle.shared_core_wire.specs.RecordsLeft.{records_left}
use Rattle.shared_core_wire.specs.Places.{EachLies}
use Rattle.shared_core_codec.specs.Table.{future}
use Rattle.shared_core_codec.specs.Folding.{fold_read}
use Rattle.shared_core_codec.specs.Kept.{PartsKept}
use Rattle.shared_core_codec.specs.Occurrences.{merged_with}
use Rattle.shared_core_codec.proofs.Keeping.{IsMergedSoFar}
use Rattle.shared_core_parts.specs.Futures.{future_parts}
use Rattle.shared_core_parts.proofs.future.+merge_future.Given as goal

abbrev pub decreases-merge_future : goal.decreases-merge_future
decreases-merge_future l = 3 * l.message.now.left + 2

abbrev pub decreases-merge_future_field : goal.decreases-merge_future_field
decreases-merge_future_field l = 3 * l.field.now.left + 1

abbrev pub decreases-extend_futures : goal.decreases-extend_futures
decreases-extend_futures l = 3 * l.field.now.left

abbrev pub invariant-merge_future-loop-item : goal.invariant-merge_future-loop-item
invariant-merge_future-loop-item l = record {
  lies : EachLies l.message.bytes.now (records_left l.item-iterator);
  rest : fold_read (merged_with l.message.left future) (future_parts l.future) (records_left l.item-iterator) ≡
      fold_read (merged_with l.message.left future) (future_parts l.fn.future)
      (read_records l.message.left l.message.bytes.now);
  kept : PartsKept (future_parts l.fn.future) (future_parts l.future);
  partly : IsMergedSoFar l.message.left future (future_parts l.fn.future)
      (read_records l.message.left l.message.bytes.now) (future_parts l.future) (records_left l.item-iterator);
}
