use Rattle.std.proofs.Common.{◌≡◌}
use Rattle.shared_core_codec.specs.Folding.{fold_read}
use Rattle.shared_core_codec.specs.Kept.{PartsKept}
use Rattle.shared_core_codec.specs.Occurrences.{merged_with}
use Rattle.shared_core_codec.proofs.Keeping.{IsMergedSoFar}
use Rattle.shared_core_wire.specs.ReadRecords.{read_records}
use Rattle.shared_core_wire.specs.RecordsLeft.{records_left}
use Rattle.shared_core_wire.specs.Places.{EachLies}
use Rattle.shared_core_codec.proofs.record.merge_occurrences.Given as goal

abbrev pub invariant-loop-item : goal.invariant-loop-item
invariant-loop-item g l = record {
  lies : EachLies l.message.bytes.now (records_left l.item-iterator);
  rest : fold_read (merged_with l.message.left g.M.WireRecord.schema) (g.M.WireRecord.parts l.target)
      (records_left l.item-iterator) ≡ fold_read (merged_with l.message.left g.M.WireRecord.schema)
      (g.M.WireRecord.parts l.fn.target) (read_records l.message.left l.message.bytes.now);
  kept : PartsKept (g.M.WireRecord.parts l.fn.target) (g.M.WireRecord.parts l.target);
  partly : IsMergedSoFar l.message.left g.M.WireRecord.schema (g.M.WireRecord.parts l.fn.target)
      (read_records l.message.left l.message.bytes.now) (g.M.WireRecord.parts l.target) (records_left l.item-iterator);
}
