use Rattle.std.proofs.Common.{take}
use Rattle.shared_core_codec.proofs.MergingRecords.{Joins}
use Rattle.shared_core_codec.proofs.record.decode_parts.Given as goal

abbrev pub invariant-loop-part : goal.invariant-loop-part
invariant-loop-part g l = Joins g.M.WireRecord.schema l.fn.first (take l.part-index l.rest)
    (g.M.WireRecord.parts l.record)
