use Rattle.shared_core_codec.proofs.MergingRecords.{joins_next}
use Rattle.shared_core_codec.proofs.record.decode_parts.Goals as goal

pub loop-part-preserved : goal.loop-part-preserved
loop-part-preserved g c =
    joins_next g.M.WireRecord.schema c.args.first c.args.rest.now c.loop-part.part-index c.part-item.result
    (g.M.WireRecord.parts c.loop-part.record) (g.M.WireRecord.parts c.merge_payload.new.target)
    c.loop-part-test.true c.loop-part.invariant
    (rw c.part-item.is at c.in_ok-merge_payload.ensures.accepted)
    (rw c.part-item.is at c.in_ok-merge_payload.ensures.merged)
