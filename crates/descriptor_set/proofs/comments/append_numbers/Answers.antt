use Rattle.shared_core_wire.specs.Reader.{varint_at}
use Rattle.descriptor_set.proofs.FoundComments.{pushed}
use Rattle.descriptor_set.proofs.comments.append_numbers.Goals as goal

pub loop-most-preserved : goal.loop-most-preserved
loop-most-preserved c =
    pushed c.push.new.self.items c.loop-most.numbers.items c.low_32.result c.loop-most.most c.in-Some.number
    c.in-Some.after.now (varint_at c.loop-most.rest.now) _ c.loop-most-test.true c.in_ok-push.ensures.items
    c.low_32.ensures c.in-Some.ensures c.loop-most.invariant
