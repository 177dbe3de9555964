use Rattle.shared_core_frames.proofs.Joining.{rest_filled}
use Rattle.shared_core_frames.proofs.chunks.FrameChunks.pop.Goals as goal

pub invariant_of-self : goal.invariant_of-self
invariant_of-self c =
    rest_filled c.pop_front.result c.self.inside.chunks.items _ c.pop_front.ensures.items c.self.invariant
