use Rattle.shared_core.proofs.Frames.{frames_then}
use Rattle.shared_core.proofs.laws.frames_are_read_in_order.Goals as goal

pub returns : goal.returns
returns c = frames_then
