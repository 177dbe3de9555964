use Rattle.shared_core.proofs.DecodedFrames.{suspension_decodes}
use Rattle.shared_core.proofs.laws.flat_suspensions_decode_to_their_lists.Goals as goal

pub returns : goal.returns
returns c = suspension_decodes
