use Rattle.shared_core.proofs.DecodedFrames.{form_decodes}
use Rattle.shared_core.proofs.laws.written_frames_decode_to_their_values.Goals as goal

pub returns : goal.returns
returns c = form_decodes
