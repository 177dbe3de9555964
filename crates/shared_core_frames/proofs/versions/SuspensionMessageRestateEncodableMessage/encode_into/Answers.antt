use Rattle.shared_core_frames.proofs.versions.SuspensionMessageRestateEncodableMessage.encode_into.Goals as goal

pub returns-in_default-clause-kept_after_error : goal.returns-in_default-clause-kept_after_error
returns-in_default-clause-kept_after_error g c = g.met.B.FrameBuffer.keeps_itself _
