use Rattle.shared_core.proofs.DecodedFrames.{others_ask_nothing, proposal_asks}
use Rattle.shared_core.proofs.laws.acknowledgement_requests_are_read_back.Goals as goal

pub returns-clause-proposals : goal.returns-clause-proposals
returns-clause-proposals c = proposal_asks

pub returns-clause-others : goal.returns-clause-others
returns-clause-others c = others_ask_nothing
