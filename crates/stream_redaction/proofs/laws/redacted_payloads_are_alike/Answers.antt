use Rattle.stream_redaction.proofs.Accepted.{length_payload, well_formed_alike}
use Rattle.stream_redaction.proofs.laws.redacted_payloads_are_alike.Goals as goal

pub returns-clause-long : goal.returns-clause-long
returns-clause-long c = length_payload

pub returns-clause-well_formed : goal.returns-clause-well_formed
returns-clause-well_formed c = well_formed_alike
