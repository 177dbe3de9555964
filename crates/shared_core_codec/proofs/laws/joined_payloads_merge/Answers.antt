use Rattle.shared_core_codec.proofs.PayloadLaws.{joined_payloads}
use Rattle.shared_core_codec.proofs.laws.joined_payloads_merge.Goals as goal

pub returns : goal.returns
returns g c = joined_payloads g.M.WireRecord.schema
