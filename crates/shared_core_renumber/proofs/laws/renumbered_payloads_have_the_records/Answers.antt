use Rattle.shared_core_renumber.proofs.Records.{has_the_records}
use Rattle.shared_core_renumber.proofs.laws.renumbered_payloads_have_the_records.Goals as goal

pub returns : goal.returns
returns c = has_the_records
