use Rattle.shared_core_wire.proofs.RecordLists.{records_listed}
use Rattle.shared_core_wire.proofs.laws.record_list_is_exact.Goals as goal

pub returns : goal.returns
returns c = records_listed
