use Rattle.shared_core_wire.proofs.ReadBackLevels.{canonical_back}
use Rattle.shared_core_wire.proofs.laws.canonical_payload_is_read_back.Goals as goal

pub returns : goal.returns
returns c table schemas left s v h = canonical_back table schemas left s v h.0 h.1 h.2
