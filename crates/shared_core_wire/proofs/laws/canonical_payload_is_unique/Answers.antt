use Rattle.std.proofs.Common.{ap}
use Rattle.shared_core_wire.specs.Canonical.{canonical_payload}
use Rattle.shared_core_wire.proofs.ReadBackLevels.{canonical_one}
use Rattle.shared_core_wire.proofs.laws.canonical_payload_is_unique.Goals as goal

pub returns : goal.returns
returns c table schemas left s v w g h = (
  λ e. ap (canonical_payload table s) e,
  λ e. canonical_one table schemas left s
      v w g.0 h.0 g.1 h.1 g.2 e,
)
