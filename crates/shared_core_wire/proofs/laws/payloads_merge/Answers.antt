use Rattle.std.proofs.Common.{[], ◌∷◌}
use Rattle.shared_core_wire.proofs.Merging.{accepts_records-append, overlay-append, accepts_payload-append}
use Rattle.shared_core_wire.proofs.Merging.{overlay_bytes-append}
use Rattle.shared_core_wire.proofs.laws.payloads_merge.Goals as goal

pub returns-clause-step : goal.returns-clause-step
returns-clause-step c table left s v rs r g h = (
  accepts_records-append table left s rs (r ∷ []) g h,
  overlay-append
      table left s v rs (r ∷ []) g h,
)

pub returns-clause-merge : goal.returns-clause-merge
returns-clause-merge c table left s v a b g h = (
  accepts_payload-append table left s a b g h,
  overlay_bytes-append table
      left s v a b g h,
)
