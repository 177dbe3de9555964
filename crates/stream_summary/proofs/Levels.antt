-- Levels of messages.
use Rattle.std.proofs.Common.{◌≡◌, ◌-◌, ◌<◌, ℕ, zero, suc, [], refl, arith}
use Rattle.std.specs.Prelude.{flat_map}
use Rattle.shared_core_wire.specs.Value.{Parts}
use Rattle.show_lines.specs.Contents.{value_fields}
use Rattle.stream_summary.specs.Labels.{label, labels}

-- one level less
pub levels_less : (levels s : ℕ) (value : Parts) → 0 < levels → labels levels s value ≡ flat_map (label (levels - 1) s)
    (value_fields s value)
levels_less zero s value some = absurd (omega (arith, some))
levels_less (suc levels) s value some = let less : suc levels - 1 ≡ levels = omega arith in rw less refl

pub no_levels : (levels s : ℕ) (value : Parts) → levels ≡ 0 → labels levels s value ≡ []
no_levels levels s value none = rw none refl
