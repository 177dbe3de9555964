-- Levels of messages.
use Rattle.std.proofs.Common.{◌≡◌, ◌-◌, ◌<◌, ℕ, zero, suc, List, refl, arith}
use Rattle.shared_core_wire.specs.Value.{Parts}
use Rattle.show_lines.specs.Contents.{value_fields}
use Rattle.field_paths.specs.Paths.{found_among, found_at, Lacking}

-- one level less
pub levels_less : (levels s : ℕ) (value : Parts) (path : List ℕ) → 0 < levels → found_at levels s value path
    ≡ found_among (found_at (levels - 1)) s path 0 0 (value_fields s value)
levels_less zero s value path some = absurd (omega (arith, some))
levels_less (suc levels) s value path some = let less : suc levels - 1 ≡ levels = omega arith in rw less refl

pub no_levels : (levels s : ℕ) (value : Parts) (path : List ℕ) → levels ≡ 0
    → found_at levels s value path ≡ Lacking s path
no_levels levels s value path none = rw none refl
