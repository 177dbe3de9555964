-- What two texts have in common.
use Rattle.std.proofs.Common.{◌≡◌, ◌<◌, ℕ, List, [], ◌∷◌, length, arith, refl}
use Rattle.std.specs.Prelude.{reverse}
use Rattle.diff_lines.specs.Parted.{common}

none_in_common : (one : List ℕ) → common one [] ≡ 0
none_in_common [] = refl
none_in_common (byte ∷ bytes) = refl

-- nothing is in common with the end of a text that has none
pub none_at_end : (one other : List ℕ) → length other < 1 → common (reverse one) (reverse other) ≡ 0
none_at_end one [] few = none_in_common (reverse one)
none_at_end one (byte ∷ bytes) few = absurd (omega (arith, few))
