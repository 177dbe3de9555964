-- Segments of bytes in a row.
use Rattle.std.specs.Prelude.{◌≡◌, ◌<◌, ℕ, List, [], ◌++◌, length, All}
use Rattle.std.specs.List.{concat}

-- The segments have this many bytes together. No segment is empty, except the front one if there is no other.
pub record AreSegments (front : List ℕ) (after : List (List ℕ)) (len : ℕ) : Type 0 where
  pub counted : len ≡ length (front ++ concat after)
  pub filled : All (λ segment. 0 < length segment) after
  pub first : length front ≡ 0 → after ≡ []
