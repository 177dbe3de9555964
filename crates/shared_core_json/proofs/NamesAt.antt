-- The names of a schema in the program's table.
use Rattle.std.proofs.Common.{◌≡◌, ℕ, zero, suc, ◌<◌, ◌≤◌, List, [], ◌∷◌, map, length, get_or, refl, arith}
use Rattle.shared_core_json.specs.Fields.{names_at}

module _ {A B : Type 0} (view : A → List (ℕ × B)) where
  pub at_index : (xs : List A) (s : ℕ) (d : A) → s < length xs → view (get_or xs s d) ≡ names_at (map view xs) s
  at_index [] s d h = absurd (omega arith)
  at_index (x ∷ xs) zero d h = refl
  at_index (x ∷ xs) (suc s) d h = at_index xs s d (omega arith)

  pub past_end : (xs : List A) (s : ℕ) → length xs ≤ s → [] ≡ names_at (map view xs) s
  past_end [] s h = refl
  past_end (x ∷ xs) zero h = absurd (omega arith)
  past_end (x ∷ xs) (suc s) h = past_end xs s (omega arith)
