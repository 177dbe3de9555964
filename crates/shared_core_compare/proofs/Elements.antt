-- Lists of values, and the elements that they are.
use Rattle.std.proofs.Common.{◌≡◌, ◌++◌, ◌∷◌, List, [], ℕ, refl, ap}
use Rattle.std.specs.Prelude.{map, flat_map}
use Rattle.std.specs.List.{join_by}
use Rattle.shared_core_wire.specs.Value.{Part, Bytes}
use Rattle.shared_core_codec.specs.FieldParts.{parts_of}
use Rattle.shared_core_compare.specs.Differences.{bytes_of, listed}

flat_elements : {X : Type 0} (part : X → Part) (text : Part → List ℕ) (xs : List X)
    → flat_map (λ x. text (part x)) xs ≡ flat_map text (listed (parts_of part xs))
flat_elements part text [] = refl
flat_elements part text (x ∷ xs) = ap (λ (r : List ℕ). text (part x) ++ r) (flat_elements part text xs)

-- Texts of values are joined as the texts of the elements that they are.
pub joined_elements : {X : Type 0} (part : X → Part) (text : Part → List ℕ) (separator : List ℕ) (xs : List X)
    → join_by (λ x. text (part x)) separator xs ≡ join_by text separator (listed (parts_of part xs))
joined_elements part text separator [] = refl
joined_elements part text separator (x ∷ xs) = ap (λ (r : List ℕ). text (part x) ++ r)
    (flat_elements part (λ p. separator ++ text p) xs)

-- Byte strings are those that their elements hold.
pub byte_strings : (xs : List (List ℕ)) → xs ≡ map bytes_of (listed (parts_of Bytes xs))
byte_strings [] = refl
byte_strings (x ∷ xs) = ap (λ (r : List (List ℕ)). x ∷ r) (byte_strings xs)
