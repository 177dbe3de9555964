-- Values by their places.
use Rattle.std.specs.Prelude.{◌≡◌, ℕ, Bool, true, false, List, [], ◌∷◌, map, nat_eq, nat_lt, if◌then◌else◌}
use Rattle.std.specs.List.{filter}
use Rattle.shared_core_canonical.specs.declared.places.Placed.{Placed}

-- Those that have a place.
abbrev pub at_place : {T : Type 0} → ℕ → List (Placed T) → List (Placed T)
at_place place ps = filter (λ p. nat_eq p.place place) ps

-- The values, without their places.
abbrev pub placed_values : {T : Type 0} → List (Placed T) → List T
placed_values ps = map (λ p. p.value) ps

-- The values at a place.
abbrev pub values_at : {T : Type 0} → ℕ → List (Placed T) → List T
values_at place ps = placed_values (at_place place ps)

-- The values as a view has them, with their places and without.
abbrev pub placed_views : {T V : Type 0} → (T → V) → List (Placed T) → List (Placed V)
placed_views view ps = map (λ p. record { place = p.place; value = view p.value }) ps

abbrev pub views : {T V : Type 0} → (T → V) → List (Placed T) → List V
views view ps = map (λ p. view p.value) ps

-- Whether no place is below the one before it, and the first one is not below this one.
abbrev pub rise_from : {T : Type 0} → ℕ → List (Placed T) → Bool
rise_from low [] = true
rise_from low (p ∷ ps) = if nat_lt p.place low then false else rise_from p.place ps

-- Those that have a place, before the first one that has another.
abbrev pub front_at : {T : Type 0} → ℕ → List (Placed T) → List (Placed T)
front_at place [] = []
front_at place (p ∷ ps) = if nat_eq p.place place then p ∷ front_at place ps else []

-- The values of the first list by their places: the places rise, and the values of each keep their order.
pub record AreByPlace {T : Type 0} (xs ys : List (Placed T)) : Type 0 where
  pub rising : rise_from 0 ys ≡ true
  pub same : (place : ℕ) → at_place place ys ≡ at_place place xs

-- The program's values, as a view has them, are those of a list by their places: the places rise, and the values of
-- each keep their order.
pub record AreInOrder {T V : Type 0} (view : T → V) (vs : List (Placed V)) (ps : List (Placed T)) : Type 0 where
  pub rising : rise_from 0 ps ≡ true
  pub same : (place : ℕ) → views view (at_place place ps) ≡ values_at place vs
