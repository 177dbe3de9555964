-- The last of values that come after others.
use Rattle.std.proofs.Common.{◌≡◌, List, [], ◌∷◌, ◌++◌, refl}
use Rattle.std.specs.Prelude.{Option, Some}
use Rattle.std.specs.List.{last_or}
use Rattle.descriptor_set.specs.Values.{last_of}

pub last_of_more : {A : Type 0} → (last : A) (xs ys : List A) → last_of last (xs ++ ys) ≡ last_of (last_of last xs) ys
last_of_more last [] ys = refl
last_of_more last (x ∷ xs) ys = last_of_more x xs ys

pub last_or_more : {A : Type 0} → (last : Option A) (xs ys : List A) →
    last_or last (xs ++ ys) ≡ last_or (last_or last xs) ys
last_or_more last [] ys = refl
last_or_more last (x ∷ xs) ys = last_or_more (Some x) xs ys
