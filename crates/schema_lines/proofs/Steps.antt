-- A step of a loop over a list, and where one of two lists has ended.
use Rattle.std.proofs.Common.{◌≡◌, ℕ, zero, suc, ◌+◌, ◌<◌, Option, None, List, [], ◌∷◌, length, get_or, drop, refl}
use Rattle.std.proofs.Common.{ap, sym}
use Rattle.std.proofs.Common.{add-one, drop-cons, arith, Bor}
use Rattle.descriptor_set.specs.declared.set.DescriptorSet.{DescriptorSet}
use Rattle.schema_lines.specs.MessageNames.{texts}
use Rattle.schema_lines.specs.Named.{filled, none_of, suspended}

-- What is left is an element and what is left then.
pub drop_item : {A : Type 0} (xs : List A) (i : ℕ) (x : A) → i < length xs → x ≡ get_or xs i x
    → drop i xs ≡ x ∷ drop (i + 1) xs
drop_item xs i x l e = rw (add-one, drop-cons xs i x) (ap (λ y. y ∷ drop (suc i) xs) (sym e))

none_next : (names : List (Bor (List ℕ))) (i : ℕ) → i < length names
    → none_of (texts (drop i names)) ≡ None ∷ none_of (texts (drop (suc i) names))
none_next [] i l = absurd (omega arith)
none_next (name ∷ names) zero l = refl
none_next (name ∷ names) (suc i) l = none_next names i (omega arith)

pub none_step : (names : List (Bor (List ℕ))) (i : ℕ) → i < length names
    → none_of (texts (drop i names)) ≡ None ∷ none_of (texts (drop (i + 1) names))
none_step names i l = rw add-one (none_next names i l)

-- Without messages nothing follows.
pub filled_none : (set : DescriptorSet) (taken : List ℕ) (names : List (List ℕ)) (named : List (Option ℕ))
    → length named ≡ 0 → filled set taken names named ≡ []
filled_none set taken [] named e = refl
filled_none set taken (name ∷ names) [] e = refl
filled_none set taken (name ∷ names) (found ∷ named) e = absurd (omega arith)

pub suspended_none : (before : Option ℕ) (names : List (List ℕ)) (named : List (Option ℕ)) → length named ≡ 0
    → suspended before names named ≡ []
suspended_none before [] named e = refl
suspended_none before (name ∷ names) [] e = refl
suspended_none before (name ∷ names) (found ∷ named) e = absurd (omega arith)
