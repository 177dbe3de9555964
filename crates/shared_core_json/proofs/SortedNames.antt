-- Names in the order of their numbers, and what is found among them by halves.
use Rattle.std.proofs.Common.{◌≡◌, ℕ, zero, suc, ◌<◌, ◌≤◌, List, [], ◌∷◌, map, length, get_or, cond, Option, Some, None}
use Rattle.std.proofs.Common.{Bool, true, false, refl, sym, ap, arith, eqb, ltb, eq-eqb, Err}
use Rattle.std.proofs.Common.{⊎_elim}
use Rattle.std.proofs.lemmas.Bool.{ltb-true, eqb-true, cases_lt}
use Rattle.std.proofs.lemmas.Bool.Decides.{nat_tests}
use Rattle.std.proofs.lemmas.Cmp.{ranked}
use Rattle.std.specs.Option.{option_or, option_map}
use Rattle.std.specs.Ordering.{nat_cmp, ordering_index}
use Rattle.std.specs.declared.cmp.Ordering.TheVariants.{Equal}
use Rattle.std.specs.List.Sorted.{IsBinarySearchResult}
use Rattle.shared_core_json.specs.Fields.{names_at, value_at}
use Rattle.shared_core_json.specs.LoadedNames.{unsorted_after, error_from}

-- ---- schemas

or_none : {T : Type 0} → (a b : Option T) → option_or a b ≡ None → (a ≡ None) × (b ≡ None)
or_none None b e = (refl, e)
or_none (Some x) b e = absurd cc

map_none : {T U : Type 0} → (f : T → U) (o : Option T) → option_map f o ≡ None → o ≡ None
map_none f None e = refl
map_none f (Some x) e = absurd cc

pub all_sorted : (k : ℕ) (all : List (List (ℕ × List ℕ))) → error_from k all ≡ None → (s : ℕ)
    → unsorted_after 0 (names_at all s) ≡ None
all_sorted k [] e s = refl
all_sorted k (names ∷ all) e zero = map_none _ _ (or_none _ _ e).0
all_sorted k (names ∷ all) e (suc s) = all_sorted (suc k) all (or_none _ _ e).1 s

-- ---- what a schema has by numbers

-- what else a number has is in the same order
pub same_order : {X A B : Type 0} (f : X → ℕ × A) (g : X → ℕ × B) → ((x : X) → (f x).0 ≡ (g x).0) → (before : ℕ)
    (xs : List X) → unsorted_after before (map f xs) ≡ unsorted_after before (map g xs)
same_order f g same before [] = refl
same_order f g same before (x ∷ xs) =
    rw (same x) (ap (λ o. cond (ltb before (g x).0) o (Some (g x).0)) (same_order f g same (g x).0 xs))

module _ {X A : Type 0} (view : X → ℕ × A) (other : A) where
  record First (before : ℕ) (x : X) (xs : List X) : Type 0 where
    above : before < (view x).0
    rest : unsorted_after (view x).0 (map view xs) ≡ None

  first : (before : ℕ) (x : X) (xs : List X) → unsorted_after before (map view (x ∷ xs)) ≡ None → First before x xs
  first before x xs h = by_test (ltb before (view x).0) refl h
    where
      by_test : (b : Bool) → ltb before (view x).0 ≡ b
          → cond b (unsorted_after (view x).0 (map view xs)) (Some (view x).0) ≡ None → First before x xs
      by_test true e g = record { above = ltb-true _ _ e; rest = g }
      by_test false e g = absurd cc

  -- each is greater than what comes before the first
  above : (before : ℕ) (xs : List X) (i : ℕ) (d : X) → unsorted_after before (map view xs) ≡ None → i < length xs
      → before < (view (get_or xs i d)).0
  above before [] i d h l = absurd (omega arith)
  above before (x ∷ xs) zero d h l = (first before x xs h).above
  above before (x ∷ xs) (suc i) d h l =
      let f = first before x xs h in
      omega (arith, f.above, above (view x).0 xs i d f.rest (omega arith))

  rise : (before : ℕ) (xs : List X) (i j : ℕ) (d : X) → unsorted_after before (map view xs) ≡ None → i ≤ j
      → j < length xs → (view (get_or xs i d)).0 ≤ (view (get_or xs j d)).0
  rise before [] i j d h le l = absurd (omega arith)
  rise before (x ∷ xs) zero zero d h le l = omega arith
  rise before (x ∷ xs) zero (suc j) d h le l =
      let f = first before x xs h in
      omega (arith, above (view x).0 xs j d f.rest (omega arith))
  rise before (x ∷ xs) (suc i) zero d h le l = absurd (omega arith)
  rise before (x ∷ xs) (suc i) (suc j) d h le l =
      let f = first before x xs h in
      rise (view x).0 xs i j d f.rest (omega arith) (omega arith)

  -- the name at the place of its number
  at_place : (before : ℕ) (xs : List X) (i n : ℕ) (d : X) → unsorted_after before (map view xs) ≡ None → i < length xs
      → (view (get_or xs i d)).0 ≡ n → value_at other (map view xs) n ≡ (view (get_or xs i d)).1
  at_place before [] i n d h l e = absurd (omega arith)
  at_place before (x ∷ xs) zero n d h l e = rw (eq-eqb n (view x).0 (sym e)) refl
  at_place before (x ∷ xs) (suc i) n d h l e =
      let f = first before x xs h in
      let more : (view x).0 < (view (get_or xs i d)).0 = above (view x).0 xs i d f.rest (omega arith) in
      by_test (eqb n (view x).0) refl more (at_place (view x).0 xs i n d f.rest (omega arith) e)
    where
      by_test : (b : Bool) → eqb n (view x).0 ≡ b → (view x).0 < (view (get_or xs i d)).0
          → value_at other (map view xs) n ≡ (view (get_or xs i d)).1
          → cond b (view x).1 (value_at other (map view xs) n) ≡ (view (get_or xs i d)).1
      by_test true q g later = absurd (omega (arith, eqb-true _ _ q, e, g))
      by_test false q g later = later

  -- a number that no name has
  nowhere : (xs : List X) (n : ℕ) → ((i : ℕ) (d : X) → i < length xs → (view (get_or xs i d)).0 ≡ n → ⊥)
      → value_at other (map view xs) n ≡ other
  nowhere [] n never = refl
  nowhere (x ∷ xs) n never = by_test (eqb n (view x).0) refl
      (nowhere xs n (λ i d l e. never (suc i) d (omega (arith, l)) e))
    where
      by_test : (b : Bool) → eqb n (view x).0 ≡ b → value_at other (map view xs) n ≡ other
          → cond b (view x).1 (value_at other (map view xs) n) ≡ other
      by_test true q later = absurd (never 0 x (omega arith) (sym (eqb-true _ _ q)))
      by_test false q later = later

  -- ---- what a search by halves finds

  module _ (xs : List X) (n : ℕ) (sorted : unsorted_after 0 (map view xs) ≡ None) where
    pub found : (i : ℕ) (d : X) → nat_cmp (view (get_or xs i d)).0 n ≡ Equal → i < length xs
        → (view (get_or xs i d)).1 ≡ value_at other (map view xs) n
    found i d h l = sym (at_place 0 xs i n d sorted l (ranked (view (get_or xs i d)).0 n _ (sym h)))

    higher : (a b : ℕ) → a ≤ b → ordering_index (nat_cmp a n) ≤ ordering_index (nat_cmp b n)
    higher a b le = grind (arith, nat_tests)

    pub absent : (i : ℕ) → IsBinarySearchResult (λ x. nat_cmp (view x).0 n) xs (Err i) → other ≡ value_at other (map
        view xs) n
    absent i h =
        let parted = h (λ a b d le lt. higher (view (get_or xs a d)).0 (view (get_or xs b d)).0
        (rise 0 xs a b d sorted le lt)) in
        sym (nowhere xs n (λ j d l e. ⊎_elim
        (λ (lt : j < i). omega (arith, ranked (view (get_or xs j d)).0 n _ (sym (parted.0 j d (omega arith) lt)), e))
        (λ (le : i ≤ j). omega (arith, ranked (view (get_or xs j d)).0 n _ (sym (parted.1 j d le l)), e))
        (cases_lt j i)))
