-- Among names in order halving finds the first one that is looked for.
use Rattle.std.proofs.Common.{◌≡◌, ℕ, zero, suc, ◌+◌, ◌-◌, ◌<◌, ◌≤◌, List, [], ◌∷◌, length, get_or}
use Rattle.std.proofs.Common.{Option, Some, None, Bool, true, false, cond, ltb, refl, sym, ap, ◌∙◌, arith}
use Rattle.std.proofs.Common.{◌⊎◌, ⊎_elim, inl, inr}
use Rattle.std.proofs.lemmas.Bool.{cases_lt, ltb-true, lt-ltb}
use Rattle.std.proofs.lemmas.Bool.Decides.{nat_tests}
use Rattle.std.proofs.lemmas.Cmp.{alike_right, nat_list_cmp_total, same_from_slice_cmp}
use Rattle.std.specs.List.{position, position_or_len}
use Rattle.std.specs.Ordering.{is_eq, nat_cmp, ordering_reverse}
use Rattle.std.specs.Str.{bytes_eq}
use Rattle.std.specs.declared.cmp.Ordering.{Ordering}
use Rattle.std.specs.declared.cmp.Ordering.TheVariants.{Less, Equal, Greater}
use Rattle.descriptor_set.specs.Found.{AreSorted, by_order, first_index, halved, index_of, middle, name_cmp}

-- ---- the first place of a test

module _ {X : Type 0} (t : X → Bool) (d : X) where
  len_at : (xs : List X) (i : ℕ) → i < length xs → t (get_or xs i d) ≡ true
      → ((j : ℕ) → j < i → t (get_or xs j d) ≡ false) → position_or_len t xs ≡ i
  len_at [] i l e h = absurd (omega arith)
  len_at (x ∷ xs) zero l e h = rw e refl
  len_at (x ∷ xs) (suc i) l e h =
      rw (h 0 (omega arith)) (omega (arith, len_at xs i (omega arith) e (λ j lt. h (suc j) (omega arith))))

  len_none : (xs : List X) → ((i : ℕ) → i < length xs → t (get_or xs i d) ≡ false)
      → position_or_len t xs ≡ length xs
  len_none [] h = refl
  len_none (x ∷ xs) h =
      rw (h 0 (omega arith)) (omega (arith, len_none xs (λ i l. h (suc i) (omega arith))))

  found_there : (xs : List X) (n i : ℕ) → n ≡ i → i < length xs → cond (ltb n (length xs)) (Some n) None ≡ Some i
  found_there xs n i e l = rw (e, lt-ltb i (length xs) l) refl

  by_less : (b : Bool) (n : ℕ) → ltb n n ≡ b → cond b (Some n) None ≡ None
  by_less false n e = refl
  by_less true n e = absurd (omega (arith, ltb-true _ _ e))

  found_nowhere : (xs : List X) (n : ℕ) → n ≡ length xs → cond (ltb n (length xs)) (Some n) None ≡ None
  found_nowhere xs n e = rw e (by_less (ltb (length xs) (length xs)) (length xs) refl)

  pub position_at : (xs : List X) (i : ℕ) → i < length xs → t (get_or xs i d) ≡ true
      → ((j : ℕ) → j < i → t (get_or xs j d) ≡ false) → position t xs ≡ Some i
  position_at xs i l e h = found_there xs _ i (len_at xs i l e h) l

  pub position_none : (xs : List X) → ((i : ℕ) → i < length xs → t (get_or xs i d) ≡ false) → position t xs ≡ None
  position_none xs h = found_nowhere xs _ (len_none xs h)

-- ---- names in order

-- Names are the same as their order says.
tested : (name one : List ℕ) (o : Ordering) → o ≡ name_cmp one name → is_eq o ≡ bytes_eq one name
tested name one o e =
    same_from_slice_cmp nat_cmp is_eq bytes_eq refl (λ y ys. refl) (λ x xs. refl)
    (λ x y xs ys r h. grind (arith, nat_tests)) one name o e

module _ (names : List (List ℕ)) (name : List ℕ) (sorted : AreSorted names) where
  abbrev at : ℕ → List ℕ
  at i = get_or names i []

  abbrev IsBefore : ℕ → Type 0
  IsBefore i = name_cmp (at i) name ≡ Less

  abbrev IsAfter : ℕ → Type 0
  IsAfter i = name_cmp (at i) name ≡ Greater

  before_less : (i j : ℕ) → i < j → j < length names → IsBefore j → IsBefore i
  before_less i j lt l e = nat_list_cmp_total.trans (at i) (at j) name (sorted i j lt l) e

  before_equal : (i j : ℕ) → i < j → j < length names → name_cmp (at j) name ≡ Equal → IsBefore i
  before_equal i j lt l e = sym (alike_right nat_list_cmp_total (at j) name (at i) e) ∙ sorted i j lt l

  after_greater : (i j : ℕ) → i < j → j < length names → IsAfter i → IsAfter j
  after_greater i j lt l e =
      let back : name_cmp name (at i) ≡ Less =
      nat_list_cmp_total.antisymm name (at i) ∙ ap ordering_reverse e in
      nat_list_cmp_total.antisymm (at j) name
      ∙ ap ordering_reverse (nat_list_cmp_total.trans name (at i) (at j) back (sorted i j lt l))

  differs_before : (i : ℕ) → IsBefore i → bytes_eq (at i) name ≡ false
  differs_before i e = sym (tested name (at i) Less (sym e))

  differs_after : (i : ℕ) → IsAfter i → bytes_eq (at i) name ≡ false
  differs_after i e = sym (tested name (at i) Greater (sym e))

  here : (i : ℕ) → i < length names → name_cmp (at i) name ≡ Equal → first_index names name ≡ Some i
  here i l e =
      position_at (λ one. bytes_eq one name) [] names i l (sym (tested name (at i) Equal (sym e)))
      (λ j lt. differs_before j (before_equal j i lt l e))

  nowhere : (low high : ℕ) → high ≤ low → ((i : ℕ) → i < low → IsBefore i)
      → ((i : ℕ) → high ≤ i → i < length names → IsAfter i) → first_index names name ≡ None
  nowhere low high le below above =
      position_none (λ one. bytes_eq one name) [] names (λ i l. ⊎_elim
      (λ (lt : i < low). differs_before i (below i lt))
      (λ (more : low ≤ i). differs_after i (above i (omega arith) l))
      (cases_lt i low))

  by_cases : (o : Ordering) (mid : ℕ) (a b : Option ℕ) → name_cmp (at mid) name ≡ o → mid < length names
      → (IsBefore mid → a ≡ first_index names name) → (IsAfter mid → b ≡ first_index names name)
      → by_order o a (Some mid) b ≡ first_index names name
  by_cases Less mid a b e l less greater = less e
  by_cases Equal mid a b e l less greater = sym (here mid l e)
  by_cases Greater mid a b e l less greater = greater e

  by_test : (t : Bool) (low high : ℕ) (x : Option ℕ) → ltb low high ≡ t → (low < high → x ≡ first_index names name)
      → (first_index names name ≡ None) ⊎ (low < high) → cond t x None ≡ first_index names name
  by_test true low high x e there none = there (ltb-true _ _ e)
  by_test false low high x e there none =
      ⊎_elim (λ (h : first_index names name ≡ None). sym h)
      (λ (lt : low < high). absurd (grind (arith, nat_tests))) none

  up_to : (mid : ℕ) → mid < length names → IsBefore mid → (i : ℕ) → i < mid + 1 → IsBefore i
  up_to mid l e i lt =
      ⊎_elim (λ (less : i < mid). before_less i mid less l e)
      (λ (le : mid ≤ i). let same : mid ≡ i = omega arith in rw (sym same) e) (cases_lt i mid)

  from : (mid : ℕ) → IsAfter mid → (i : ℕ) → mid ≤ i → i < length names → IsAfter i
  from mid e i le l =
      ⊎_elim (λ (less : mid < i). after_greater mid i less l e)
      (λ (more : i ≤ mid). let same : mid ≡ i = omega arith in rw (sym same) e) (cases_lt mid i)

  all_or_some : (low high : ℕ) → ((i : ℕ) → i < low → IsBefore i)
      → ((i : ℕ) → high ≤ i → i < length names → IsAfter i) → (first_index names name ≡ None) ⊎ (low < high)
  all_or_some low high below above =
      ⊎_elim (λ (lt : low < high). inr lt) (λ (le : high ≤ low). inl (nowhere low high le below above))
      (cases_lt low high)

  found : (steps low high : ℕ) → high - low ≤ steps → high ≤ length names → ((i : ℕ) → i < low → IsBefore i)
      → ((i : ℕ) → high ≤ i → i < length names → IsAfter i)
      → halved steps names name low high ≡ first_index names name
  found zero low high few fits below above = sym (nowhere low high (omega arith) below above)
  found (suc steps) low high few fits below above =
      by_test (ltb low high) low high _ refl
      (λ lt. by_cases (name_cmp (at (middle low high)) name) (middle low high) _ _ refl (omega arith)
      (λ less. found steps (middle low high + 1) high (omega arith) fits (up_to (middle low high) (omega arith) less)
      above)
      (λ greater. found steps low (middle low high) (omega arith) (omega arith) below
      (from (middle low high) greater)))
      (all_or_some low high below above)

  pub first : index_of names name ≡ first_index names name
  first =
      found (length names) 0 (length names) (omega arith) (omega arith) (λ i lt. absurd (omega arith))
      (λ i le lt. absurd (omega arith))
