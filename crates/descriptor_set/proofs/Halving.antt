-- A step of a search by halves.
use Rattle.std.proofs.Common.{◌≡◌, ℕ, zero, suc, ◌+◌, ◌-◌, ◌<◌, ◌≤◌, List, [], length, map, get_or}
use Rattle.std.proofs.Common.{Option, Some, None, Bool, true, false, cond, ltb, refl, sym, ap, ◌∙◌, arith}
use Rattle.std.proofs.lemmas.Bool.{ltb-true, lt-ltb}
use Rattle.std.proofs.lemmas.List.{get_or-map}
use Rattle.std.specs.declared.cmp.Ordering.{Ordering}
use Rattle.std.specs.declared.cmp.Ordering.TheVariants.{Less, Equal, Greater}
use Rattle.descriptor_set.specs.Found.{by_order, halved, middle, name_cmp}

module _ (names : List (List ℕ)) (name : List ℕ) where
  -- One of three, if there is a place left.
  abbrev one_of : Bool → ℕ → Option ℕ → Option ℕ → Option ℕ
  one_of t mid above below = cond t (by_order (name_cmp (get_or names mid []) name) above (Some mid) below) None

  same_of : (t : Bool) (low high mid : ℕ) (a b c d : Option ℕ) → ltb low high ≡ t → (low < high → a ≡ b)
      → (low < high → c ≡ d) → one_of t mid a c ≡ one_of t mid b d
  same_of false low high mid a b c d e above below = refl
  same_of true low high mid a b c d e above below =
      ap (λ one. one_of true mid one c) (above (ltb-true _ _ e))
      ∙ ap (λ one. one_of true mid b one) (below (ltb-true _ _ e))

  none_left : (t : Bool) (low high : ℕ) (x : Option ℕ) → ltb low high ≡ t → high ≤ low → cond t x None ≡ None
  none_left false low high x e le = refl
  none_left true low high x e le = absurd (omega (arith, ltb-true _ _ e))

  -- More steps than there are places change nothing.
  enough : (m n low high : ℕ) → high - low ≤ m → high - low ≤ n
      → halved m names name low high ≡ halved n names name low high
  enough zero zero low high a b = refl
  enough zero (suc n) low high a b = sym (none_left (ltb low high) low high _ refl (omega arith))
  enough (suc m) zero low high a b = none_left (ltb low high) low high _ refl (omega arith)
  enough (suc m) (suc n) low high a b =
      same_of (ltb low high) low high (middle low high) _ _ _ _ refl
      (λ lt. enough m n (middle low high + 1) high (omega arith) (omega arith))
      (λ lt. enough m n low (middle low high) (omega arith) (omega arith))

  -- A step, where the middle one compares so.
  opened : (low high : ℕ) (order : Ordering) → low < high → name_cmp (get_or names (middle low high) []) name ≡ order
      → halved (high - low) names name low high
      ≡ by_order order (halved (high - low - 1) names name (middle low high + 1) high) (Some (middle low high))
      (halved (high - low - 1) names name low (middle low high))
  opened low high order lt e =
      let k : high - low ≡ suc (high - low - 1) = omega arith in
      ap (λ steps. halved steps names name low high) k
      ∙ ap (λ t. one_of t (middle low high) (halved (high - low - 1) names name (middle low high + 1) high)
      (halved (high - low - 1) names name low (middle low high))) (lt-ltb low high lt)
      ∙ ap (λ o. by_order o (halved (high - low - 1) names name (middle low high + 1) high) (Some (middle low high))
      (halved (high - low - 1) names name low (middle low high))) e

  pub less_step : (low high : ℕ) → low < high → name_cmp (get_or names (middle low high) []) name ≡ Less
      → halved (high - (middle low high + 1)) names name (middle low high + 1) high
      ≡ halved (high - low) names name low high
  less_step low high lt e =
      enough _ (high - low - 1) (middle low high + 1) high (omega arith) (omega arith)
      ∙ sym (opened low high Less lt e)

  pub greater_step : (low high : ℕ) → low < high → name_cmp (get_or names (middle low high) []) name ≡ Greater
      → halved (middle low high - low) names name low (middle low high)
      ≡ halved (high - low) names name low high
  greater_step low high lt e =
      enough _ (high - low - 1) low (middle low high) (omega arith) (omega arith)
      ∙ sym (opened low high Greater lt e)

  pub equal_step : (low high : ℕ) → low < high → name_cmp (get_or names (middle low high) []) name ≡ Equal
      → halved (high - low) names name low high ≡ Some (middle low high)
  equal_step low high lt e = opened low high Equal lt e

-- How the middle one compares, by the element of that name.
pub compared : {T : Type 0} (f : T → List ℕ) (items : List T) (i : ℕ) (x : T) (shown name : List ℕ) (order : Ordering)
    → i < length items → x ≡ get_or items i x → shown ≡ f x → order ≡ name_cmp shown name
    → name_cmp (get_or (map f items) i []) name ≡ order
compared f items i x shown name order lt e is o =
    ap (λ one. name_cmp one name) (get_or-map f items i x [] lt ∙ ap f (sym e) ∙ sym is) ∙ sym o
