-- Values by their places.
use Rattle.std.proofs.Common.{◌≡◌, ℕ, suc, ◌+◌, ◌<◌, ◌≤◌, List, [], ◌∷◌, Bool, true, false, cond, ◌&&◌, not, eqb, ltb}
use Rattle.std.proofs.Common.{refl, sym, ap, ◌∙◌, length, drop, drop-drop, length-drop, get_or, arith, subst}
use Rattle.std.proofs.Common.{Result, Ok, Err, OnOk}
use Rattle.std.specs.List.Sorted.{IsNonDecreasingBy, IsStableByKey, ties}
use Rattle.std.specs.declared.cmp.Ordering.TheVariants.{Less, Equal, Greater}
use Rattle.std.specs.Ordering.{is_lt, nat_cmp}
use Rattle.std.proofs.lemmas.Bool.{eqb-true, eqb-false, ltb-true, ltb-false, le-ltb, ne_eqb}
use Rattle.std.proofs.lemmas.List.Elements.{filter_agree}
use Rattle.shared_core_canonical.specs.declared.places.Placed.{Placed}
use Rattle.shared_core_canonical.specs.Places.{AreByPlace, AreInOrder, at_place, front_at, placed_values}
use Rattle.shared_core_canonical.specs.Places.{placed_views, rise_from, values_at, views}

-- ---- numbers

pub equal_less : (n m : ℕ) → n < m → eqb n m ≡ false
equal_less n m h = ne_eqb n m (λ e. omega arith)

pub equal_more : (n m : ℕ) → n < m → eqb m n ≡ false
equal_more n m h = ne_eqb m n (λ e. omega arith)

above : (low n : ℕ) → low ≤ n → eqb n low ≡ false → low < n
above low n h e = by_test (ltb low n) refl
  where
    by_test : (b : Bool) → ltb low n ≡ b → low < n
    by_test true t = ltb-true low n t
    by_test false t = absurd (let up = ltb-false low n t in eqb-false n low e (omega (arith, up)))

first_less : (n m : ℕ) → is_lt (nat_cmp n m) ≡ ltb n m
first_less n m = by_tests (ltb n m) (eqb n m)
  where
    by_tests : (b c : Bool) → is_lt (cond b Less (cond c Equal Greater)) ≡ b
    by_tests true c = refl
    by_tests false true = refl
    by_tests false false = refl

ties_is : (place other : ℕ) → (not (is_lt (nat_cmp place other)) && not (is_lt (nat_cmp other place))) ≡ eqb other place
ties_is place other = rw (first_less place other, first_less other place)
    (by_tests (ltb place other) (ltb other place) (eqb other place) refl refl refl)
  where
    by_tests : (b c e : Bool) → ltb place other ≡ b → ltb other place ≡ c → eqb other place ≡ e → (not b && not c) ≡ e
    by_tests true c true t u v = absurd (let s : other ≡ place = eqb-true other place v in
        let l : place < other = ltb-true place other t in omega arith)
    by_tests true c false t u v = refl
    by_tests false true true t u v = absurd (let s : other ≡ place = eqb-true other place v in
        let l : other < place = ltb-true other place u in omega arith)
    by_tests false true false t u v = refl
    by_tests false false true t u v = refl
    by_tests false false false t u v = absurd (let l : place ≤ other = ltb-false other place u in
        let m : place < other = above place other l v in let n : other ≤ place = ltb-false place other t in omega arith)

-- ---- places that rise

pub on_ok : {A E P Q : Type 0} (r : Result A E) → (P → Q) → OnOk r P → OnOk r Q
on_ok (Ok a) f h = f h
on_ok (Err e) f h = tt

module _ {T : Type 0} where
  -- the first of places that rise, and those after it
  pub record RisesOn (low : ℕ) (p : Placed T) (ps : List (Placed T)) : Type 0 where
    pub first : low ≤ p.place
    pub later : rise_from p.place ps ≡ true

  rises_on : (low : ℕ) (p : Placed T) (ps : List (Placed T)) → rise_from low (p ∷ ps) ≡ true → RisesOn low p ps
  rises_on low p ps h = by_test (ltb p.place low) refl h
    where
      by_test : (b : Bool) → ltb p.place low ≡ b → cond b false (rise_from p.place ps) ≡ true → RisesOn low p ps
      by_test true t g = absurd cc
      by_test false t g = record { first = ltb-false p.place low t; later = g }

  none_at : (place low : ℕ) (ps : List (Placed T)) → place < low → rise_from low ps ≡ true → at_place place ps ≡ []
  none_at place low [] l h = refl
  none_at place low (p ∷ ps) l h =
      let r = rises_on low p ps h in
      let above : place < p.place = omega (arith, r.first) in
      rw (equal_more place p.place above) (none_at place p.place ps above r.later)

  pub front_is : (place : ℕ) (ps : List (Placed T)) → rise_from place ps ≡ true → front_at place ps ≡ at_place place ps
  front_is place [] h = refl
  front_is place (p ∷ ps) h = by_test (front_is place ps) (eqb p.place place) refl
    where
      on : RisesOn place p ps
      on = rises_on place p ps h

      by_test : (rise_from place ps ≡ true → front_at place ps ≡ at_place place ps) → (b : Bool) → eqb p.place place ≡ b
          → cond b (p ∷ front_at place ps) [] ≡ cond b (p ∷ at_place place ps) (at_place place ps)
      by_test later true t = ap (λ (qs : List (Placed T)). p ∷ qs) (later (subst (λ (low : ℕ). rise_from low ps ≡
          true) (eqb-true p.place place t) on.later))
      by_test later false t = sym (none_at place p.place ps (above place p.place on.first t) on.later)

  -- Those from the first one on that has another place.
  abbrev pub behind_place : ℕ → List (Placed T) → List (Placed T)
  behind_place place [] = []
  behind_place place (p ∷ ps) = cond (eqb p.place place) (behind_place place ps) (p ∷ ps)

  behind_is : (place : ℕ) (ps : List (Placed T)) → drop (length (front_at place ps)) ps ≡ behind_place place ps
  behind_is place [] = refl
  behind_is place (p ∷ ps) = by_test (behind_is place ps) (eqb p.place place)
    where
      by_test : drop (length (front_at place ps)) ps ≡ behind_place place ps → (b : Bool) → drop
          (length (cond b (p ∷ front_at place ps) [])) (p ∷ ps) ≡ cond b (behind_place place ps) (p ∷ ps)
      by_test later true = later
      by_test later false = refl

  front_short : (place : ℕ) (ps : List (Placed T)) → length (front_at place ps) ≤ length ps
  front_short place [] = omega arith
  front_short place (p ∷ ps) = by_test (front_short place ps) (eqb p.place place)
    where
      by_test : length (front_at place ps) ≤ length ps → (b : Bool) → length (cond b (p ∷ front_at place ps) []) ≤
          length (p ∷ ps)
      by_test later true = omega arith
      by_test later false = omega arith

  pub behind_rises : (place next : ℕ) (ps : List (Placed T)) → place + 1 ≡ next → rise_from place ps ≡ true → rise_from
      next (behind_place place ps) ≡ true
  behind_rises place next [] e h = refl
  behind_rises place next (p ∷ ps) e h = by_test (behind_rises place next ps e) (eqb p.place place) refl
    where
      on : RisesOn place p ps
      on = rises_on place p ps h

      by_test : (rise_from place ps ≡ true → rise_from next (behind_place place ps) ≡ true) → (b : Bool) → eqb p.place
          place ≡ b → rise_from next (cond b (behind_place place ps) (p ∷ ps)) ≡ true
      by_test later true t = later (subst (λ (low : ℕ). rise_from low ps ≡ true) (eqb-true p.place place t) on.later)
      by_test later false t =
          let up : place < p.place = above place p.place on.first t in
          rw (le-ltb p.place next (omega arith)) on.later

  pub behind_same : (place other : ℕ) (ps : List (Placed T)) → place < other → at_place other (behind_place place ps) ≡
      at_place other ps
  behind_same place other [] l = refl
  behind_same place other (p ∷ ps) l = by_test (behind_same place other ps l) (eqb p.place place) refl
    where
      by_test : at_place other (behind_place place ps) ≡ at_place other ps → (b : Bool) → eqb p.place place ≡ b
          → at_place other (cond b (behind_place place ps) (p ∷ ps)) ≡ at_place other (p ∷ ps)
      by_test later true t =
          let e : p.place ≡ place = eqb-true p.place place t in
          let up : p.place < other = omega arith in
          rw (equal_less p.place other up) later
      by_test later false t = refl

  pub front_within : (place start : ℕ) (own ps : List (Placed T)) → own ≡ front_at place (drop start ps) → start ≤
      length ps → start + length own ≤ length ps
  front_within place start own ps e h =
      let short = front_short place (drop start ps) in
      let long : length own ≡ length (front_at place (drop start ps)) = ap length e in
      omega (arith, short, long, length-drop start ps)

  -- what is left behind the front
  pub left_behind : (place start : ℕ) (ps : List (Placed T)) → drop (start + length (front_at place (drop start ps)))
      ps ≡ behind_place place (drop start ps)
  left_behind place start ps =
      let count = length (front_at place (drop start ps)) in
      sym (drop-drop count start ps) ∙ behind_is place (drop start ps)

  -- ---- what a sort gives

  pub rises : (low : ℕ) (ps : List (Placed T)) → IsNonDecreasingBy (λ p. p.place) ps → ((d : Placed T) → 0 < length ps
      → low ≤ (get_or ps 0 d).place) → rise_from low ps ≡ true
  rises low [] h l = refl
  rises low (p ∷ ps) h l =
      let first : low ≤ p.place = l p (omega arith) in
      rw (le-ltb p.place low first) (rises p.place ps (λ i j d g k. h (suc i) (suc j) d (omega arith) (omega arith))
      (λ d k. h 0 1 d (omega arith) (omega arith)))

  pub stays : (xs ys : List (Placed T)) → length ys ≡ length xs → IsStableByKey (λ p. p.place) nat_cmp xs ys
      → (place : ℕ) → at_place place ys ≡ at_place place xs
  stays [] [] n h place = refl
  stays [] (y ∷ ys) n h place = absurd (omega (arith, n))
  stays (x ∷ xs) ys n h place =
      let one : Placed T = record { place = place; value = x.value } in
      let test : (p : Placed T) → ties (λ a b. is_lt (nat_cmp a.place b.place)) one p ≡ eqb p.place place =
      λ p. ties_is place p.place in
      sym (filter_agree _ _ test ys) ∙ h one ∙ filter_agree _ _ test (x ∷ xs)

-- ---- values of the program, as a view has them

module _ {T V : Type 0} (view : T → V) where
  pub views_at : (place : ℕ) (ps : List (Placed T)) → views view (at_place place ps) ≡ values_at place
      (placed_views view ps)
  views_at place [] = refl
  views_at place (p ∷ ps) = by_test (views_at place ps) (eqb p.place place)
    where
      by_test : views view (at_place place ps) ≡ values_at place (placed_views view ps) → (b : Bool) → views view
          (cond b (p ∷ at_place place ps) (at_place place ps)) ≡ placed_values (cond b
          (record { place = p.place; value = view p.value } ∷ at_place place (placed_views view ps))
          (at_place place (placed_views view ps)))
      by_test later true = ap (λ (vs : List V). view p.value ∷ vs) later
      by_test later false = later

  -- what a sort by places gives
  pub in_order : (vs : List (Placed V)) (found sorted : List (Placed T)) → placed_views view found ≡ vs → AreByPlace
      found sorted → AreInOrder view vs sorted
  in_order vs found sorted e sort = record {
    rising = sort.rising;
    same = λ place. ap (views view) (sort.same place) ∙ views_at place found
        ∙ ap (λ (ws : List (Placed V)). values_at place ws) e;
  }

  -- what the front of values in order holds
  pub front_views : (place start : ℕ) (front ps : List (Placed T)) → front ≡ front_at place (drop start ps) → rise_from
      place (drop start ps) ≡ true → at_place place (drop start ps) ≡ at_place place ps → views view front ≡ views view
      (at_place place ps)
  front_views place start front ps e rising same =
      ap (views view) (e ∙ front_is place (drop start ps) rising ∙ same)
