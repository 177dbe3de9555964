-- The places of names, as the members of an object are traversed.
use Rattle.std.proofs.Common.{◌≡◌, ◌<◌, ◌≤◌, ℕ, zero, suc, List, [], ◌∷◌, length, get_or, replicate, Bool, true, false}
use Rattle.std.proofs.Common.{cond, ◌||◌, Some, None, refl, sym, ap, ap₂, subst, ◌∙◌, eqb, eq-eqb, arith}
use Rattle.std.proofs.Math.ListN.{set, length-set}
use Rattle.std.proofs.lemmas.List.{get_or-set_same, get_or-set_other, get_or-replicate, length-replicate}
use Rattle.std.proofs.lemmas.Bool.{eqb-true, ne_eqb}
use Rattle.json.specs.Json.{Json, Members, no_members, member}
use Rattle.json_table.specs.Entries.{members_len}
use Rattle.json_table.specs.Tails.{last_members, IsTail}
use Rattle.json_table.specs.Places.{PlaceOf, is_place, values_at, first_unknown, unknown_or, place_after, first_value}
use Rattle.json_table.specs.Places.{Says, Say, is_taken, is_several, has_several}
use Rattle.json_table.specs.declared.places.Place.{Place}
use Rattle.json_table.specs.declared.places.Place.TheVariants.{Absent, Once, Several}
use Rattle.json_table.proofs.Tails.{last_whole, last_next}

-- ---- one more value

says_after : (ms : Members) (p : Place) (n : ℕ) (rest all : List Json) → IsTail n ms → Says ms p
    (first_value (last_members n ms) ∷ rest) all → Says ms (place_after p n) rest all
says_after ms Absent n rest all t h = (t, h)
says_after ms (Once m) n rest all t h = omega (arith, ap length h.1)
says_after ms Several n rest all t h = h

module _ (finds : PlaceOf) (count place : ℕ) (ms rest : Members) (k : List ℕ) (j : Json) (places : List Place) (found :
    finds k ≡ Some place) (say : Say finds count ms (member k j rest) places) where
  -- A key changes only the values of its own place.
  values_now : (n : ℕ) → values_at finds n (member k j rest) ≡ cond (eqb place n) (j ∷ values_at finds n rest)
      (values_at finds n rest)
  values_now n = ap (λ o. cond (is_place o n) (j ∷ values_at finds n rest) (values_at finds n rest)) found

  -- It has one more value there.
  pub placed_more : last_members (members_len (member k j rest)) ms ≡ member k j rest → length places ≡ count → place <
      count → Say finds count ms rest
      (set places place (place_after (get_or places place Absent) (members_len (member k j rest))))
  placed_more end many within n m = by_test (eqb place n) refl
    where
      left : ℕ
      left = members_len (member k j rest)

      p : Place
      p = get_or places place Absent

      all : List Json
      all = values_at finds n ms

      later : List Json
      later = values_at finds n rest

      by_test : (t : Bool) → eqb place n ≡ t → Says ms (get_or (set places place (place_after p left)) n Absent) later
          all
      by_test true q =
          let same : n ≡ place = sym (eqb-true place n q) in
          let one : j ≡ first_value (last_members left ms) = ap first_value (sym end) in
          let seen : values_at finds n (member k j rest) ≡ first_value (last_members left ms) ∷ later =
          values_now n ∙ ap (λ (t : Bool). cond t (j ∷ later) later) q ∙ ap (λ (i : Json). i ∷ later) one in
          subst (λ (r : Place). Says ms r later all) (sym (ap (λ (i : ℕ). get_or (set places place (place_after p left))
          i Absent) same ∙ get_or-set_same places place (place_after p left) Absent (omega (arith, many, within))))
          (says_after ms p left later all (record { len = ap members_len end }) (subst (λ (js : List Json). Says ms p js
          all) seen (subst (λ (i : ℕ). Says ms (get_or places i Absent) (values_at finds n (member k j rest)) all) same
          (say n m))))
      by_test false q =
          subst (λ (r : Place). Says ms r later all) (sym (get_or-set_other places place n (place_after p left) Absent
          (λ w. absurd (let i : eqb place n ≡ true = eq-eqb place n (sym w) in cc))))
          (subst (λ (js : List Json). Says ms (get_or places n Absent) js all)
          (values_now n ∙ ap (λ (t : Bool). cond t (j ∷ later) later) q) (say n m))

  -- A place that is none of these is passed over.
  pub placed_past : count ≤ place → Say finds count ms rest places
  placed_past past n m =
      let other : eqb place n ≡ false = ne_eqb place n (λ w. omega (arith, w, past, m)) in
      subst (λ (js : List Json). Says ms (get_or places n Absent) js (values_at finds n ms))
      (values_now n ∙ ap (λ (t : Bool). cond t (j ∷ values_at finds n rest) (values_at finds n rest)) other) (say n m)

-- ---- whether a place has several values

none_several : (count : ℕ) → false ≡ has_several (replicate count Absent)
none_several zero = refl
none_several (suc count) = none_several count

or_assoc : (a b c : Bool) → (a || (b || c)) ≡ ((a || b) || c)
or_assoc true b c = refl
or_assoc false b c = refl

or_last : (a : Bool) → true ≡ (a || true)
or_last true = refl
or_last false = refl

or_none : (a : Bool) → a ≡ (a || false)
or_none true = refl
or_none false = refl

several_after : (places : List Place) (n left : ℕ) → n < length places → (has_several places || is_taken
    (get_or places n Absent)) ≡ has_several (set places n (place_after (get_or places n Absent) left))
several_after [] n left h = absurd (omega (arith, h))
several_after (Absent ∷ places) zero left h = sym (or_none (has_several places))
several_after (Once m ∷ places) zero left h = sym (or_last (has_several places))
several_after (Several ∷ places) zero left h = refl
several_after (p ∷ places) (suc n) left h =
    sym (or_assoc (is_several p) (has_several places) (is_taken (get_or places n Absent)))
    ∙ ap (λ b. is_several p || b) (several_after places n left (omega (arith, h)))

-- ---- member by member

-- What is known after some members: the rest of them are at the end.
pub record Steps (finds : PlaceOf) (count : ℕ) (ms rest : Members) (places : List Place) (several : Bool) : Type 0 where
  pub many : length places ≡ count
  pub say : Say finds count ms rest places
  pub end : last_members (members_len rest) ms ≡ rest
  pub unknown : first_unknown finds rest ≡ first_unknown finds ms
  pub are_several : several ≡ has_several places

pub first_step : (finds : PlaceOf) (count : ℕ) (ms : Members) (places : List Place) → places ≡ replicate count Absent
    → Steps finds count ms ms places false
first_step finds count ms places e = record {
  many = ap length e ∙ length-replicate count Absent;
  say = λ n h. subst (λ (p : Place). Says ms p (values_at finds n ms) (values_at finds n ms))
      (sym (ap (λ (ps : List Place). get_or ps n Absent) e ∙ get_or-replicate count n Absent Absent h)) refl;
  end = last_whole ms;
  unknown = refl;
  are_several = none_several count ∙ ap has_several (sym e);
}

module _ (finds : PlaceOf) (count place : ℕ) (ms rest : Members) (k : List ℕ) (j : Json) (places : List Place)
    (several : Bool) (found : finds k ≡ Some place) (h : Steps finds count ms (member k j rest) places several) where
  known_here : first_unknown finds rest ≡ first_unknown finds ms
  known_here = sym (ap (unknown_or k (first_unknown finds rest)) found) ∙ h.unknown

  pub step_placed : (after : Place) (left : ℕ) (taken : Bool) → place < count → left ≡ members_len (member k j rest)
      → after ≡ place_after (get_or places place Absent) left → taken ≡ is_taken (get_or places place Absent) → Steps
      finds count ms rest (set places place after) (several || taken)
  step_placed after left taken within l a t =
      let p = get_or places place Absent in
      let new : place_after p (members_len (member k j rest)) ≡ after = ap (place_after p) (sym l) ∙ sym a in
      record {
        many = length-set places place after ∙ h.many;
        say = subst (λ q. Say finds count ms rest (set places place q)) new
            (placed_more finds count place ms rest k j places found h.say h.end h.many within);
        end = last_next ms rest k j h.end;
        unknown = known_here;
        are_several = ap₂ (λ x y. x || y) h.are_several t
            ∙ several_after places place (members_len (member k j rest)) (omega (arith, h.many, within))
            ∙ ap (λ q. has_several (set places place q)) new;
      }

  pub step_past : count ≤ place → Steps finds count ms rest places several
  step_past past = record {
    many = h.many;
    say = placed_past finds count place ms rest k j places found h.say past;
    end = last_next ms rest k j h.end;
    unknown = known_here;
    are_several = h.are_several;
  }

-- A key that is not a name is the first one.
pub unknown_here : (finds : PlaceOf) (k : List ℕ) (j : Json) (rest : Members) → finds k ≡ None → first_unknown finds
    (member k j rest) ≡ Some k
unknown_here finds k j rest e = ap (unknown_or k (first_unknown finds rest)) e

-- ---- when all was seen

-- A place is that of a member.
pub once_within : (finds : PlaceOf) (count n left : ℕ) (ms : Members) (places : List Place) → Say finds count ms
    no_members places → n < count → get_or places n Absent ≡ Once left → IsTail left ms
once_within finds count n left ms places h within e = (subst (λ (p : Place). Says ms p [] (values_at finds n ms)) e
    (h n within)).0
