-- The records of a table's fields by the places of their groups.
use Rattle.std.proofs.Common.{◌≡◌, ℕ, ◌-◌, ◌≤◌, List, [], ◌∷◌, ◌++◌, Bool, true, false, cond, eqb, length, drop}
use Rattle.std.proofs.Common.{refl, sym, ap, append-nil, append_assoc, ◌∙◌, flat_map, arith, Option, Some, None}
use Rattle.std.specs.List.{list_all}
use Rattle.std.proofs.lemmas.Bool.{eqb-true, eqb-false, eq-eqb, ne_eqb}
use Rattle.shared_core_wire.specs.Grammar.{FieldRecord}
use Rattle.shared_core_wire.proofs.Runs.{and_split}
use Rattle.shared_core_canonical.specs.declared.places.Placed.{Placed}
use Rattle.shared_core_canonical.specs.Places.{AreInOrder, at_place, front_at, placed_values, rise_from, values_at}
use Rattle.shared_core_canonical.proofs.ByPlace.{front_views}
use Rattle.shared_core_renumber.specs.declared.entries.Renumbering.{Renumbering}
use Rattle.shared_core_renumber.specs.declared.found.Found.{Found}
use Rattle.shared_core_renumber.specs.Entries.{find_from, find_in, place_of}
use Rattle.shared_core_renumber.specs.Allowed.{NestedTest}
use Rattle.shared_core_renumber.specs.Written.{FoundRecord, FoundValue, NestedBytes, allows_found, found_bytes}
use Rattle.shared_core_renumber.specs.Written.{found_record}
use Rattle.shared_core_renumber.specs.Written.{found_values, group_bytes, is_allowed, ranked}
use Rattle.shared_core_renumber.specs.Written.{records_found}
use Rattle.shared_core_renumber.specs.Written.{entries_bytes, first_bytes, value_view}
use Rattle.shared_core_renumber.specs.Written.{value_bytes}

-- ---- the places of entries

-- a place is at most the number of the entries
found_within : (s n before place count : ℕ) (es : List Renumbering) (p : Placed Renumbering) → find_from s n before
    place es ≡ Some p → place ≤ count → length es ≤ count → p.place ≤ count
found_within s n before place count [] p e h l = absurd cc
found_within s n before place count (x ∷ es) p e h l =
    by_schema (found_within s n x.group (place_of before place x es) count es p) (eqb x.schema s) e
  where
    place_within : (b : Bool) → cond b place (length (x ∷ es)) ≤ count
    place_within true = h
    place_within false = l

    by_number : (find_from s n x.group (place_of before place x es) es ≡ Some p → place_of before place x es ≤ count
        → length es ≤ count → p.place ≤ count) → (b : Bool) → cond b (Some (record {
          place = place_of before place x es;
          value = x;
        })) (find_from s n x.group (place_of before place x es) es) ≡
        Some p → p.place ≤ count
    by_number later true g =
        let same : place_of before place x es ≡ p.place = placed_at g in
        let within : place_of before place x es ≤ count = place_within (eqb x.group before) in
        omega arith
      where
        place_in : Option (Placed Renumbering) → ℕ
        place_in None = 0
        place_in (Some q) = q.place

        placed_at : Some (record { place = place_of before place x es; value = x }) ≡ Some p → place_of before place x
            es ≡ p.place
        placed_at g = ap (λ (o : Option (Placed Renumbering)). place_in o) g
    by_number later false g = later g (place_within (eqb x.group before)) (omega (arith, l))

    by_schema : (find_from s n x.group (place_of before place x es) es ≡ Some p → place_of before place x es ≤ count
        → length es ≤ count → p.place ≤ count) → (b : Bool) → cond b (cond (eqb x.number n) (Some (record {
          place = place_of before place x es;
          value = x;
        })) (find_from s n x.group (place_of before place x es) es)) None ≡
        Some p → p.place ≤ count
    by_schema later true g = by_number later (eqb x.number n) g
    by_schema later false g = absurd cc

pub place_within : (s n : ℕ) (es : List Renumbering) (p : Placed Renumbering) → Some p ≡ find_in s n es → p.place ≤
    length es
place_within s n es p e = found_within s n 0 0 (length es) es p (sym e) (omega arith) (omega arith)

-- ---- records at a place

-- what the front of records in order holds
pub group_is : (place start : ℕ) (group ps : List (Placed Found)) (vs : List (Placed FoundValue)) → group ≡ front_at
    place (drop start ps) → rise_from place (drop start ps) ≡ true → at_place place (drop start ps) ≡ at_place place ps
    → AreInOrder value_view vs ps → found_values group ≡ values_at place vs
group_is place start group ps vs e rising same order =
    front_views value_view place start group ps e rising same ∙ order.same place

pub group_allowed : (inner : NestedTest) (count place : ℕ) (fs : List FoundRecord) → list_all (is_allowed inner) fs ≡
    true → list_all (allows_found inner) (values_at place (ranked count fs)) ≡ true
group_allowed inner count place [] h = refl
group_allowed inner count place (f ∷ fs) h =
    let e = and_split (is_allowed inner f) (list_all (is_allowed inner) fs) h in
    by_test e.0 (group_allowed inner count place fs e.1) (eqb (count - f.place) place)
  where
    by_test : is_allowed inner f ≡ true → list_all (allows_found inner) (values_at place (ranked count fs)) ≡ true →
        (b : Bool) → list_all (allows_found inner) (placed_values (cond b (record {
          place = count - f.place;
          value = (f.entry, f.value);
        } ∷ at_place place (ranked count fs))
        (at_place place (ranked count fs)))) ≡ true
    by_test first later true = rw first later
    by_test first later false = later

same_place : (count place other : ℕ) → place ≤ count → other ≤ count → eqb (count - other) (count - place) ≡ eqb other
    place
same_place count place other h l = by_test (eqb other place) refl
  where
    by_test : (b : Bool) → eqb other place ≡ b → eqb (count - other) (count - place) ≡ b
    by_test true t = eq-eqb (count - other) (count - place) (ap (λ (n : ℕ). count - n) (eqb-true other place t))
    by_test false t = ne_eqb (count - other) (count - place) (λ e. eqb-false other place t (omega (arith, e)))

module _ (inner : NestedBytes) where
  pub group_written : (s count place : ℕ) (es : List Renumbering) (rs : List FieldRecord) → length es ≡ count → place ≤
      count → flat_map (found_bytes inner) (values_at (count - place) (ranked count (records_found s es rs))) ≡ flat_map
      (group_bytes inner place) (records_found s es rs)
  group_written s count place es [] n h = refl
  group_written s count place es (r ∷ rs) n h =
      by_entry (group_written s count place es rs n h) (find_in s r.number es) refl
    where
      fs : List FoundRecord
      fs = records_found s es rs

      at_rank : List (Placed FoundValue)
      at_rank = at_place (count - place) (ranked count fs)

      by_test : flat_map (found_bytes inner) (placed_values at_rank) ≡ flat_map (group_bytes inner place) fs → (e :
          Renumbering) (other : ℕ) (b : Bool) → flat_map (found_bytes inner) (placed_values (cond b (record {
            place = count - other;
            value = (e, r.value);
          } ∷ at_rank) at_rank)) ≡ cond b (value_bytes inner e r.value) [] ++
          flat_map (group_bytes inner place) fs
      by_test later e other true = ap (λ (xs : List ℕ). value_bytes inner e r.value ++ xs) later
      by_test later e other false = later

      by_entry : flat_map (found_bytes inner) (placed_values at_rank) ≡ flat_map (group_bytes inner place) fs
          → (o : Option (Placed Renumbering)) → find_in s r.number es ≡ o → flat_map (found_bytes inner)
          (values_at (count - place) (ranked count (found_record o r.value ++ fs))) ≡ flat_map (group_bytes inner place)
          (found_record o r.value ++ fs)
      by_entry later None e = later
      by_entry later (Some p) e =
          let within = place_within s r.number es p (sym e) in
          let low : p.place ≤ count = omega (arith, within) in
          rw (same_place count place p.place h low) (by_test later p.value p.place (eqb p.place place))

-- ---- entry by entry

module _ (inner : NestedBytes) where
  -- an entry of the same group as the one before it writes nothing
  pub same_group : (before : ℕ) (e : Renumbering) (es : List Renumbering) (fs : List FoundRecord) (out : List ℕ)
      → e.group ≡ before → out ≡ out ++ first_bytes inner before e es fs
  same_group before e es fs out h = rw (eq-eqb e.group before h) (sym (append-nil out))

  -- the first entry of a group writes the group
  pub next_group : (s count before : ℕ) (own : List Renumbering) (e : Renumbering) (es rest : List Renumbering)
      (rs : List FieldRecord) (out new : List ℕ) (vs : List FoundValue) → (e.group ≡ before → ⊥) → rest ≡ e ∷ es →
      length
      own ≡ count → length rest ≤ count → vs ≡ values_at (count - length rest) (ranked count (records_found s own rs))
      → new ≡ out ++ flat_map (found_bytes inner) vs → new ≡ out ++ first_bytes inner before e es
      (records_found s own rs)
  next_group s count before own e es rest rs out new vs h split n w v new_is =
      let fs = records_found s own rs in
      let written : flat_map (found_bytes inner) vs ≡ flat_map (group_bytes inner (length (e ∷ es))) fs =
      ap (λ (us : List FoundValue). flat_map (found_bytes inner) us) v
      ∙ group_written inner s count (length rest) own rs n w
      ∙ ap (λ (ks : List Renumbering). flat_map (group_bytes inner (length ks)) fs) split in
      rw (ne_eqb e.group before h) (new_is ∙ ap (λ (xs : List ℕ). out ++ xs) written)

  -- what is written after an entry
  pub entry_written : (s before : ℕ) (e : Renumbering) (es rest : List Renumbering) (fs : List FoundRecord)
      (out new all : List ℕ) → rest ≡ e ∷ es → e.schema ≡ s → new ≡ out ++ first_bytes inner before e es fs → out ++
      entries_bytes inner s before rest fs ≡ all → new ++ entries_bytes inner s e.group es fs ≡ all
  entry_written s before e es rest fs out new all split same n h =
      let whole : entries_bytes inner s before (e ∷ es) fs ≡ first_bytes inner before e es fs ++
      entries_bytes inner s e.group es fs = rw (eq-eqb e.schema s same) refl in
      ap (λ (xs : List ℕ). xs ++ entries_bytes inner s e.group es fs) n
      ∙ append_assoc out (first_bytes inner before e es fs) (entries_bytes inner s e.group es fs)
      ∙ sym (ap (λ (xs : List ℕ). out ++ xs) whole)
      ∙ sym (ap (λ (ks : List Renumbering). out ++ entries_bytes inner s before ks fs) split) ∙ h
