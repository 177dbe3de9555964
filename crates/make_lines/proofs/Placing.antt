-- The places of a line's names, as its members are traversed.
use Rattle.std.proofs.Common.{◌≡◌, ◌≢◌, ℕ, zero, suc, ◌+◌, ◌-◌, ◌<◌, ◌≤◌, List, [], ◌∷◌, length, get_or, map, drop}
use Rattle.std.proofs.Common.{Bool, true, false, cond, not, Option, Some, None, ◌||◌}
use Rattle.std.proofs.Common.{refl, sym, ap, ap₂, ◌∙◌, arith, ltb, eqb, eq-eqb}
use Rattle.std.proofs.lemmas.Bool.{eqb-true, ltb-true}
use Rattle.std.proofs.lemmas.List.{length-map, drop_more}
use Rattle.std.proofs.lemmas.Slice.Eq.{bytes_eq-Decides}
use Rattle.std.specs.Borrow.{Bor}
use Rattle.std.specs.Prelude.{is_some, IsTrue, MatchBool}
use Rattle.std.specs.Str.{bytes_eq}
use Rattle.json.specs.Json.{Json, Members, no_members, member}
use Rattle.json.specs.Find.{get_member, later_or}
use Rattle.json_table.specs.Tails.{last_members}
use Rattle.json_table.specs.Places.{is_place, values_at, first_unknown, unknown_or, first_value, Says, Say}
use Rattle.json_table.specs.Places.{is_several, has_several}
use Rattle.json_table.specs.declared.places.Place.{Place}
use Rattle.json_table.specs.declared.places.Place.TheVariants.{Absent, Once, Several}
use Rattle.shared_core_json_reader.specs.declared.error.Reason.TheVariants.{UnknownMember, RepeatedMember}
use Rattle.make_lines.specs.declared.error.LineReason.TheVariants.{Json as Wrong}
use Rattle.make_lines.specs.Errors.{at}
use Rattle.make_lines.specs.Members.{is_known, has_key, members_fault}
use Rattle.make_lines.specs.Places.{names, name_at, place_count, index_in, place_of, ArePlaces}

-- ---- keys and places

-- The index of a key that is found is that of its name.
index_found : (ns : List (List ℕ)) (n : ℕ) (key : List ℕ) (i : ℕ) → index_in ns n key ≡ Some i →
    (n ≤ i) × (i < n + length ns) × (bytes_eq key (get_or ns (i - n) []) ≡ true)
index_found [] n key i e = absurd cc
index_found (name ∷ ns) n key i e = by_test (bytes_eq key name) (index_found ns (suc n) key i) refl e
  where
    by_test : (b : Bool) → (index_in ns (suc n) key ≡ Some i → (suc n ≤ i) × (i < suc n + length ns)
        × (bytes_eq key (get_or ns (i - suc n) []) ≡ true)) → bytes_eq key name ≡ b →
        cond b (Some n) (index_in ns (suc n) key) ≡ Some i → (n ≤ i) × (i < n + length (name ∷ ns))
        × (bytes_eq key (get_or (name ∷ ns) (i - n) []) ≡ true)
    by_test true again q f =
        let same : n ≡ i = cc in
        let none : i - n ≡ 0 = omega arith in
        (omega arith, omega arith, ap (λ k. bytes_eq key (get_or (name ∷ ns) k [])) none ∙ q)
    by_test false again q f =
        let later = again f in
        let more : i - n ≡ suc (i - suc n) = omega (arith, later.0) in (
          omega (arith, later.0),
          omega (arith, later.1),
          ap (λ k. bytes_eq key (get_or (name ∷ ns) k [])) more
              ∙ later.2,
        )

pub found_place : (key : List ℕ) (i : ℕ) → place_of key ≡ Some i → (i < place_count) × (bytes_eq key (name_at i) ≡ true)
unfolding place_of
found_place key i e =
    let found = index_found names 0 key i e in
    let same : i - 0 ≡ i = omega arith in
    (omega (arith, found.1), ap (λ k. bytes_eq key (get_or names k [])) (sym same) ∙ found.2)

-- Each name has its own place.
own_place : (i : ℕ) → i < place_count → place_of (name_at i) ≡ Some i
unfolding place_of
own_place zero h = refl
own_place (suc zero) h = refl
own_place (suc (suc zero)) h = refl
own_place (suc (suc (suc zero))) h = refl
own_place (suc (suc (suc (suc zero)))) h = refl
own_place (suc (suc (suc (suc (suc zero))))) h = refl
own_place (suc (suc (suc (suc (suc (suc zero)))))) h = refl
own_place (suc (suc (suc (suc (suc (suc (suc zero))))))) h = refl
own_place (suc (suc (suc (suc (suc (suc (suc (suc zero)))))))) h = refl
own_place (suc (suc (suc (suc (suc (suc (suc (suc (suc zero))))))))) h = refl
own_place (suc (suc (suc (suc (suc (suc (suc (suc (suc (suc zero)))))))))) h = refl
own_place (suc (suc (suc (suc (suc (suc (suc (suc (suc (suc (suc zero))))))))))) h = refl
own_place (suc (suc (suc (suc (suc (suc (suc (suc (suc (suc (suc (suc zero)))))))))))) h = refl
own_place (suc (suc (suc (suc (suc (suc (suc (suc (suc (suc (suc (suc (suc zero))))))))))))) h = refl
own_place (suc (suc (suc (suc (suc (suc (suc (suc (suc (suc (suc (suc (suc (suc i)))))))))))))) h = absurd
    (omega arith)

named_place : (key : List ℕ) (i : ℕ) → i < place_count → bytes_eq key (name_at i) ≡ true → place_of key ≡ Some i
named_place key i h e = ap place_of ((bytes_eq-Decides key (name_at i)).0 e) ∙ own_place i h

-- A key is not a name of another place than its own.
pub other_name : (key : List ℕ) (i j : ℕ) → j < place_count → place_of key ≡ Some i → i ≢ j →
    bytes_eq key (name_at j) ≡ false
other_name key i j h e ne = by_test (bytes_eq key (name_at j)) refl
  where
    by_test : (b : Bool) → bytes_eq key (name_at j) ≡ b → b ≡ false
    by_test false q = refl
    by_test true q = absurd (let t : Some i ≡ Some j = sym e ∙ named_place key j h q in ne cc)

pub no_name : (key : List ℕ) (j : ℕ) → j < place_count → place_of key ≡ None → bytes_eq key (name_at j) ≡ false
no_name key j h e = by_test (bytes_eq key (name_at j)) refl
  where
    by_test : (b : Bool) → bytes_eq key (name_at j) ≡ b → b ≡ false
    by_test false q = refl
    by_test true q = absurd (let t : None ≡ Some j = sym e ∙ named_place key j h q in cc)

-- Each name is known.
known_name : (i : ℕ) → i < place_count → is_known (name_at i) ≡ true
known_name zero h = refl
known_name (suc zero) h = refl
known_name (suc (suc zero)) h = refl
known_name (suc (suc (suc zero))) h = refl
known_name (suc (suc (suc (suc zero)))) h = refl
known_name (suc (suc (suc (suc (suc zero))))) h = refl
known_name (suc (suc (suc (suc (suc (suc zero)))))) h = refl
known_name (suc (suc (suc (suc (suc (suc (suc zero))))))) h = refl
known_name (suc (suc (suc (suc (suc (suc (suc (suc zero)))))))) h = refl
known_name (suc (suc (suc (suc (suc (suc (suc (suc (suc zero))))))))) h = refl
known_name (suc (suc (suc (suc (suc (suc (suc (suc (suc (suc zero)))))))))) h = refl
known_name (suc (suc (suc (suc (suc (suc (suc (suc (suc (suc (suc zero))))))))))) h = refl
known_name (suc (suc (suc (suc (suc (suc (suc (suc (suc (suc (suc (suc zero)))))))))))) h = refl
known_name (suc (suc (suc (suc (suc (suc (suc (suc (suc (suc (suc (suc (suc zero))))))))))))) h = refl
known_name (suc (suc (suc (suc (suc (suc (suc (suc (suc (suc (suc (suc (suc (suc i)))))))))))))) h =
    absurd (omega arith)

pub known_place : (key : List ℕ) (i : ℕ) → place_of key ≡ Some i → is_known key ≡ true
known_place key i e =
    let found = found_place key i e in
    ap is_known ((bytes_eq-Decides key (name_at i)).0 found.1) ∙ known_name i found.0

none_of : (b d : Bool) → b ≡ false → d ≡ false → (b || d) ≡ false
none_of false d e f = f
none_of true d e f = absurd cc

pub unknown_place : (key : List ℕ) → place_of key ≡ None → is_known key ≡ false
unknown_place key e =
    let item = none_of _ _ (none_of _ _ (none_of _ _ (no 1 refl) (no 2 refl)) (no 6 refl)) (no 9 refl) in
    let more = none_of _ _ (no 5 refl) (no 4 refl) in
    let bytes = none_of _ _ (none_of _ _ (no 7 refl) (no 12 refl)) (no 11 refl) in
    let passed = none_of _ _ (none_of _ _ (none_of _ _ (no 0 refl) (no 3 refl)) (no 8 refl)) (no 10 refl) in
    none_of _ _ (none_of _ _ (none_of _ _ (none_of _ _ item more) (no 13 refl)) bytes) passed
  where
    no : (i : ℕ) → ltb i place_count ≡ true → bytes_eq key (name_at i) ≡ false
    no i h = no_name key i (ltb-true i place_count h) e

-- ---- looking for a key

pub name_here : (xs : List (Bor (List ℕ))) (i : ℕ) (d : Bor (List ℕ)) → map (λ s. s.now) xs ≡ names → i < length xs →
    (get_or xs i d).now ≡ name_at i
name_here xs i d e h = sym (mapped xs i h) ∙ ap (λ (ns : List (List ℕ)). get_or ns i []) e
  where
    mapped : (xs : List (Bor (List ℕ))) (i : ℕ) → i < length xs → get_or (map (λ s. s.now) xs) i [] ≡
        (get_or xs i d).now
    mapped [] i h = absurd (omega (arith, h))
    mapped (x ∷ xs) zero h = refl
    mapped (x ∷ xs) (suc i) h = mapped xs i (omega (arith, h))

many_names : (xs : List (Bor (List ℕ))) → map (λ s. s.now) xs ≡ names → length xs ≡ place_count
many_names xs e = sym (length-map xs (λ s. s.now)) ∙ ap length e

pub at_place : (xs : List (Bor (List ℕ))) (i : ℕ) (d : Bor (List ℕ)) (key : List ℕ) → map (λ s. s.now) xs ≡ names → i <
    length xs → index_in (drop i names) i key ≡ place_of key → bytes_eq key (get_or xs i d).now ≡ true → Some i ≡
    place_of key
at_place xs i d key e h so_far is =
    let here : bytes_eq key (name_at i) ≡ true = ap (bytes_eq key) (sym (name_here xs i d e h)) ∙ is in
    let within : i < length names = omega (arith, h, many_names xs e) in
    let found : index_in (drop i names) i key ≡ Some i = ap (λ ns. index_in ns i key) (drop_more names i [] within) ∙ rw
    here refl in
    sym found ∙ so_far

pub past_place : (xs : List (Bor (List ℕ))) (i : ℕ) (d : Bor (List ℕ)) (key : List ℕ) → map (λ s. s.now) xs ≡ names → i
    < length xs → index_in (drop i names) i key ≡ place_of key → bytes_eq key (get_or xs i d).now ≡ false → index_in
    (drop (i + 1) names) (i + 1) key ≡ place_of key
past_place xs i d key e h so_far is =
    let here : bytes_eq key (name_at i) ≡ false = ap (bytes_eq key) (sym (name_here xs i d e h)) ∙ is in
    let within : i < length names = omega (arith, h, many_names xs e) in
    let next : suc i ≡ i + 1 = omega arith in
    let past : index_in (drop i names) i key ≡ index_in (drop (i + 1) names) (suc i) key = ap (λ ns. index_in ns i key)
    (drop_more names i [] within) ∙ rw here refl in
    ap (λ n. index_in (drop (i + 1) names) n key) (sym next) ∙ sym past ∙ so_far

-- The name at an index has this place.
pub place_here : (xs : List (Bor (List ℕ))) (i : ℕ) (d : Bor (List ℕ)) → map (λ s. s.now) xs ≡ names → i < place_count →
    place_of (get_or xs i d).now ≡ Some i
place_here xs i d e h = ap place_of (name_here xs i d e (omega (arith, h, many_names xs e))) ∙ own_place i h

pub known_if : (o : Option ℕ) (key : List ℕ) → o ≡ place_of key → is_some o ≡ is_known key
known_if None key e = sym (unknown_place key (sym e))
known_if (Some i) key e = sym (known_place key i (sym e))

-- Whether a key is the name of a place is whether this is its place.
key_is : (key : List ℕ) (i : ℕ) → i < place_count → bytes_eq key (name_at i) ≡ is_place (place_of key) i
key_is key i h = by_place (place_of key) refl
  where
    by_test : (j : ℕ) → place_of key ≡ Some j → (b : Bool) → eqb j i ≡ b → bytes_eq key (name_at i) ≡ eqb j i
    by_test j e true q =
        ap (λ n. bytes_eq key (name_at n)) (sym (eqb-true j i q)) ∙ (found_place key j e).1 ∙ sym q
    by_test j e false q =
        other_name key j i h e (λ w. absurd (let t : eqb j i ≡ true = eq-eqb j i w in cc)) ∙ sym q

    by_place : (o : Option ℕ) → place_of key ≡ o → bytes_eq key (name_at i) ≡ is_place o i
    by_place None e = no_name key i h e
    by_place (Some j) e = by_test j e (eqb j i) refl

-- ---- the value of a name

-- The last of some values.
abbrev pub last_of : List Json → Option Json
last_of [] = None
last_of (j ∷ js) = later_or (last_of js) (Some j)

later_none : (o : Option Json) → later_or o None ≡ o
later_none None = refl
later_none (Some j) = refl

named_last : (i : ℕ) → i < place_count → (ms : Members) → get_member (name_at i) ms ≡ last_of (values_at place_of i ms)
named_last i h no_members = refl
named_last i h (member k j ms) =
    ap₂ (λ (o : Option Json) (b : Bool). later_or o (cond b (Some j) None)) (named_last i h ms) (key_is k i h)
    ∙ by_test (is_place (place_of k) i)
  where
    by_test : (b : Bool) → later_or (last_of (values_at place_of i ms)) (cond b (Some j) None) ≡ last_of
        (cond b (j ∷ values_at place_of i ms) (values_at place_of i ms))
    by_test true = refl
    by_test false = later_none (last_of (values_at place_of i ms))

-- What a place says when all was seen.
abbrev pub place_value : Members → Place → Option Json
place_value ms Absent = None
place_value ms (Once n) = Some (first_value (last_members n ms))
place_value ms Several = None

said : (ms : Members) (p : Place) (all : List Json) → Says ms p [] all → is_several p ≡ false → last_of all ≡
    place_value ms p
said ms Absent all h q = ap last_of (sym h)
said ms (Once n) all h q = ap last_of (sym h.1)
said ms Several all h q = absurd cc

pub not_once : (ms : Members) (p : Place) → ((n : ℕ) → p ≡ Once n → ⊥) → place_value ms p ≡ None
not_once ms Absent h = refl
not_once ms (Once n) h = absurd (h n refl)
not_once ms Several h = refl

or_false : (a b : Bool) → (a || b) ≡ false → (a ≡ false) × (b ≡ false)
or_false true b h = absurd cc
or_false false b h = (refl, h)

-- Where no place has several values, none at an index has.
not_several : (places : List Place) (i : ℕ) → has_several places ≡ false → is_several (get_or places i Absent) ≡ false
not_several [] i h = refl
not_several (p ∷ places) zero h = (or_false (is_several p) (has_several places) h).0
not_several (p ∷ places) (suc i) h = not_several places i (or_false (is_several p) (has_several places) h).1

pub given_at : (ms : Members) (places : List Place) (i : ℕ) → ArePlaces ms places → i < place_count → get_member
    (name_at i) ms ≡ place_value ms (get_or places i Absent)
given_at ms places i a h = named_last i h ms
    ∙ said ms (get_or places i Absent) (values_at place_of i ms) (a.say i h) (not_several places i a.once)

-- ---- the fault of the members

-- Whether there are values.
abbrev pub are_some : List Json → Bool
are_some [] = false
are_some (j ∷ js) = true

key_held : (i : ℕ) → i < place_count → (ms : Members) → has_key (name_at i) ms ≡ are_some (values_at place_of i ms)
key_held i h no_members = refl
key_held i h (member k j ms) =
    ap₂ (λ (b o : Bool). cond b true o) (key_is k i h) (key_held i h ms) ∙ by_test (is_place (place_of k) i)
  where
    by_test : (b : Bool) → cond b true (are_some (values_at place_of i ms)) ≡ are_some
        (cond b (j ∷ values_at place_of i ms) (values_at place_of i ms))
    by_test true = refl
    by_test false = refl

none_some : (vs : List Json) → length vs ≡ 0 → are_some vs ≡ false
none_some [] e = refl
none_some (v ∷ vs) e = absurd (omega (arith, e))

some_none : (vs : List Json) → are_some vs ≡ false → length vs ≡ 0
some_none [] e = refl
some_none (v ∷ vs) e = absurd cc

fewer : (b : Bool) (j : Json) (vs : List Json) → length vs ≤ length (cond b (j ∷ vs) vs)
fewer true j vs = omega arith
fewer false j vs = omega arith

unknown_is : (k : List ℕ) (j : Json) (rest : Members) → is_known k ≡ false → members_fault (member k j rest) ≡ Some
    (at k (Wrong UnknownMember))
unknown_is k j rest e = rw e refl

repeated_is : (k : List ℕ) (j : Json) (rest : Members) → is_known k ≡ true → has_key k rest ≡ true → members_fault
    (member k j rest) ≡ Some (at k (Wrong RepeatedMember))
repeated_is k j rest e f = rw (e, f) refl

next_is : (k : List ℕ) (j : Json) (rest : Members) → is_known k ≡ true → has_key k rest ≡ false → members_fault
    (member k j rest) ≡ members_fault rest
next_is k j rest e f = rw (e, f) refl

-- No place has more than one value.
abbrev pub AreSingle : Members → Type 0
AreSingle ms = (i : ℕ) → i < place_count → length (values_at place_of i ms) ≤ 1

module _ (k : List ℕ) (j : Json) (ms : Members) (i : ℕ) (e : place_of k ≡ Some i) where
  here : values_at place_of i (member k j ms) ≡ j ∷ values_at place_of i ms
  here =
      ap (λ (o : Option ℕ). cond (is_place o i) (j ∷ values_at place_of i ms) (values_at place_of i ms)) e
      ∙ ap (λ (b : Bool). cond b (j ∷ values_at place_of i ms) (values_at place_of i ms)) (eq-eqb i i refl)

  later_unknown : first_unknown place_of (member k j ms) ≡ first_unknown place_of ms
  later_unknown = ap (unknown_or k (first_unknown place_of ms)) e

  held : has_key k ms ≡ are_some (values_at place_of i ms)
  held = ap (λ x. has_key x ms) ((bytes_eq-Decides k (name_at i)).0 (found_place k i e).1)
      ∙ key_held i (found_place k i e).0 ms

-- Members whose keys are known and differ have no fault.
well : (ms : Members) → first_unknown place_of ms ≡ None → AreSingle ms → members_fault ms ≡ None
well no_members u s = refl
well (member k j ms) u s = by_place (well ms) (place_of k) refl
  where
    by_place : (first_unknown place_of ms ≡ None → AreSingle ms → members_fault ms ≡ None) → (o : Option ℕ) → place_of k
        ≡ o → members_fault (member k j ms) ≡ None
    by_place later None e = absurd
        (let t : Some k ≡ None = sym (ap (unknown_or k (first_unknown place_of ms)) e) ∙ u in cc)
    by_place later (Some i) e =
        let none : length (values_at place_of i ms) ≡ 0 =
        omega (arith, ap length (here k j ms i e), s i (found_place k i e).0) in
        next_is k j ms (known_place k i e) (held k j ms i e ∙ none_some (values_at place_of i ms) none)
        ∙ later (sym (later_unknown k j ms i e) ∙ u)
        (λ n h. let low : length (values_at place_of n ms) ≤ length (values_at place_of n (member k j ms)) =
        fewer (is_place (place_of k) n) j (values_at place_of n ms) in omega (arith, low, s n h))

-- Members without a fault are known and differ.
known_and_single : (ms : Members) → members_fault ms ≡ None → (first_unknown place_of ms ≡ None) × AreSingle ms
known_and_single no_members e = (refl, λ i h. omega arith)
known_and_single (member k j ms) e = by_place (known_and_single ms) (place_of k) refl
  where
    count : (i n : ℕ) → place_of k ≡ Some i → are_some (values_at place_of i ms) ≡ false → AreSingle ms → n <
        place_count → (b : Bool) → eqb i n ≡ b → length (values_at place_of n (member k j ms)) ≤ 1
    count i n q none single h true s =
        let same : length (values_at place_of n (member k j ms)) ≡ length (values_at place_of i (member k j ms)) =
        ap (λ x. length (values_at place_of x (member k j ms))) (sym (eqb-true i n s)) in
        omega (arith, same, ap length (here k j ms i q), some_none (values_at place_of i ms) none)
    count i n q none single h false s =
        let past : values_at place_of n (member k j ms) ≡ values_at place_of n ms =
        ap (λ (o : Option ℕ). cond (is_place o n) (j ∷ values_at place_of n ms) (values_at place_of n ms)) q
        ∙ ap (λ (b : Bool). cond b (j ∷ values_at place_of n ms) (values_at place_of n ms)) s in
        omega (arith, ap length past, single n h)

    by_key : (i : ℕ) → place_of k ≡ Some i → (members_fault ms ≡ None → (first_unknown place_of ms ≡ None) × AreSingle
        ms) → (b : Bool) → has_key k ms ≡ b → (first_unknown place_of (member k j ms) ≡ None) × AreSingle
        (member k j ms)
    by_key i q later true f = absurd (let t = sym (repeated_is k j ms (known_place k i q) f) ∙ e in cc)
    by_key i q later false f =
        let rest = later (sym (next_is k j ms (known_place k i q) f) ∙ e) in
        (later_unknown k j ms i q ∙ rest.0, λ n h. count i n q (sym (held k j ms i q) ∙ f) rest.1 h (eqb i n) refl)

    by_place : (members_fault ms ≡ None → (first_unknown place_of ms ≡ None) × AreSingle ms) → (o : Option ℕ) → place_of
        k ≡ o → (first_unknown place_of (member k j ms) ≡ None) × AreSingle (member k j ms)
    by_place later None q = absurd (let t = sym (unknown_is k j ms (unknown_place k q)) ∙ e in cc)
    by_place later (Some i) q = by_key i q later (has_key k ms) refl

single : (ms : Members) (p : Place) (all : List Json) → Says ms p [] all → is_several p ≡ false → length all ≤ 1
single ms Absent all h q = omega (arith, ap length h)
single ms (Once n) all h q = omega (arith, ap length h.1)
single ms Several all h q = absurd cc

unlike : (ms : Members) (p : Place) (all : List Json) → Says ms p [] all → length all ≤ 1 → is_several p ≡ false
unlike ms Absent all h few = refl
unlike ms (Once n) all h few = refl
unlike ms Several all h few = absurd (omega (arith, h, few))

none_has : (places : List Place) → ((i : ℕ) → i < length places → is_several (get_or places i Absent) ≡ false) →
    has_several places ≡ false
none_has [] h = refl
none_has (p ∷ places) h = none_of _ _ (h 0 (omega arith)) (none_has places (λ i l. h (suc i) (omega (arith, l))))

module _ (ms : Members) (places : List Place) (say : Say place_of place_count ms no_members places) where
  no_fault : first_unknown place_of ms ≡ None → has_several places ≡ false → members_fault ms ≡ None
  no_fault u once = well ms u (λ i h. single ms (get_or places i Absent) (values_at place_of i ms) (say i h)
      (not_several places i once))

  several_fault : length places ≡ place_count → has_several places ≡ true → members_fault ms ≢ None
  several_fault many some e =
      let none : has_several places ≡ false =
      none_has places (λ i l. let h : i < place_count = omega (arith, l, many) in
      unlike ms (get_or places i Absent) (values_at place_of i ms) (say i h) ((known_and_single ms e).1 i h)) in
      absurd cc

  -- What is known of the members, by whether a place has several values.
  pub places_if : (b : Bool) → b ≡ has_several places → IsTrue (not b) → ArePlaces ms places
  places_if true e t = absurd cc
  places_if false e t = record { say = say; once = sym e }

  pub fault_if : (b : Bool) → b ≡ has_several places → length places ≡ place_count → first_unknown place_of ms ≡ None
      → MatchBool (not b) (members_fault ms ≡ None) (members_fault ms ≢ None)
  fault_if true e many u = several_fault many (sym e)
  fault_if false e many u = no_fault u (sym e)

pub unknown_fault : (ms : Members) (k : List ℕ) → first_unknown place_of ms ≡ Some k → members_fault ms ≢ None
unknown_fault ms k u e = absurd (let t : None ≡ Some k = sym (known_and_single ms e).0 ∙ u in cc)
