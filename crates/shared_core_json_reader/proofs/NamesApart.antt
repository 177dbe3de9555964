-- The names of a schema's fields differ, and each key has the number of the field of which it is a name.
use Rattle.std.proofs.Common.{◌≡◌, ◌<◌, ℕ, List, length, get_or, arith, [], ◌∷◌, ◌++◌, zero, suc, map}
use Rattle.std.proofs.Common.{Bool, true, false, cond, ◌&&◌, ◌||◌}
use Rattle.std.proofs.Common.{Option, Some, None, refl, sym, ap, ap₂, ◌∙◌, eqb, eq-eqb}
use Rattle.std.specs.Option.{option_or, is_some}
use Rattle.std.specs.List.{list_all}
use Rattle.std.specs.Str.{bytes_eq}
use Rattle.std.proofs.lemmas.Bool.{eqb-true}
use Rattle.std.proofs.lemmas.List.{length-map}
use Rattle.std.proofs.lemmas.Slice.Eq.{bytes_eq-Decides}
use Rattle.json.specs.Json.{Json, Members, no_members, member}
use Rattle.shared_core_wire.specs.Schema.{Kind, Row, Boolean, includes, numbers, all_numbers}
use Rattle.shared_core_wire.specs.Schema as schema
use Rattle.shared_core_wire.proofs.Runs.{and_split}
use Rattle.shared_core_json.specs.Fields.{name_in, name_of, name_view}
use Rattle.shared_core_json.specs.declared.names.Name.{Name}
use Rattle.shared_core_json_reader.specs.Rows.{named_field, named_row, named_rows}
use Rattle.shared_core_json_reader.specs.Reading.{original_name, is_named, names_field, row_names, names_row}
use Rattle.shared_core_json_reader.specs.Reading.{values_named}
use Rattle.json_table.specs.Places.{is_place, values_at}
use Rattle.shared_core_json_reader.specs.Places.{number_by, as_it_is, number_of}
use Rattle.shared_core_json_reader.specs.Readable.{IsReadable, names_key, same_test, are_apart, all_apart, are_found}
use Rattle.shared_core_json_reader.specs.Readable.{numbers_of}
use Rattle.shared_core_json_reader.specs.Rows.{Format}

same_test-true : (a b : Bool) → same_test a b ≡ true → a ≡ b
same_test-true true true e = refl
same_test-true true false e = absurd cc
same_test-true false true e = absurd cc
same_test-true false false e = refl

pub one_of_all : (P : ℕ → Bool) (ns : List ℕ) (n : ℕ) → list_all P ns ≡ true → includes ns n ≡ true → P n ≡ true
one_of_all P [] n h g = absurd cc
one_of_all P (x ∷ xs) n h g = by_test (λ k. one_of_all P xs n (and_split _ _ h).1 k) (eqb n x) refl g
  where
    by_test : (includes xs n ≡ true → P n ≡ true) → (b : Bool) → eqb n x ≡ b → (b || includes xs n) ≡ true → P n ≡ true
    by_test later true e k = ap P (eqb-true n x e) ∙ (and_split _ _ h).0
    by_test later false e k = later k

equal_bytes : (xs ys : List ℕ) → bytes_eq xs ys ≡ true → xs ≡ ys
equal_bytes xs ys e = (bytes_eq-Decides xs ys).0 e

eqb_turned : (n m : ℕ) → eqb n m ≡ eqb m n
eqb_turned n m = by_test (eqb n m) refl (eqb m n) refl
  where
    by_test : (a : Bool) → eqb n m ≡ a → (b : Bool) → eqb m n ≡ b → a ≡ b
    by_test true e true f = refl
    by_test false e false f = refl
    by_test true e false f = let q : eqb m n ≡ true = eq-eqb m n (sym (eqb-true n m e)) in absurd cc
    by_test false e true f = let q : eqb n m ≡ true = eq-eqb n m (sym (eqb-true m n f)) in absurd cc

-- what is known of the names of a schema
record NamesAre (format : Format) (s : ℕ) : Type 0 where
  apart : all_apart (format.names s).names ≡ true
  found : are_found (format.names s).names (format.names s).names ≡ true
  listed : list_all (includes (numbers_of (format.names s).names)) (all_numbers (format.table s)) ≡ true
  own : list_all (includes (all_numbers (format.table s))) (numbers_of (format.names s).names) ≡ true

names_are : (format : Format) (law : IsReadable format) (s : ℕ) → NamesAre format s
names_are format law s =
    let h = and_split (all_apart (format.names s).names) _ (law.names s) in
    let g = and_split (are_found (format.names s).names (format.names s).names) _ h.1 in
    let k = and_split (list_all (includes (numbers_of (format.names s).names)) (all_numbers (format.table s))) _ g.1 in
    record { apart = h.0; found = g.0; listed = k.0; own = k.1 }

-- a name that is listed with a number, and what is tested of it
record Listed (P Q : ℕ × List ℕ → Bool) (n : ℕ) : Type 0 where
  name : ℕ × List ℕ
  number : name.0 ≡ n
  first : P name ≡ true
  second : Q name ≡ true

listed_name : (P Q : ℕ × List ℕ → Bool) (xs : List (ℕ × List ℕ)) (n : ℕ) → list_all P xs ≡ true → list_all Q xs ≡ true
    → includes (numbers_of xs) n ≡ true → Listed P Q n
listed_name P Q [] n h g e = absurd cc
listed_name P Q (x ∷ xs) n h g e = by_test
    (λ k. listed_name P Q xs n (and_split _ _ h).1 (and_split _ _ g).1 k) (eqb n x.0) refl e
  where
    by_test : (includes (numbers_of xs) n ≡ true → Listed P Q n) → (b : Bool) → eqb n x.0 ≡ b
        → (b || includes (numbers_of xs) n) ≡ true → Listed P Q n
    by_test later true q k = record {
      name = x;
      number = sym (eqb-true n x.0 q);
      first = (and_split _ _ h).0;
      second = (and_split _ _ g).0;
    }
    by_test later false q k = later k

-- a name of a schema and another one, by their numbers
two_apart : (format : Format) (law : IsReadable format) (s n m : ℕ) → includes (all_numbers (format.table s)) n ≡ true →
    includes (all_numbers (format.table s)) m ≡ true
    → are_apart (n, name_of (format.names s) n) (m, name_of (format.names s) m) ≡ true
two_apart format law s n m h g =
    let ns = (format.names s).names in
    let are = names_are format law s in
    let listed : (i : ℕ) → includes (all_numbers (format.table s)) i ≡ true → includes (numbers_of ns) i ≡ true = λ i e.
    one_of_all (includes (numbers_of ns)) (all_numbers (format.table s)) i are.listed e in
    let x = listed_name (λ x. bytes_eq x.1 (name_in ns x.0)) (λ x. list_all (are_apart x) ns) ns n are.found are.apart
    (listed n h) in
    let y = listed_name (λ y. bytes_eq y.1 (name_in ns y.0)) (are_apart x.name) ns m are.found x.second (listed m g) in
    let named : (i : ℕ) (z : ℕ × List ℕ) → z.0 ≡ i → bytes_eq z.1 (name_in ns z.0) ≡ true → z ≡ (i, name_in ns i) =
    λ i z e f. ap₂ (λ (a : ℕ) (b : List ℕ). (a, b)) e (equal_bytes z.1 (name_in ns z.0) f ∙ ap (name_in ns) e) in
    ap₂ are_apart (sym (named n x.name x.number x.first)) (sym (named m y.name y.number y.first)) ∙ y.second

pub names_apart : (format : Format) (law : IsReadable format) (s n m : ℕ) → includes (all_numbers (format.table s)) n ≡
    true → includes (all_numbers (format.table s)) m ≡ true →
    names_key (name_of (format.names s) n) (name_of (format.names s) m) ≡ eqb n m
names_apart format law s n m h g = same_test-true
    (names_key (name_of (format.names s) n) (name_of (format.names s) m)) (eqb n m)
    (and_split _ _ (two_apart format law s n m h g)).0

originals_apart : (format : Format) (law : IsReadable format) (s n m : ℕ) → includes (all_numbers (format.table s)) n ≡
    true → includes (all_numbers (format.table s)) m ≡ true →
    bytes_eq (original_name (name_of (format.names s) m)) (original_name (name_of (format.names s) n)) ≡ eqb n m
originals_apart format law s n m h g =
    same_test-true (bytes_eq (original_name (name_of (format.names s) m)) (original_name (name_of (format.names s) n)))
    (eqb m n) (and_split _ _ (two_apart format law s m n g h)).1 ∙ eqb_turned m n

pub same_bytes : (xs : List ℕ) → bytes_eq xs xs ≡ true
same_bytes [] = refl
same_bytes (x ∷ xs) = ap₂ (λ (a b : Bool). a && b) (eq-eqb x x refl) (same_bytes xs)

-- ---- what a key finds

or_right : (a b : Bool) → b ≡ true → (a || b) ≡ true
or_right true b e = refl
or_right false b e = e

record Finds (form : List ℕ → List ℕ) (ns xs : List (ℕ × List ℕ)) (k : List ℕ) (m : ℕ) : Type 0 where
  listed : includes (numbers_of xs) m ≡ true
  key : k ≡ form (name_in ns m)

finds : (form : List ℕ → List ℕ) (ns xs : List (ℕ × List ℕ)) (k : List ℕ) (m : ℕ) → are_found ns xs ≡ true →
    number_by form xs k ≡ Some m → Finds form ns xs k m
finds form ns [] k m h e = absurd cc
finds form ns (x ∷ xs) k m h e = by_test (λ g. finds form ns xs k m (and_split _ _ h).1 g)
    (bytes_eq k (form x.1)) refl e
  where
    by_test : (number_by form xs k ≡ Some m → Finds form ns xs k m) → (b : Bool) → bytes_eq k (form x.1) ≡
        b → cond b (Some x.0) (number_by form xs k) ≡ Some m → Finds form ns (x ∷ xs) k m
    by_test later true q g =
        let same : x.0 ≡ m = cc in
        record {
          listed = ap (λ (b : Bool). b || includes (numbers_of xs) m) (eq-eqb m x.0 (sym same));
          key =
              equal_bytes k (form x.1) q ∙ ap form (equal_bytes x.1 (name_in ns x.0) (and_split _ _ h).0)
              ∙ ap (λ (n : ℕ). form (name_in ns n)) same;
        }
    by_test later false q g =
        let r = later g in
        record { listed = or_right (eqb m x.0) (includes (numbers_of xs) m) r.listed; key = r.key }

finds_none : (form : List ℕ → List ℕ) (ns xs : List (ℕ × List ℕ)) (k : List ℕ) (n : ℕ) → are_found ns xs ≡ true →
    number_by form xs k ≡ None → includes (numbers_of xs) n ≡ true → bytes_eq k (form (name_in ns n)) ≡ false
finds_none form ns [] k n h e g = absurd cc
finds_none form ns (x ∷ xs) k n h e g = by_test (λ e g. finds_none form ns xs k n (and_split _ _ h).1 e g)
    (bytes_eq k (form x.1)) refl e (eqb n x.0) refl g
  where
    by_test : (number_by form xs k ≡ None → includes (numbers_of xs) n ≡ true → bytes_eq k
        (form (name_in ns n)) ≡ false) → (b : Bool) → bytes_eq k (form x.1) ≡ b → cond b (Some x.0)
        (number_by form xs k) ≡ None → (t : Bool) → eqb n x.0 ≡ t → (t || includes (numbers_of xs) n) ≡ true →
        bytes_eq k (form (name_in ns n)) ≡ false
    by_test later true q e t r g = absurd cc
    by_test later false q e true r g =
        ap (λ (m : ℕ). bytes_eq k (form (name_in ns m))) (eqb-true n x.0 r)
        ∙ ap (λ (name : List ℕ). bytes_eq k (form name)) (sym (equal_bytes x.1 (name_in ns x.0) (and_split _ _ h).0))
        ∙ q
    by_test later false q e false r g = later e g

-- a key is a name of the field that has the number which the key finds, and of no other one
pub named_same : (format : Format) (law : IsReadable format) (s n : ℕ) (kind : Kind) (k : List ℕ)
    → includes (all_numbers (format.table s)) n ≡ true → is_named
    (named_field format s n kind) k ≡ is_place (number_of format s k) n
unfolding number_of
named_same format law s n kind k h = by_name (number_by as_it_is ns k) refl
  where
    ns : List (ℕ × List ℕ)
    ns = (format.names s).names

    all : List ℕ
    all = all_numbers (format.table s)

    listed : includes (numbers_of ns) n ≡ true
    listed = one_of_all (includes (numbers_of ns)) all n (names_are format law s).listed h

    own : (m : ℕ) → includes (numbers_of ns) m ≡ true → includes all m ≡ true
    own m g = one_of_all (includes all) (numbers_of ns) m (names_are format law s).own g

    by_original : (o : Option ℕ) → number_by original_name ns k ≡ o → bytes_eq k (name_in ns n) ≡ false →
        (bytes_eq k (name_in ns n) || bytes_eq k (original_name (name_in ns n))) ≡ is_place o n
    by_original (Some m) e q =
        let f = finds original_name ns ns k m (names_are format law s).found e in
        ap (λ (b : Bool). b || bytes_eq k (original_name (name_in ns n))) q
        ∙ ap (λ (key : List ℕ). bytes_eq key (original_name (name_in ns n))) f.key
        ∙ originals_apart format law s n m h (own m f.listed) ∙ eqb_turned n m
    by_original None e q =
        ap (λ (b : Bool). b || bytes_eq k (original_name (name_in ns n))) q
        ∙ finds_none original_name ns ns k n (names_are format law s).found e listed

    by_name : (o : Option ℕ) → number_by as_it_is ns k ≡ o → (bytes_eq k (name_in ns n) || bytes_eq k
        (original_name (name_in ns n))) ≡ is_place (option_or o (number_by original_name ns k)) n
    by_name (Some m) e =
        let f = finds as_it_is ns ns k m (names_are format law s).found e in
        ap (λ (key : List ℕ). bytes_eq key (name_in ns n) || bytes_eq key (original_name (name_in ns n))) f.key
        ∙ names_apart format law s n m h (own m f.listed) ∙ eqb_turned n m
    by_name None e = by_original (number_by original_name ns k) refl
        (finds_none as_it_is ns ns k n (names_are format law s).found e listed)

pub values_same : (format : Format) (law : IsReadable format) (s n : ℕ) (kind : Kind) (ms : Members)
    → includes (all_numbers (format.table s)) n ≡ true → values_named
    (named_field format s n kind) ms ≡ values_at (number_of format s) n ms
values_same format law s n kind no_members h = refl
values_same format law s n kind (member k j ms) h = ap₂ (λ (b : Bool) (js : List Json). cond b (j ∷ js) js)
    (named_same format law s n kind k h) (values_same format law s n kind ms h)

-- ---- a name at an index

record At (ns xs : List (ℕ × List ℕ)) (x : ℕ × List ℕ) : Type 0 where
  listed : includes (numbers_of xs) x.0 ≡ true
  found : bytes_eq x.1 (name_in ns x.0) ≡ true

at_index : (i : ℕ) (ns xs : List (ℕ × List ℕ)) → i < length xs → are_found ns xs ≡ true → At ns xs
    (get_or xs i (0, []))
at_index i ns [] h f = absurd (omega (arith, h))
at_index zero ns (x ∷ xs) h f = record {
  listed = ap (λ (b : Bool). b || includes (numbers_of xs) x.0) (eq-eqb x.0 x.0 refl);
  found = (and_split _ _ f).0;
}
at_index (suc i) ns (x ∷ xs) h f =
    let r = at_index i ns xs (omega (arith, h)) (and_split _ _ f).1 in
    record {
      listed = or_right (eqb (get_or xs i (0, [])).0 x.0) (includes (numbers_of xs) (get_or xs i (0, [])).0) r.listed;
      found = r.found;
    }

-- the name at an index finds the number there
pub named_at : (format : Format) (law : IsReadable format) (s i : ℕ) → i < length (format.names s).names
    → number_of format s (get_or (format.names s).names i (0, [])).1 ≡ Some
    (get_or (format.names s).names i (0, [])).0
unfolding number_of
named_at format law s i within = by_name (number_by as_it_is ns k) refl
  where
    ns : List (ℕ × List ℕ)
    ns = (format.names s).names

    x : ℕ × List ℕ
    x = get_or ns i (0, [])

    k : List ℕ
    k = x.1

    here : At ns ns x
    here = at_index i ns ns within (names_are format law s).found

    key : k ≡ name_in ns x.0
    key = equal_bytes k (name_in ns x.0) here.found

    own : (m : ℕ) → includes (numbers_of ns) m ≡ true → includes (all_numbers (format.table s)) m ≡ true
    own m g = one_of_all (includes (all_numbers (format.table s))) (numbers_of ns) m (names_are format law s).own g

    by_name : (o : Option ℕ) → number_by as_it_is ns k ≡ o → option_or o (number_by original_name ns k) ≡ Some x.0
    by_name (Some m) e =
        let f = finds as_it_is ns ns k m (names_are format law s).found e in
        let same : eqb m x.0 ≡ true =
        sym (names_apart format law s m x.0 (own m f.listed) (own x.0 here.listed))
        ∙ ap (λ (name : List ℕ). names_key name (name_in ns x.0)) (sym f.key ∙ key)
        ∙ ap (λ (b : Bool). b || bytes_eq (name_in ns x.0) (original_name (name_in ns x.0)))
        (same_bytes (name_in ns x.0)) in
        ap (λ (n : ℕ). Some n) (eqb-true m x.0 same)
    by_name None e =
        let none : bytes_eq k (name_in ns x.0) ≡ false =
        finds_none as_it_is ns ns k x.0 (names_are format law s).found e here.listed in
        let yes : bytes_eq k (name_in ns x.0) ≡ true =
        ap (λ (w : List ℕ). bytes_eq w (name_in ns x.0)) key ∙ same_bytes (name_in ns x.0) in
        absurd cc

pub likely_within : (names : List Name) (i : ℕ) → i < length names → i < length (map name_view names)
likely_within names i h = omega (arith, h, length-map names name_view)

pub name_here : (names : List Name) (i : ℕ) (d : Name) → i < length (map name_view names) →
    get_or (map name_view names) i (0, []) ≡ name_view (get_or names i d)
name_here [] i d h = absurd (omega (arith, h))
name_here (y ∷ ys) zero d h = refl
name_here (y ∷ ys) (suc i) d h = name_here ys i d (omega (arith, h))

-- ---- the keys that are known

-- the number that a key finds is that of a field
number_own : (format : Format) (law : IsReadable format) (s m : ℕ) (k : List ℕ) → number_of format s k ≡ Some m
    → includes (all_numbers (format.table s)) m ≡ true
unfolding number_of
number_own format law s m k e = by_name (number_by as_it_is (format.names s).names k) refl e
  where
    own : (form : List ℕ → List ℕ) → number_by form (format.names s).names k ≡ Some m → includes
        (all_numbers (format.table s)) m ≡ true
    own form q = one_of_all (includes (all_numbers (format.table s))) (numbers_of (format.names s).names) m
        (names_are format law s).own
        (finds form (format.names s).names (format.names s).names k m (names_are format law s).found q).listed

    by_name : (o : Option ℕ) → number_by as_it_is (format.names s).names k ≡ o → option_or o
        (number_by original_name (format.names s).names k) ≡ Some m → includes (all_numbers (format.table s)) m ≡ true
    by_name (Some x) q e = own as_it_is (q ∙ e)
    by_name None q e = own original_name e

-- whether a key is a name of one of the fields that have these numbers
abbrev any_key : (format : Format) → ℕ → List ℕ → List ℕ → Bool
any_key format s [] k = false
any_key format s (n ∷ ns) k = names_key (name_of (format.names s) n) k || any_key format s ns k

or_assoc : (a b c : Bool) → ((a || b) || c) ≡ (a || (b || c))
or_assoc true b c = refl
or_assoc false b c = refl

or_none : (b : Bool) → b ≡ (b || false)
or_none true = refl
or_none false = refl

any_key-append : (format : Format) (s : ℕ) (xs ys k : List ℕ) → any_key format s (xs ++ ys) k
    ≡ (any_key format s xs k || any_key format s ys k)
any_key-append format s [] ys k = refl
any_key-append format s (x ∷ xs) ys k =
    ap (λ (b : Bool). names_key (name_of (format.names s) x) k || b) (any_key-append format s xs ys k)
    ∙ sym (or_assoc (names_key (name_of (format.names s) x) k) (any_key format s xs k) (any_key format s ys k))

members_any : (format : Format) (s : ℕ) (members : List (ℕ × Kind)) (k : List ℕ)
    → names_field (map (λ m. named_field format s m.0 m.1) members)
    k ≡ any_key format s (map (λ m. m.0) members) k
members_any format s [] k = refl
members_any format s (m ∷ members) k = ap (λ (b : Bool). names_key (name_of (format.names s) m.0) k || b)
    (members_any format s members k)

row_any : (format : Format) (s : ℕ) (row : Row) (k : List ℕ) → row_names (named_row format s row) k
    ≡ any_key format s (numbers row) k
row_any format s (schema.Plain n kind) k = or_none (names_key (name_of (format.names s) n) k)
row_any format s (schema.Optional n kind) k = or_none (names_key (name_of (format.names s) n) k)
row_any format s (schema.Repeated n kind) k = or_none (names_key (name_of (format.names s) n) k)
row_any format s (schema.OneOf members) k = members_any format s members k

rows_any : (format : Format) (s : ℕ) (rows : List Row) (k : List ℕ) → names_row (map (named_row format s) rows) k
    ≡ any_key format s (all_numbers rows)
    k
rows_any format s [] k = refl
rows_any format s (row ∷ rows) k =
    ap₂ (λ (a b : Bool). a || b) (row_any format s row k) (rows_any format s rows k)
    ∙ sym (any_key-append format s (numbers row) (all_numbers rows) k)

-- whether a number that was found is one of these
abbrev is_one : Option ℕ → List ℕ → Bool
is_one None ns = false
is_one (Some m) ns = includes ns m

one_more : (o : Option ℕ) (n : ℕ) (ns : List ℕ) → (is_place o n || is_one o ns) ≡ is_one o (n ∷ ns)
one_more None n ns = refl
one_more (Some m) n ns = refl

any_one : (format : Format) (law : IsReadable format) (s : ℕ) (ns k : List ℕ)
    → list_all (includes (all_numbers (format.table s))) ns ≡ true → any_key format s ns k ≡ is_one
    (number_of format s k) ns
any_one format law s [] k h = none (number_of format s k)
  where
    none : (o : Option ℕ) → false ≡ is_one o []
    none None = refl
    none (Some m) = refl
any_one format law s (n ∷ ns) k h =
    ap₂ (λ (a b : Bool). a || b) (named_same format law s n Boolean k (and_split _ _ h).0)
    (any_one format law s ns k (and_split _ _ h).1)
    ∙ one_more (number_of format s k) n ns

own_all : (xs ys : List ℕ) → ((n : ℕ) → includes xs n ≡ true → includes ys n ≡ true) → list_all (includes ys) xs ≡ true
own_all [] ys h = refl
own_all (x ∷ xs) ys h = ap₂ (λ (a b : Bool). a && b)
    (h x (ap (λ (b : Bool). b || includes xs x) (eq-eqb x x refl)))
    (own_all xs ys (λ n g. h n (or_right (eqb n x) (includes xs n) g)))

-- a key is known if it finds a number
pub known_same : (format : Format) (law : IsReadable format) (s : ℕ) (k : List ℕ) → names_row (named_rows format s) k
    ≡ is_some (number_of format s k)
unfolding named_rows
known_same format law s k =
    rows_any format s (format.table s) k
    ∙ any_one format law s (all_numbers (format.table s)) k
    (own_all (all_numbers (format.table s)) (all_numbers (format.table s)) (λ n g. g))
    ∙ by_found (number_of format s k) refl
  where
    by_found : (o : Option ℕ) → number_of format s k ≡ o → is_one o (all_numbers (format.table s)) ≡ is_some o
    by_found None e = refl
    by_found (Some m) e = number_own format law s m k e
