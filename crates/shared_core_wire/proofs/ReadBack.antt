-- A canonical payload is accepted and means its value: one level of nesting.
use Rattle.std.proofs.Common.{◌≡◌, ℕ, zero, suc, ◌+◌, ◌-◌, ◌%◌, ◌^◌, ◌<◌, ◌≤◌, List, [], ◌∷◌, ◌++◌, map, length, Bool}
use Rattle.std.proofs.Common.{true, false, cond, not, ◌&&◌, ◌||◌, refl, sym, ap, subst, ◌∙◌, Some, append_assoc}
use Rattle.std.proofs.Common.{append-nil, length-append, arith, eqb, ltb, eq-eqb}
use Rattle.std.proofs.lemmas.Bool.{eqb-true, lt-ltb}
use Rattle.std.specs.Prelude.{flat_map}
use Rattle.std.specs.List.{list_all}
use Rattle.std.proofs.Math.Bool.{or-true, or_assoc}
use Rattle.std.proofs.lemmas.List.Elements.{filter-append}
use Rattle.std.proofs.lemmas.List.Folds.{list_all-append, list_all-map}
use Rattle.shared_core_wire.specs.Grammar.{RecordValue, Varint, Fixed64, Length, Group, Fixed32, FieldRecord, content}
use Rattle.shared_core_wire.specs.Encoding.{shortest_varint, key_bytes, record_bytes, record_list_bytes}
use Rattle.shared_core_wire.specs.Encoding.{is_field_number}
use Rattle.shared_core_wire.specs.Reader.{packed_numbers}
use Rattle.shared_core_wire.proofs.EncodingLaws.{encodable, encodable_value, varints_encoded}
use Rattle.shared_core_wire.specs.Schema.{Kind, Row, U32, U64, Boolean, Enumeration, Text, ByteString, Message, Plain}
use Rattle.shared_core_wire.specs.Schema.{Optional, Repeated, OneOf, numbers, includes, member_kind, are_distinct}
use Rattle.shared_core_wire.specs.Schema.{all_numbers, is_schema}
use Rattle.shared_core_wire.specs.Value.{Part, Parts, Absent, Number, Bytes, Nested, Elements, Member, nil, cons, ◌+++◌}
use Rattle.shared_core_wire.specs.Value.{one_part, empty_value, empty_part, default_of}
use Rattle.shared_core_wire.specs.Overlay.{values, own_records, NestedOverlay, number_part, number_parts, singular_of}
use Rattle.shared_core_wire.specs.Overlay.{elements_of, all_elements, row_over, rows_over}
use Rattle.shared_core_wire.specs.Acceptance.{NestedAcceptance, accepts_value, accepts_element, accepts_in_row}
use Rattle.shared_core_wire.specs.Acceptance.{row_allows, accepts_record, accepts_number}
use Rattle.shared_core_wire.specs.Fitting.{is_single, has_shape, NumberFits, BytesFit, PartFits, ElementsFit, Fits}
use Rattle.shared_core_wire.specs.Canonical.{kind_of, written_number, is_default, number_bytes, run_values, row_records}
use Rattle.shared_core_wire.specs.Canonical.{part_values, element_values, message_records, canonical_payload}
use Rattle.shared_core_wire.specs.Canonical.{part_levels, levels}
use Rattle.shared_core_wire.proofs.Merging.{repeated_over_is}
use Rattle.shared_core_wire.proofs.Runs.{and_split, and_join, parts_append_nil}
use Rattle.shared_core_wire.proofs.Numbers.{number_back, number_small, no_bytes, no_message, element_numbers}
use Rattle.shared_core_wire.proofs.Numbers.{run_back}

-- ---- numbers

default_number : (n : ℕ) (k : Kind) → NumberFits k n → eqb n 0 ≡ true → default_of k ≡ Number n
default_number n U32 h d = ap Number (sym (eqb-true n 0 d))
default_number n U64 h d = ap Number (sym (eqb-true n 0 d))
default_number n Boolean h d = ap Number (sym (eqb-true n 0 d))
default_number n Enumeration h d = ap Number (sym (eqb-true n 0 d))
default_number n Text h d = absurd h
default_number n ByteString h d = absurd h
default_number n (Message s) h d = absurd h

default_bytes : (bytes : List ℕ) (k : Kind) → BytesFit k bytes → eqb (length bytes) 0 ≡ true → default_of k ≡ Bytes
    bytes
default_bytes (b ∷ bytes) k h d = absurd (omega (arith, eqb-true (suc (length bytes)) 0 d))
default_bytes [] U32 h d = absurd h
default_bytes [] U64 h d = absurd h
default_bytes [] Boolean h d = absurd h
default_bytes [] Enumeration h d = absurd h
default_bytes [] Text h d = refl
default_bytes [] ByteString h d = refl
default_bytes [] (Message s) h d = absurd h

default_back : (table : ℕ → List Row) (p : Part) (k : Kind) → is_single p ≡ true → PartFits table p k → is_default p ≡
    true → default_of k ≡ p
unfolding PartFits
default_back table Absent k i h d = absurd cc
default_back table (Number n) k i h d = default_number n k h d
default_back table (Bytes bytes) k i h d = default_bytes bytes k h d
default_back table (Nested ps) k i h d = absurd cc
default_back table (Elements ps) k i h d = absurd cc
default_back table (Member n p) k i h d = absurd cc

-- ---- lists of numbers

pub or_split : (a b : Bool) → (a || b) ≡ false → (a ≡ false) × (b ≡ false)
or_split true b h = absurd cc
or_split false b h = (refl, h)

pub not_true : (b : Bool) → not b ≡ true → b ≡ false
not_true true h = absurd cc
not_true false h = refl

pub includes-append : (xs ys : List ℕ) (n : ℕ) → includes (xs ++ ys) n ≡ (includes xs n || includes ys n)
includes-append [] ys n = refl
includes-append (x ∷ xs) ys n = rw (includes-append xs ys n) (sym (or_assoc (eqb n x) (includes xs n) (includes ys n)))

pub distinct_back : (xs ys : List ℕ) → are_distinct (xs ++ ys) ≡ true → are_distinct ys ≡ true
distinct_back [] ys d = d
distinct_back (x ∷ xs) ys d = distinct_back xs ys (and_split _ _ d).1

-- a number of the first list is none of the second
pub distinct_other : (xs ys : List ℕ) (n : ℕ) → are_distinct (xs ++ ys) ≡ true → includes xs n ≡ true → includes ys n ≡
    false
distinct_other [] ys n d h = absurd cc
distinct_other (x ∷ xs) ys n d h = by_first (λ g. distinct_other xs ys n (and_split _ _ d).1 g) (eqb n x) refl h
  where
    by_first : (includes xs n ≡ true → includes ys n ≡ false) → (b : Bool) → eqb n x ≡ b → (b || includes xs n) ≡ true →
        includes ys n ≡ false
    by_first later true e g = ap (includes ys) (eqb-true n x e) ∙
        (or_split _ _ (sym (includes-append xs ys x) ∙ not_true _ (and_split _ _ d).0)).1
    by_first later false e g = later g

apart : (xs ys : List ℕ) (rs : List FieldRecord) → are_distinct (xs ++ ys) ≡ true → list_all (λ r. includes xs r.number)
    rs ≡ true → list_all (λ r. not (includes ys r.number)) rs ≡ true
apart xs ys [] d h = refl
apart xs ys (r ∷ rs) d h = let e = and_split _ _ h in and_join _ _ (ap not (distinct_other xs ys r.number d e.0))
    (apart xs ys rs d e.1)

apart_before : (xs ys : List ℕ) (rs : List FieldRecord) → are_distinct (xs ++ ys) ≡ true → list_all
    (λ r. includes ys r.number) rs ≡ true → list_all (λ r. not (includes xs r.number)) rs ≡ true
apart_before xs ys [] d h = refl
apart_before xs ys (r ∷ rs) d h = let e = and_split _ _ h in and_join _ _ (by_test (includes xs r.number) refl e.0)
    (apart_before xs ys rs d e.1)
  where
    by_test : (b : Bool) → includes xs r.number ≡ b → includes ys r.number ≡ true → not b ≡ true
    by_test true f g = absurd (let q : includes ys r.number ≡ false = distinct_other xs ys r.number d f in cc)
    by_test false f g = refl

none_of_both : (xs ys : List ℕ) (rs : List FieldRecord) → list_all (λ r. not (includes (xs ++ ys) r.number)) rs ≡ true →
    (list_all (λ r. not (includes xs r.number)) rs ≡ true) × (list_all (λ r. not (includes ys r.number)) rs ≡ true)
none_of_both xs ys [] h = (refl, refl)
none_of_both xs ys (r ∷ rs) h =
    let e = and_split _ _ h in
    let o = or_split _ _ (sym (includes-append xs ys r.number) ∙ not_true _ e.0) in
    let more_of = none_of_both xs ys rs e.1 in
    (and_join _ _ (ap not o.0) more_of.0, and_join _ _ (ap not o.1) more_of.1)

own_none : (row : Row) (rs : List FieldRecord) → list_all (λ r. not (includes (numbers row) r.number)) rs ≡ true →
    own_records row rs ≡ []
own_none row [] h = refl
own_none row (r ∷ rs) h = let e = and_split _ _ h in rw (not_true (includes (numbers row) r.number) e.0)
    (own_none row rs e.1)

own_all : (row : Row) (rs : List FieldRecord) → list_all (λ r. includes (numbers row) r.number) rs ≡ true → own_records
    row rs ≡ rs
own_all row [] h = refl
own_all row (r ∷ rs) h = let e = and_split (includes (numbers row) r.number) _ h in rw e.0
    (ap (λ (xs : List FieldRecord). r ∷ xs) (own_all row rs e.1))

own_allows : (accepts_nested : NestedAcceptance) (row : Row) (rs : List FieldRecord) → list_all
    (accepts_in_row accepts_nested row) (own_records row rs) ≡ true → list_all (λ r. row_allows accepts_nested r row) rs
    ≡ true
own_allows accepts_nested row [] h = refl
own_allows accepts_nested row (r ∷ rs) h = by_test (λ g. own_allows accepts_nested row rs g)
    (includes (numbers row) r.number) h
  where
    by_test : (list_all (accepts_in_row accepts_nested row) (own_records row rs) ≡ true → list_all
        (λ x. row_allows accepts_nested x row) rs ≡ true) → (b : Bool) → list_all (accepts_in_row accepts_nested row)
        (cond b (r ∷ own_records row rs) (own_records row rs)) ≡ true →
        (cond b (accepts_in_row accepts_nested row r) true && list_all (λ x. row_allows accepts_nested x row) rs) ≡ true
    by_test later true g = let e = and_split _ _ g in and_join _ _ e.0 (later e.1)
    by_test later false g = later g

allow_more : (accepts_nested : NestedAcceptance) (row : Row) (rows : List Row) (rs : List FieldRecord) → list_all
    (λ r. row_allows accepts_nested r row) rs ≡ true → list_all (accepts_record accepts_nested rows) rs ≡ true →
    list_all (accepts_record accepts_nested (row ∷ rows)) rs ≡ true
allow_more accepts_nested row rows [] g h = refl
allow_more accepts_nested row rows (r ∷ rs) g h = let e = and_split _ _ g in let f = and_split _ _ h in and_join _ _
    (and_join _ _ e.0 f.0) (allow_more accepts_nested row rows rs e.1 f.1)

includes_front : (xs ys : List ℕ) (rs : List FieldRecord) → list_all (λ r. includes xs r.number) rs ≡ true → list_all
    (λ r. includes (xs ++ ys) r.number) rs ≡ true
includes_front xs ys [] h = refl
includes_front xs ys (r ∷ rs) h = let e = and_split _ _ h in and_join _ _
    (includes-append xs ys r.number ∙ ap (λ b. b || includes ys r.number) e.0) (includes_front xs ys rs e.1)

includes_back : (xs ys : List ℕ) (rs : List FieldRecord) → list_all (λ r. includes ys r.number) rs ≡ true → list_all
    (λ r. includes (xs ++ ys) r.number) rs ≡ true
includes_back xs ys [] h = refl
includes_back xs ys (r ∷ rs) h = let e = and_split _ _ h in and_join _ _
    (includes-append xs ys r.number ∙ ap (λ b. includes xs r.number || b) e.0 ∙ or-true (includes xs r.number))
    (includes_back xs ys rs e.1)

pub no_rows : (accepts_nested : NestedAcceptance) (rs : List FieldRecord) → list_all (accepts_record accepts_nested [])
    rs ≡ true
no_rows accepts_nested [] = refl
no_rows accepts_nested (r ∷ rs) = no_rows accepts_nested rs

-- ---- one level

abbrev small : RecordValue → Bool
small w = ltb (length (content w)) (2 ^ 64)

-- a record's content is no longer than its encoding
content_below : (n : ℕ) (w : RecordValue) → length (content w) ≤ length
    (record_bytes (record { number = n; value = w }))
content_below n (Varint m) = omega arith
content_below n (Fixed64 bytes) = omega arith
content_below n (Length bytes) =
    let e : length bytes ≤ length (key_bytes n 2 ++ (shortest_varint (length bytes) ++ bytes)) = omega (
      arith,
      length-append (key_bytes n 2) (shortest_varint (length bytes) ++ bytes),
      length-append
          (shortest_varint (length bytes)) bytes,
    ) in
    e
content_below n (Group bytes) = omega arith
content_below n (Fixed32 bytes) = omega arith

small_all : (rs : List FieldRecord) → length (record_list_bytes rs) < 2 ^ 64 → list_all (λ r. small r.value) rs ≡ true
small_all [] h = refl
small_all (r ∷ rs) h =
    let len = length-append (record_bytes r) (record_list_bytes rs) in
    and_join _ _ (lt-ltb (length (content r.value)) (2 ^ 64) (omega (arith, content_below r.number r.value)))
    (small_all rs (omega arith))

number_is : (ns : List ℕ) (n : ℕ) → list_all is_field_number ns ≡ true → includes ns n ≡ true → is_field_number n ≡ true
number_is [] n h g = absurd cc
number_is (m ∷ ns) n h g = by_first (λ k. number_is ns n (and_split _ _ h).1 k) (eqb n m) refl g
  where
    by_first : (includes ns n ≡ true → is_field_number n ≡ true) → (b : Bool) → eqb n m ≡ b → (b || includes ns n) ≡
        true → is_field_number n ≡ true
    by_first later true e g = ap is_field_number (eqb-true n m e) ∙ (and_split _ _ h).0
    by_first later false e g = later g

encode_all : (ns : List ℕ) (rs : List FieldRecord) → list_all is_field_number ns ≡ true → list_all
    (λ r. includes ns r.number) rs ≡ true → list_all (λ r. encodable_value r.value) rs ≡ true → list_all encodable rs ≡
    true
encode_all ns [] h m s = refl
encode_all ns (r ∷ rs) h m s = let e = and_split _ _ m in let f = and_split _ _ s in and_join _ _
    (and_join _ _ (number_is ns r.number h e.0) f.0) (encode_all ns rs h e.1 f.1)

module _ (table : ℕ → List Row) (overlay_nested : NestedOverlay) (accepts_nested : NestedAcceptance) (left : ℕ)
    (back : (t : ℕ) (ps : Parts) → Fits table ps (table t) → suc (levels ps) ≤ left → ltb
    (length (canonical_payload table t ps)) (2 ^ 64) ≡ true →
    (accepts_nested t (canonical_payload table t ps) ≡ true) ×
    (overlay_nested t (empty_value (table t)) (canonical_payload table t ps) ≡ ps)) where
  -- the one record value of a single part
  record Single (p : Part) (k : Kind) : Type 0 where
    w : RecordValue
    is : part_values table p k ≡ w ∷ []
    encodes : encodable_value w ≡ true
    takes_it : accepts_value accepts_nested k w ≡ true
    each_takes_it : accepts_element accepts_nested k w ≡ true
    from_absent : singular_of table overlay_nested k Absent w [] ≡ p
    from_default : singular_of table overlay_nested k (default_of k) w [] ≡ p
    adds : elements_of table overlay_nested k w ≡ one_part p

  single_number : (n : ℕ) (k : Kind) → NumberFits k n → Single (Number n) k
  unfolding part_values
  single_number n U32 h = let e = number_back U32 n h in record {
    w = Varint (written_number U32 n);
    is = refl;
    encodes = lt-ltb (written_number U32 n) (2 ^ 64)
        (number_small U32 n h);
    takes_it = refl;
    each_takes_it = refl;
    from_absent = e;
    from_default = e;
    adds = ap
        one_part e;
  }
  single_number n U64 h = let e = number_back U64 n h in record {
    w = Varint (written_number U64 n);
    is = refl;
    encodes = lt-ltb (written_number U64 n) (2 ^ 64)
        (number_small U64 n h);
    takes_it = refl;
    each_takes_it = refl;
    from_absent = e;
    from_default = e;
    adds = ap
        one_part e;
  }
  single_number n Boolean h = let e = number_back Boolean n h in record {
    w = Varint (written_number Boolean n);
    is = refl;
    encodes = lt-ltb (written_number Boolean n) (2 ^ 64)
        (number_small Boolean n h);
    takes_it = refl;
    each_takes_it = refl;
    from_absent = e;
    from_default = e;
    adds = ap
        one_part e;
  }
  single_number n Enumeration h = let e = number_back Enumeration n h in record {
    w = Varint (written_number Enumeration n);
    is = refl;
    encodes = lt-ltb (written_number Enumeration n) (2 ^ 64)
        (number_small Enumeration n h);
    takes_it = refl;
    each_takes_it = refl;
    from_absent = e;
    from_default = e;
    adds =
        ap one_part e;
  }
  single_number n Text h = absurd h
  single_number n ByteString h = absurd h
  single_number n (Message s) h = absurd h

  single_bytes : (bytes : List ℕ) (k : Kind) → BytesFit k bytes → list_all small (Length bytes ∷ []) ≡ true → Single
      (Bytes bytes) k
  unfolding part_values
  single_bytes bytes U32 h z = absurd h
  single_bytes bytes U64 h z = absurd h
  single_bytes bytes Boolean h z = absurd h
  single_bytes bytes Enumeration h z = absurd h
  single_bytes bytes Text h z = record {
    w = Length bytes;
    is = refl;
    encodes = (and_split _ _ z).0;
    takes_it = h;
    each_takes_it = h;
    from_absent = refl;
    from_default = refl;
    adds = refl;
  }
  single_bytes bytes ByteString h z = record {
    w = Length bytes;
    is = refl;
    encodes = (and_split _ _ z).0;
    takes_it =
        refl;
    each_takes_it = refl;
    from_absent = refl;
    from_default = refl;
    adds = refl;
  }
  single_bytes bytes (Message s) h z = absurd h

  single_message : (ps : Parts) (k : Kind) → PartFits table (Nested ps) k → suc (levels ps) ≤ left → list_all small
      (part_values table (Nested ps) k) ≡ true → Single (Nested ps) k
  unfolding part_values PartFits
  single_message ps U32 h l s = absurd h
  single_message ps U64 h l s = absurd h
  single_message ps Boolean h l s = absurd h
  single_message ps Enumeration h l s = absurd h
  single_message ps Text h l s = absurd h
  single_message ps ByteString h l s = absurd h
  single_message ps (Message t) h l s =
      let e = back t ps h l (and_split _ _ s).0 in
      record {
        w = Length (canonical_payload table t ps);
        is = refl;
        encodes = (and_split _ _ s).0;
        takes_it = e.0;
        each_takes_it = e.0;
        from_absent = ap Nested (ap (overlay_nested t (empty_value (table t)))
            (append-nil (canonical_payload table t ps)) ∙ e.1);
        from_default = ap Nested
            (ap (overlay_nested t (empty_value (table t))) (append-nil (canonical_payload table t ps)) ∙ e.1);
        adds = ap
            (λ m. one_part (Nested m)) e.1;
      }

  single : (p : Part) (k : Kind) → is_single p ≡ true → PartFits table p k → part_levels p ≤ left → list_all small
      (part_values table p k) ≡ true → Single p k
  unfolding part_values PartFits levels
  single Absent k i h l s = absurd cc
  single (Number n) k i h l s = single_number n k h
  single (Bytes bytes) k i h l s = single_bytes bytes k h s
  single (Nested ps) k i h l s = single_message ps k h l s
  single (Elements ps) k i h l s = absurd cc
  single (Member n p) k i h l s = absurd cc

  -- ---- elements

  record ElementsBack (ps : Parts) (k : Kind) : Type 0 where
    adds : all_elements table overlay_nested k (element_values table ps k) ≡ ps
    takes_them : list_all (accepts_element accepts_nested k) (element_values table ps k) ≡ true
    encode_them : list_all encodable_value (element_values table ps k) ≡ true

  elements_back : (ps : Parts) (k : Kind) → ElementsFit table ps k → levels ps ≤ left → list_all small
      (element_values table ps k) ≡ true → ElementsBack ps k
  unfolding part_values PartFits levels
  elements_back nil k h l s = record { adds = refl; takes_them = refl; encode_them = refl }
  elements_back (cons p ps) k h l s =
      let both = and_split _ _ (sym (list_all-append small (part_values table p k) (element_values table ps k)) ∙ s) in
      let x = single p k h.0 h.1 (omega arith) both.0 in
      let xs = elements_back ps k h.2 (omega arith) both.1 in
      record {
        adds = rw x.is (ap (λ q. q +++ all_elements table overlay_nested k (element_values table ps k)) x.adds ∙ ap
            (cons p) xs.adds);
        takes_them = rw x.is (and_join _ _ x.each_takes_it xs.takes_them);
        encode_them = rw x.is (and_join _ _ x.encodes xs.encode_them);
      }

  -- ---- rows

  -- what these records leave of the empty part, and that they are accepted
  record RowBack (row : Row) (p : Part) (rs : List FieldRecord) : Type 0 where
    gives : row_over table overlay_nested row (empty_part row) rs ≡ p
    takes_all : list_all (accepts_in_row accepts_nested row) rs ≡ true
    mine : list_all (λ r. includes (numbers row) r.number) rs ≡ true
    encodes : list_all (λ r. encodable_value r.value) rs ≡ true

  with_number : ℕ → List RecordValue → List FieldRecord
  with_number n ws = map (λ w. record { number = n; value = w }) ws

  plain_back : (n : ℕ) (k : Kind) (p : Part) → is_single p ≡ true → PartFits table p k → part_levels p ≤ left →
      (b : Bool) → is_default p ≡ b → list_all (λ r. small r.value) (with_number n (cond b [] (part_values table p k)))
      ≡ true → RowBack (Plain n k) p (with_number n (cond b [] (part_values table p k)))
  unfolding with_number
  plain_back n k p i h l true d s = record {
    gives = default_back table p k i h d;
    takes_all = refl;
    mine = refl;
    encodes = refl;
  }
  plain_back n k p i h l false d s =
      let x = single p k i h l (sym (list_all-map (λ (r : FieldRecord). small r.value)
      (λ (w : RecordValue). record { number = n; value = w }) (part_values table p k)) ∙ s) in
      rw x.is (record {
        gives = x.from_default;
        takes_all = and_join _ _ x.takes_it refl;
        encodes = and_join _ _
            x.encodes refl;
        mine = rw (eq-eqb n n refl) refl;
      })

  optional_back : (n : ℕ) (k : Kind) (p : Part) → is_single p ≡ true → PartFits table p k → part_levels p ≤ left →
      list_all (λ r. small r.value) (with_number n (part_values table p k)) ≡ true → RowBack (Optional n k) p
      (with_number n (part_values table p k))
  unfolding with_number
  optional_back n k p i h l s =
      let x = single p k i h l (sym (list_all-map (λ (r : FieldRecord). small r.value)
      (λ (w : RecordValue). record { number = n; value = w }) (part_values table p k)) ∙ s) in
      rw x.is (record {
        gives = x.from_absent;
        takes_all = and_join _ _ x.takes_it refl;
        encodes = and_join _ _
            x.encodes refl;
        mine = rw (eq-eqb n n refl) refl;
      })

  variant_back : (ms : List (ℕ × Kind)) (n : ℕ) (p : Part) → includes (numbers (OneOf ms)) n ≡ true → is_single p ≡ true
      → PartFits table p (member_kind ms n) → part_levels p ≤ left → list_all (λ r. small r.value)
      (with_number n (part_values table p (member_kind ms n))) ≡ true → RowBack (OneOf ms) (Member n p)
      (with_number n (part_values table p (member_kind ms n)))
  unfolding with_number
  variant_back ms n p m i h l s =
      let k = member_kind ms n in
      let x = single p k i h l (sym (list_all-map (λ (r : FieldRecord). small r.value)
      (λ (w : RecordValue). record { number = n; value = w }) (part_values table p k)) ∙ s) in
      rw x.is (record {
        gives = rw (eq-eqb n n refl) (ap (Member n) x.from_absent);
        takes_all = and_join _ _ x.takes_it
            refl;
        encodes = and_join _ _ x.encodes refl;
        mine = and_join _ _ m refl;
      })

  values_with : (n : ℕ) (ws : List RecordValue) → values (with_number n ws) ≡ ws
  unfolding with_number
  values_with n [] = refl
  values_with n (w ∷ ws) = ap (λ (xs : List RecordValue). w ∷ xs) (values_with n ws)

  mine_with : (n : ℕ) (ws : List RecordValue) → list_all (λ r. includes (n ∷ []) r.number) (with_number n ws) ≡ true
  unfolding with_number
  mine_with n [] = refl
  mine_with n (w ∷ ws) = and_join _ _ (rw (eq-eqb n n refl) refl) (mine_with n ws)

  repeated_back : (n : ℕ) (k : Kind) (ps : Parts) → ElementsBack ps k → RowBack (Repeated n k) (Elements ps)
      (with_number n (element_values table ps k))
  unfolding with_number
  repeated_back n k ps e = record {
    gives = repeated_over_is table overlay_nested k (Elements nil) (values (with_number n (element_values table ps k)))
        ∙ ap (λ ws. Elements (all_elements table overlay_nested k ws)) (values_with n (element_values table ps k)) ∙ ap
        Elements e.adds;
    takes_all = list_all-map (λ (r : FieldRecord). accepts_element accepts_nested k r.value)
        (λ (w : RecordValue). record { number = n; value = w }) (element_values table ps k) ∙ e.takes_them;
    mine = mine_with n (element_values table ps k);
    encodes = list_all-map (λ (r : FieldRecord). encodable_value r.value)
        (λ (w : RecordValue). record { number = n; value = w }) (element_values table ps k) ∙ e.encode_them;
  }

  packed_back : (n : ℕ) (k : Kind) (ps : Parts) (bytes : List ℕ) (ns : List ℕ) → accepts_number k ≡ true → bytes ≡
      flat_map shortest_varint ns → number_parts k ns ≡ ps → list_all (λ m. ltb m (2 ^ 64)) ns ≡ true → list_all small
      (Length bytes ∷ []) ≡ true → RowBack (Repeated n k) (Elements ps)
      (record { number = n; value = Length bytes } ∷ [])
  packed_back n k ps bytes ns a b l h z =
      let found : packed_numbers bytes ≡ Some ns = ap packed_numbers b ∙ varints_encoded ns h in
      record {
        gives = rw (a, found) (ap Elements (parts_append_nil (number_parts k ns) ∙ l));
        takes_all = rw (a, found) refl;
        encodes = z;
        mine = rw (eq-eqb n n refl) refl;
      }

  list_back : (n : ℕ) (k : Kind) (ps : Parts) (b : Bool) → accepts_number k ≡ b → ElementsFit table ps k → levels ps ≤
      left → list_all (λ r. small r.value) (with_number n (cond b (run_values (element_values table ps k))
      (element_values table ps k))) ≡ true → RowBack (Repeated n k) (Elements ps)
      (with_number n (cond b (run_values (element_values table ps k)) (element_values table ps k)))
  unfolding part_values PartFits levels with_number
  list_back n k nil true a h l s = record { gives = refl; takes_all = refl; mine = refl; encodes = refl }
  list_back n k (cons (Number m) ps) true a h l s =
      let r = run_back table k (cons (Number m) ps) a h in
      packed_back n k (cons (Number m) ps) (flat_map number_bytes (element_values table (cons (Number m) ps) k))
      (element_numbers k (cons (Number m) ps)) a r.0 r.1 r.2 s
  list_back n k (cons Absent ps) true a h l s = absurd (cc h.0)
  list_back n k (cons (Elements qs) ps) true a h l s = absurd (cc h.0)
  list_back n k (cons (Member m p) ps) true a h l s = absurd (cc h.0)
  list_back n k (cons (Bytes bytes) ps) true a h l s = absurd (no_bytes k bytes a h.1)
  list_back n k (cons (Nested qs) ps) true a h l s = absurd (no_message table k qs a h.1)
  list_back n k ps false a h l s = repeated_back n k ps
      (elements_back ps k h l (sym (list_all-map (λ (r : FieldRecord). small r.value)
      (λ (w : RecordValue). record { number = n; value = w }) (element_values table ps k)) ∙ s))

  row_back : (row : Row) (p : Part) → has_shape row p ≡ true → PartFits table p (kind_of row p) → part_levels p ≤ left →
      list_all (λ r. small r.value) (row_records row p (part_values table p (kind_of row p))) ≡ true → RowBack row p
      (row_records row p (part_values table p (kind_of row p)))
  unfolding part_values PartFits levels with_number
  row_back (Plain n k) p i h l s = plain_back n k p i h l (is_default p) refl s
  row_back (Optional n k) Absent i h l s = record { gives = refl; takes_all = refl; mine = refl; encodes = refl }
  row_back (Optional n k) p i h l s = optional_back n k p i h l s
  row_back (Repeated n k) (Elements ps) i h l s = list_back n k ps (accepts_number k) refl h l s
  row_back (Repeated n k) p i h l s = absurd cc
  row_back (OneOf ms) Absent i h l s = record { gives = refl; takes_all = refl; mine = refl; encodes = refl }
  row_back (OneOf ms) (Member n p) i h l s = let e = and_split _ _ i in variant_back ms n p e.0 e.1 h l s
  row_back (OneOf ms) p i h l s = absurd cc

  -- ---- the whole list, row by row

  -- the numbers of what is written for a value
  numbers_in : (v : Parts) (rows : List Row) → Fits table v rows → levels v ≤ left → list_all (λ r. small r.value)
      (message_records table v rows) ≡ true → list_all (λ r. includes (all_numbers rows) r.number)
      (message_records table v rows) ≡ true
  unfolding part_values PartFits levels
  numbers_in nil [] h l s = refl
  numbers_in nil (row ∷ rows) h l s = absurd h
  numbers_in (cons p ps) [] h l s = absurd h
  numbers_in (cons p ps) (row ∷ rows) h l s =
      let e = and_split _ _ (sym (list_all-append (λ (r : FieldRecord). small r.value)
      (row_records row p (part_values table p (kind_of row p))) (message_records table ps rows)) ∙ s) in
      let x = row_back row p h.0 h.1 (omega arith) e.0 in
      list_all-append (λ (r : FieldRecord). includes (all_numbers (row ∷ rows)) r.number)
      (row_records row p (part_values table p (kind_of row p))) (message_records table ps rows)
      ∙ and_join _ _ (includes_front (numbers row) (all_numbers rows)
      (row_records row p (part_values table p (kind_of row p))) x.mine)
      (includes_back (numbers row) (all_numbers rows) (message_records table ps rows)
      (numbers_in ps rows h.2 (omega arith) e.1))

  record WholeBack (rows : List Row) (v : Parts) (rs : List FieldRecord) : Type 0 where
    gives : rows_over table overlay_nested rows (empty_value rows) rs ≡ v
    allows : list_all (accepts_record accepts_nested rows) rs ≡ true

  whole_back : (v : Parts) (rows : List Row) (before : List FieldRecord) → are_distinct (all_numbers rows) ≡ true →
      list_all (λ r. not (includes (all_numbers rows) r.number)) before ≡ true
      → Fits table v rows → levels v ≤ left → list_all (λ r. small r.value) (message_records table v rows) ≡ true →
      WholeBack rows v (before ++ message_records table v rows)
  unfolding part_values PartFits levels
  whole_back nil [] before d b h l s = record {
    gives = refl;
    allows = no_rows accepts_nested
        (before ++ message_records table nil []);
  }
  whole_back nil (row ∷ rows) before d b h l s = absurd h
  whole_back (cons p ps) [] before d b h l s = absurd h
  whole_back (cons p ps) (row ∷ rows) before d b h l s =
      let own_part = row_records row p (part_values table p (kind_of row p)) in
      let rest = message_records table ps rows in
      let e = and_split _ _ (sym (list_all-append (λ (r : FieldRecord). small r.value) own_part rest) ∙ s) in
      let x = row_back row p h.0 h.1 (omega arith) e.0 in
      let in_rest = numbers_in ps rows h.2 (omega arith) e.1 in
      let apart_of = none_of_both (numbers row) (all_numbers rows) before b in
      let mine : own_records row (before ++ (own_part ++ rest)) ≡ own_part =
      filter-append (λ (r : FieldRecord). includes (numbers row) r.number) before (own_part ++ rest)
      ∙ ap (λ (rs : List FieldRecord). rs ++ own_records row (own_part ++ rest)) (own_none row before apart_of.0)
      ∙ filter-append (λ (r : FieldRecord). includes (numbers row) r.number) own_part rest
      ∙ ap (λ (rs : List FieldRecord). rs ++ own_records row rest) (own_all row own_part x.mine)
      ∙ ap (λ (rs : List FieldRecord). own_part ++ rs) (own_none row rest
      (apart_before (numbers row) (all_numbers rows) rest d in_rest))
      ∙ append-nil own_part in
      let disjoint = list_all-append (λ (r : FieldRecord). not (includes (all_numbers rows) r.number)) before own_part ∙
      and_join _ _ apart_of.1 (apart (numbers row) (all_numbers rows) own_part d x.mine) in
      let next = subst (WholeBack rows ps) (append_assoc before own_part rest)
      (whole_back ps rows (before ++ own_part) (distinct_back (numbers row) (all_numbers rows) d) disjoint h.2
      (omega arith) e.1) in
      record {
        gives = ap (λ (rs : List FieldRecord). cons (row_over table overlay_nested row (empty_part row) rs)
            (rows_over table overlay_nested rows (empty_value rows) (before ++ (own_part ++ rest)))) mine ∙ ap
            (λ q. cons q (rows_over table overlay_nested rows (empty_value rows) (before ++ (own_part ++ rest))))
            x.gives ∙ ap (cons p) next.gives;
        allows = allow_more accepts_nested row rows (before ++ (own_part ++ rest))
            (own_allows accepts_nested row (before ++ (own_part ++ rest))
            (ap (list_all (accepts_in_row accepts_nested row)) mine ∙ x.takes_all)) next.allows;
      }

  encodes_all : (v : Parts) (rows : List Row) → Fits table v rows → levels v ≤ left → list_all (λ r. small r.value)
      (message_records table v rows) ≡ true → list_all (λ r. encodable_value r.value) (message_records table v rows) ≡
      true
  unfolding part_values PartFits levels
  encodes_all nil [] h l s = refl
  encodes_all nil (row ∷ rows) h l s = absurd h
  encodes_all (cons p ps) [] h l s = absurd h
  encodes_all (cons p ps) (row ∷ rows) h l s =
      let own_part = row_records row p (part_values table p (kind_of row p)) in
      let rest = message_records table ps rows in
      let e = and_split _ _ (sym (list_all-append (λ (r : FieldRecord). small r.value) own_part rest) ∙ s) in
      let x = row_back row p h.0 h.1 (omega arith) e.0 in
      list_all-append (λ (r : FieldRecord). encodable_value r.value) own_part rest ∙ and_join _ _ x.encodes
      (encodes_all ps rows h.2 (omega arith) e.1)

  -- what a value's records leave, and that they have an encoding
  pub record LevelBack (rows : List Row) (v : Parts) : Type 0 where
    pub gives : rows_over table overlay_nested rows (empty_value rows) (message_records table v rows) ≡ v
    pub allows : list_all (accepts_record accepts_nested rows) (message_records table v rows) ≡ true
    pub encodes : list_all encodable (message_records table v rows) ≡ true

  pub level_back : (v : Parts) (rows : List Row) → is_schema rows ≡ true → Fits table v rows → levels v ≤ left → length
      (record_list_bytes (message_records table v rows)) < 2 ^ 64 → LevelBack rows v
  level_back v rows d h l z =
      let e = and_split _ _ d in
      let s = small_all (message_records table v rows) z in
      let w = whole_back v rows [] e.1 refl h l s in
      record {
        gives = w.gives;
        allows = w.allows;
        encodes = encode_all (all_numbers rows)
            (message_records table v rows) e.0 (numbers_in v rows h l s) (encodes_all v rows h l s);
      }
