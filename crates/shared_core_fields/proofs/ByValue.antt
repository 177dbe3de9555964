-- The fields by the records of a canonical payload are those by the value.
use Rattle.std.proofs.Common.{◌≡◌, ℕ, zero, suc, ◌+◌, ◌-◌, ◌%◌, ◌^◌, ◌<◌, ◌≤◌, List, [], ◌∷◌, ◌++◌, map, Bool, true}
use Rattle.std.proofs.Common.{false, cond, ◌||◌, Option, Some, None, refl, sym, ap, ◌∙◌, arith, eqb, eq-eqb, ltb}
use Rattle.std.proofs.lemmas.Bool.{lt-ltb, ltb-true}
use Rattle.std.proofs.lemmas.List.Folds.{list_all-append}
use Rattle.std.specs.Prelude.{flat_map}
use Rattle.std.specs.List.{list_all}
use Rattle.std.specs.Option.{option_or}
use Rattle.shared_core_wire.specs.Grammar.{RecordValue, Varint, Length, FieldRecord}
use Rattle.shared_core_wire.specs.Encoding.{shortest_varint}
use Rattle.shared_core_wire.specs.Schema.{Table, Kind, Row, U32, U64, Boolean, Enumeration, Text, ByteString, Message}
use Rattle.shared_core_wire.specs.Schema.{Plain}
use Rattle.shared_core_wire.specs.Schema.{Optional, Repeated, OneOf, numbers, includes, member_kind}
use Rattle.shared_core_wire.specs.Value.{Part, Parts, Absent, Number, Bytes, Nested, Elements, Member, nil, cons}
use Rattle.shared_core_wire.specs.Canonical.{is_default, number_bytes, run_values, written_number, kind_of, row_records}
use Rattle.shared_core_wire.specs.Canonical.{part_values, element_values, message_records, canonical_payload}
use Rattle.shared_core_wire.specs.Canonical.{part_levels, levels}
use Rattle.shared_core_wire.specs.Fitting.{is_single, has_shape, NumberFits, BytesFit, PartFits, ElementsFit, Fits}
use Rattle.shared_core_wire.specs.Overlay.{number_parts}
use Rattle.shared_core_wire.specs.Acceptance.{accepts_number}
use Rattle.shared_core_wire.proofs.Numbers.{no_bytes, no_message, element_numbers, run_back}
use Rattle.shared_core_wire.proofs.Runs.{and_split}
use Rattle.shared_core_wire.proofs.ReadBackLevels.{canonical_back}
use Rattle.shared_core_wire.proofs.EncodingLaws.{encodable, encodable_value, varints_encoded}
use Rattle.shared_core_codec.specs.Tables.{IsTable}
use Rattle.shared_core_codec.specs.ProgramRows.{member_numbered, field_in_row, field_numbered}
use Rattle.shared_core_wire.specs.Schema.{is_schema}
use Rattle.shared_core_codec.proofs.NextFields.{AreLeft, later_left}
use Rattle.shared_core_fields.specs.Runs.{numbers_or_none, run_numbers}
use Rattle.shared_core_fields.specs.Fields.{FieldPart, list_field, each_field, row_fields, message_fields}
use Rattle.shared_core_fields.specs.Fields.{number_part_of, other_part_in, record_part_in}

-- ---- the field of a record

module _ (table : Table) where
  -- A field of the number that a record is of, if one is found.
  abbrev pub found_field : ℕ → RecordValue → Option (Kind × Bool) → FieldPart
  found_field n w None = (n, (ByteString, false), Absent)
  found_field n w (Some f) = (n, f, record_part_in table f w)

  -- The field of a record, by the rows of its schema.
  abbrev pub record_field : List Row → FieldRecord → FieldPart
  record_field rows r = found_field r.number r.value (field_numbered rows r.number)

-- ---- the field of a number of a row

abbrev pub own_kind : Row → ℕ → Kind × Bool
own_kind (Plain m k) n = (k, false)
own_kind (Optional m k) n = (k, false)
own_kind (Repeated m k) n = (k, true)
own_kind (OneOf members) n = (member_kind members n, false)

one_own : (b : Bool) (f : Kind × Bool) → (b || false) ≡ true → cond b (Some f) None ≡ Some f
one_own true f h = refl
one_own false f h = absurd cc

member_own : (members : List (ℕ × Kind)) (n : ℕ) → includes (numbers (OneOf members)) n ≡ true → member_numbered members
    n ≡ Some (member_kind members n, false)
member_own [] n h = absurd cc
member_own (m ∷ members) n h = by_test (member_own members n) (eqb n m.0) h
  where
    by_test : (includes (numbers (OneOf members)) n ≡ true → member_numbered members n ≡ Some
        (member_kind members n, false)) → (b : Bool) → (b || includes (numbers (OneOf members)) n) ≡ true
        → option_or (cond b (Some (m.1, false)) None) (member_numbered members n) ≡ Some
        (cond b m.1 (member_kind members n), false)
    by_test later true g = refl
    by_test later false g = later g

pub row_own : (row : Row) (n : ℕ) → includes (numbers row) n ≡ true → field_in_row row n ≡ Some (own_kind row n)
row_own (Plain m k) n h = one_own (eqb n m) (k, false) h
row_own (Optional m k) n h = one_own (eqb n m) (k, false) h
row_own (Repeated m k) n h = one_own (eqb n m) (k, true) h
row_own (OneOf members) n h = member_own members n h

finds_own : (all : List Row) (row : Row) (rows : List Row) → AreLeft all (row ∷ rows) → (n : ℕ) → includes (numbers row)
    n ≡ true → field_numbered all n ≡ Some (own_kind row n)
finds_own all row rows a n h = a.finds n (own_kind row n) (ap (λ o. option_or o (field_numbered rows n))
    (row_own row n h))

pub own_number : (n : ℕ) → includes (n ∷ []) n ≡ true
own_number n = rw (eq-eqb n n refl) refl

-- The rows of each entry of a table are those of a schema.
pub schemas : (table : Table) → IsTable table → (s : ℕ) → is_schema (table s) ≡ true
schemas table valid s = (and_split _ _ (valid s)).0

-- ---- single parts

module _ (table : Table) (valid : IsTable table) where
  record Single (p : Part) (k : Kind) : Type 0 where
    w : RecordValue
    is : part_values table p k ≡ w ∷ []
    back : (repeated : Bool) → encodable_value w ≡ true → record_part_in table (k, repeated) w ≡ p

  enum_back : (n : ℕ) → n < 2 ^ 32 → written_number Enumeration n % 2 ^ 32 ≡ n
  enum_back n h = by_sign (ltb n (2 ^ 31))
    where
      by_sign : (b : Bool) → cond b n (n + (2 ^ 64 - 2 ^ 32)) % 2 ^ 32 ≡ n
      by_sign true = omega arith
      by_sign false = omega arith

  boolean_back : (n : ℕ) → n < 2 → cond (eqb n 0) 0 1 ≡ n
  boolean_back zero h = refl
  boolean_back (suc zero) h = refl
  boolean_back (suc (suc n)) h = absurd (omega arith)

  single_number : (n : ℕ) (k : Kind) → NumberFits k n → Single (Number n) k
  unfolding part_values
  single_number n U32 h = record { w = Varint n; is = refl; back = λ b z. ap Number (omega (arith, h)) }
  single_number n U64 h = record { w = Varint n; is = refl; back = λ b z. refl }
  single_number n Boolean h = record { w = Varint n; is = refl; back = λ b z. ap Number (boolean_back n h) }
  single_number n Enumeration h = record {
    w = Varint (written_number Enumeration n);
    is = refl;
    back = λ b z. ap Number
        (enum_back n h);
  }
  single_number n Text h = absurd h
  single_number n ByteString h = absurd h
  single_number n (Message s) h = absurd h

  single_bytes : (bytes : List ℕ) (k : Kind) → BytesFit k bytes → Single (Bytes bytes) k
  unfolding part_values
  single_bytes bytes Text h = record { w = Length bytes; is = refl; back = λ b z. refl }
  single_bytes bytes ByteString h = record { w = Length bytes; is = refl; back = λ b z. refl }
  single_bytes bytes U32 h = absurd h
  single_bytes bytes U64 h = absurd h
  single_bytes bytes Boolean h = absurd h
  single_bytes bytes Enumeration h = absurd h
  single_bytes bytes (Message s) h = absurd h

  single_message : (ps : Parts) (k : Kind) → PartFits table (Nested ps) k → levels ps ≤ 100 → Single (Nested ps) k
  unfolding part_values PartFits
  single_message ps (Message s) h l = record {
    w = Length (canonical_payload table s ps);
    is = refl;
    back = λ b z. ap
        Nested (canonical_back table (schemas table valid) 100 s ps h l (ltb-true _ _ z)).1;
  }
  single_message ps U32 h l = absurd h
  single_message ps U64 h l = absurd h
  single_message ps Boolean h l = absurd h
  single_message ps Enumeration h l = absurd h
  single_message ps Text h l = absurd h
  single_message ps ByteString h l = absurd h

  single : (p : Part) (k : Kind) → is_single p ≡ true → PartFits table p k → part_levels p ≤ 100 → Single p k
  unfolding PartFits levels
  single Absent k i h l = absurd cc
  single (Number n) k i h l = single_number n k h
  single (Bytes bytes) k i h l = single_bytes bytes k h
  single (Nested ps) k i h l = single_message ps k h (omega (arith, l))
  single (Elements ps) k i h l = absurd cc
  single (Member n p) k i h l = absurd cc

  -- ---- packed runs

  record Run (k : Kind) (ps : Parts) : Type 0 where
    bytes : flat_map number_bytes (element_values table ps k) ≡ flat_map shortest_varint (element_numbers k ps)
    fit : list_all (λ n. ltb n (2 ^ 64)) (element_numbers k ps) ≡ true
    elements : number_parts k (element_numbers k ps) ≡ ps

  run : (k : Kind) (ps : Parts) → accepts_number k ≡ true → ElementsFit table ps k → Run k ps
  run k ps a h = let r = run_back table k ps a h in record { bytes = r.0; fit = r.2; elements = r.1 }

  packed : (k : Kind) (ps : Parts) → accepts_number k ≡ true → ElementsFit table ps k → number_parts k
      (run_numbers (flat_map number_bytes (element_values table ps k))) ≡ ps
  packed k ps a h =
      let r = run k ps a h in
      ap (λ (bs : List ℕ). number_parts k (run_numbers bs)) r.bytes ∙ ap (λ o. number_parts k (numbers_or_none o))
      (varints_encoded (element_numbers k ps) r.fit) ∙ r.elements

  -- ---- rows

  module _ (all : List Row) where
    one_field : (n : ℕ) (k : Kind) (repeated : Bool) (p : Part) → field_numbered all n ≡ Some (k, repeated)
        → Single p k →
        list_all encodable (map (λ w. record { number = n; value = w }) (part_values table p k)) ≡ true
        → map (record_field table all) (map (λ w. record { number = n; value = w }) (part_values table p k)) ≡
        (n, (k, repeated), p) ∷ []
    one_field n k repeated p f x s =
        let e = ap (λ (ws : List RecordValue). list_all encodable (map (λ w. record { number = n; value = w }) ws))
        (sym x.is) ∙ s in
        ap (λ (ws : List RecordValue). map (record_field table all) (map (λ w. record { number = n; value = w }) ws))
        x.is
        ∙ ap (λ o. found_field table n x.w o ∷ []) f
        ∙ ap (λ (q : Part). (n, (k, repeated), q) ∷ []) (x.back repeated (and_split _ _ (and_split _ _ e).0).1)

    plain_fields : (n : ℕ) (k : Kind) (p : Part) (default : Bool) → field_numbered all n ≡ Some (k, false) → Single p k
        → list_all encodable (map (λ w. record { number = n; value = w }) (cond default [] (part_values table p k))) ≡
        true
        → map (record_field table all) (map (λ w. record { number = n; value = w }) (cond default [] (part_values table
        p k))) ≡
        cond default [] ((n, (k, false), p) ∷ [])
    plain_fields n k p true f x s = refl
    plain_fields n k p false f x s = one_field n k false p f x s

    each_fields : (n : ℕ) (k : Kind) (ps : Parts) → field_numbered all n ≡ Some (k, true) → ElementsFit table ps k →
        levels ps ≤ 100
        → list_all encodable (map (λ w. record { number = n; value = w }) (element_values table ps k)) ≡ true
        → map (record_field table all) (map (λ w. record { number = n; value = w }) (element_values table ps k)) ≡
        each_field n
        k ps
    unfolding part_values PartFits levels
    each_fields n k nil f h l s = refl
    each_fields n k (cons p ps) f h l s =
        let x = single p k h.0 h.1 (omega arith) in
        let low_rest : levels ps ≤ 100 = omega arith in
        let e = and_split _ _ (ap (λ (ws : List RecordValue). list_all encodable
        (map (λ w. record { number = n; value = w }) (ws ++ element_values table ps k))) (sym x.is) ∙ s) in
        ap (λ (ws : List RecordValue). map (record_field table all) (map (λ w. record { number = n; value = w })
        (ws ++ element_values table ps k))) x.is
        ∙ ap (λ o. found_field table n x.w o ∷ map (record_field table all)
        (map (λ w. record { number = n; value = w }) (element_values table ps k))) f
        ∙ ap (λ (q : Part). (n, (k, true), q) ∷ map (record_field table all)
        (map (λ w. record { number = n; value = w }) (element_values table ps k))) (x.back true (and_split _ _ e.0).1)
        ∙ ap (λ (fs : List FieldPart). (n, (k, true), p) ∷ fs) (each_fields n k ps f h.2 low_rest e.1)

    list_fields : (n : ℕ) (k : Kind) (ps : Parts) (b : Bool) → accepts_number k ≡ b → field_numbered all n ≡ Some
        (k, true) → ElementsFit table ps k → levels ps ≤ 100
        → list_all encodable (map (λ w. record { number = n; value = w })
        (cond b (run_values (element_values table ps k)) (element_values table ps k))) ≡ true
        → map (record_field table all) (map (λ w. record { number = n; value = w })
        (cond b (run_values (element_values table ps k)) (element_values table ps k))) ≡ cond b (list_field n k ps)
        (each_field n k ps)
    unfolding part_values PartFits levels
    list_fields n k nil true a f h l s = refl
    list_fields n k (cons (Number m) ps) true a f h l s =
        let bytes = flat_map number_bytes (element_values table (cons (Number m) ps) k) in
        ap (λ o. found_field table n (Length bytes) o ∷ []) f
        ∙ ap (λ (b : Bool). (
          n,
          (k, true),
          cond b (number_part_of k (Length bytes))
              (other_part_in table k (Length bytes)),
        ) ∷ []) a
        ∙ ap (λ (qs : Parts). (n, (k, true), Elements qs) ∷ []) (packed k (cons (Number m) ps) a h)
    list_fields n k (cons Absent ps) true a f h l s = absurd (cc h.0)
    list_fields n k (cons (Elements qs) ps) true a f h l s = absurd (cc h.0)
    list_fields n k (cons (Member m p) ps) true a f h l s = absurd (cc h.0)
    list_fields n k (cons (Bytes bytes) ps) true a f h l s = absurd (no_bytes k bytes a h.1)
    list_fields n k (cons (Nested qs) ps) true a f h l s = absurd (no_message table k qs a h.1)
    list_fields n k ps false a f h l s = each_fields n k ps f h l s

    row_back : (row : Row) (p : Part) → ((n : ℕ) → includes (numbers row) n ≡ true → field_numbered all n ≡ Some
        (own_kind row n))
        → has_shape row p ≡ true → PartFits table p (kind_of row p) → part_levels p ≤ 100 → list_all encodable
        (row_records row p (part_values table p (kind_of row p))) ≡ true
        → map (record_field table all) (row_records row p (part_values table p (kind_of row p))) ≡ row_fields row p
    unfolding part_values PartFits levels
    row_back (Plain n k) Absent f i h l s = absurd cc
    row_back (Plain n k) (Elements ps) f i h l s = absurd cc
    row_back (Plain n k) (Member m p) f i h l s = absurd cc
    row_back (Plain n k) (Number m) f i h l s = plain_fields n k (Number m) (is_default (Number m)) (f n (own_number n))
        (single (Number m) k i h l) s
    row_back (Plain n k) (Bytes bytes) f i h l s = plain_fields n k (Bytes bytes) (is_default (Bytes bytes))
        (f n (own_number n)) (single (Bytes bytes) k i h l) s
    row_back (Plain n k) (Nested ps) f i h l s = plain_fields n k (Nested ps) false (f n (own_number n))
        (single (Nested ps) k i h l) s
    row_back (Optional n k) Absent f i h l s = refl
    row_back (Optional n k) (Elements ps) f i h l s = absurd cc
    row_back (Optional n k) (Member m p) f i h l s = absurd cc
    row_back (Optional n k) (Number m) f i h l s = one_field n k false (Number m) (f n (own_number n))
        (single (Number m) k i h l) s
    row_back (Optional n k) (Bytes bytes) f i h l s = one_field n k false (Bytes bytes) (f n (own_number n))
        (single (Bytes bytes) k i h l) s
    row_back (Optional n k) (Nested ps) f i h l s = one_field n k false (Nested ps) (f n (own_number n))
        (single (Nested ps) k i h l) s
    row_back (Repeated n k) (Elements ps) f i h l s = list_fields n k ps (accepts_number k) refl (f n (own_number n)) h
        l s
    row_back (Repeated n k) p f i h l s = absurd cc
    row_back (OneOf members) Absent f i h l s = refl
    row_back (OneOf members) (Member m p) f i h l s =
        let e = and_split _ _ i in
        one_field m (member_kind members m) false p (f m e.0) (single p (member_kind members m) e.1 h l) s
    row_back (OneOf members) p f i h l s = absurd cc

    map_append : (xs ys : List FieldRecord) → map (record_field table all) (xs ++ ys) ≡ map (record_field table all) xs
        ++ map
        (record_field table all) ys
    map_append [] ys = refl
    map_append (x ∷ xs) ys = ap (λ (fs : List FieldPart). record_field table all x ∷ fs) (map_append xs ys)

    pub fields_by_value : (v : Parts) (rows : List Row) → AreLeft all rows → Fits table v rows → levels v ≤ 100
        → list_all
        encodable (message_records table v rows) ≡ true
        → map (record_field table all) (message_records table v rows) ≡ message_fields rows v
    unfolding part_values PartFits levels
    fields_by_value nil [] a h l s = refl
    fields_by_value nil (row ∷ rows) a h l s = absurd h
    fields_by_value (cons p ps) [] a h l s = absurd h
    fields_by_value (cons p ps) (row ∷ rows) a h l s =
        let low_row : part_levels p ≤ 100 = omega arith in
        let low_rest : levels ps ≤ 100 = omega arith in
        let own = row_records row p (part_values table p (kind_of row p)) in
        let e = and_split _ _ (sym (list_all-append encodable own (message_records table ps rows)) ∙ s) in
        map_append own (message_records table ps rows)
        ∙ ap (λ (fs : List FieldPart). fs ++ map (record_field table all) (message_records table ps rows))
        (row_back row p (finds_own all row rows a) h.0 h.1 low_row e.0)
        ∙ ap (λ (fs : List FieldPart). row_fields row p ++ fs)
        (fields_by_value ps rows (later_left all row rows a) h.2 low_rest e.1)
