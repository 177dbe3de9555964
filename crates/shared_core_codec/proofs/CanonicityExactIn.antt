-- The canonical payload of a value passes the check of canonical payloads, for any table of schemas.
use Rattle.std.proofs.Common.{◌≡◌, ℕ, zero, suc, ◌+◌, ◌-◌, ◌^◌, ◌<◌, ◌≤◌, List, [], ◌∷◌, ◌++◌, map, length, Bool, true}
use Rattle.std.proofs.Common.{false, cond, not, ◌||◌, Some, None, refl, sym, ap, ◌∙◌, length-append, arith, eqb, eq-eqb}
use Rattle.std.proofs.Common.{ltb}
use Rattle.std.proofs.lemmas.Bool.{ne_eqb, lt-ltb, le-ltb, ltb-true, ltb-false}
use Rattle.std.proofs.lemmas.List.Folds.{list_all-append}
use Rattle.std.proofs.Math.Bool.{or-true}
use Rattle.std.specs.Prelude.{flat_map}
use Rattle.std.specs.List.{list_all}
use Rattle.std.specs.Option.{option_or}
use Rattle.shared_core_wire.specs.Grammar.{RecordValue, Varint, Length, FieldRecord, IsSequence}
use Rattle.shared_core_wire.specs.Reader.{sequence_past, record_list}
use Rattle.shared_core_wire.specs.Encoding.{shortest_varint, record_bytes, record_list_bytes}
use Rattle.shared_core_wire.specs.Schema.{Table, Kind, Row, U32, U64, Boolean, Enumeration, Text, ByteString, Message}
use Rattle.shared_core_wire.specs.Schema.{Plain}
use Rattle.shared_core_wire.specs.Schema.{Optional, Repeated, OneOf, numbers, includes, member_kind, are_distinct}
use Rattle.shared_core_wire.specs.Schema.{all_numbers}
use Rattle.shared_core_wire.specs.Value.{Part, Parts, Absent, Number, Bytes, Nested, Elements, Member, nil, cons}
use Rattle.shared_core_wire.specs.Canonical.{written_number, is_default, number_bytes, packed_values, kind_of}
use Rattle.shared_core_wire.specs.Canonical.{row_records, part_values}
use Rattle.shared_core_wire.specs.Canonical.{element_values, message_records, canonical_payload, part_levels, levels}
use Rattle.shared_core_wire.specs.Fitting.{is_single, has_shape, NumberFits, BytesFit, PartFits, ElementsFit, Fits}
use Rattle.shared_core_wire.specs.Acceptance.{NestedAcceptance, some_passes, accepts_number, accepts_message}
use Rattle.shared_core_wire.specs.Overlay.{message_overlay, meaning}
use Rattle.shared_core_wire.proofs.Shortest.{shortest_is}
use Rattle.shared_core_wire.proofs.Readers.{varint_pos}
use Rattle.shared_core_wire.proofs.Runs.{and_split, and_join}
use Rattle.shared_core_wire.proofs.Numbers.{number_small, no_bytes, no_message}
use Rattle.shared_core_wire.proofs.ReadBack.{or_split, includes-append, distinct_back, distinct_other}
use Rattle.shared_core_wire.proofs.ReadBack.{level_back}
use Rattle.shared_core_wire.proofs.ReadBackLevels.{canonical_back}
use Rattle.shared_core_wire.proofs.RecordLists.{records_empty, records_append}
use Rattle.shared_core_wire.proofs.EncodingLaws.{encodable, encodable_value, record_encoded}
use Rattle.shared_core_wire.proofs.Sequences.{all_again}
use Rattle.shared_core_codec.specs.ProgramRows.{field_in_row, member_numbered}
use Rattle.shared_core_codec.specs.RowEncoding.{unpacked}
use Rattle.shared_core_codec.specs.Canonicity.{IsCanonicalIn, is_written_number, is_written_value, is_written_run}
use Rattle.shared_core_codec.specs.Canonicity.{written_varint_at}
use Rattle.shared_core_codec.specs.Canonicity.{is_written_element, is_default_value, is_plain, is_written_field}
use Rattle.shared_core_codec.specs.Canonicity.{may_recur, rows_after, written_size, coming_after, all_come}
use Rattle.shared_core_codec.specs.Canonicity.{is_canonical_message_in, is_canonical_payload_in}
use Rattle.shared_core_codec.specs.Tables.{IsTable, is_message, may_be_empty}
use Rattle.shared_core_codec.proofs.CanonicityIn.{total_size, schemas, rows_may_be_empty, IsWritten, reader_written}

-- ---- the bytes of records

pub records_encoded : (left : ℕ) (rs : List FieldRecord) → list_all encodable rs ≡ true → record_list left
    (record_list_bytes rs) ≡ Some rs
records_encoded left [] h = records_empty left
records_encoded left (r ∷ rs) h =
    let e = and_split _ _ h in
    records_append left (record_bytes r) (record_list_bytes rs) (r ∷ []) rs (record_encoded left r e.0)
    (records_encoded left rs e.1)

size_is : (n : ℕ) (w : RecordValue) → encodable_value w ≡ true → written_size (record { number = n; value = w }) ≡
    length (record_bytes (record { number = n; value = w }))
size_is n (Varint m) h = refl
size_is n (Length b) h = refl
size_is n w h = absurd cc

total_is : (rs : List FieldRecord) → list_all encodable rs ≡ true → total_size rs ≡ length (record_list_bytes rs)
unfolding total_size
total_is [] h = refl
total_is (r ∷ rs) h =
    let e = and_split _ _ h in
    let one : written_size r ≡ length (record_bytes r) = size_is r.number r.value (and_split _ _ e.0).1 in
    omega (arith, one, total_is rs e.1, length-append (record_bytes r) (record_list_bytes rs))

module _ (table : Table) where
  module _ (nested : NestedAcceptance) (left : ℕ) (back : (t : ℕ) (ps : Parts) → Fits table ps (table t) → suc (levels
      ps)
      ≤ left → length (canonical_payload table t ps) < 2 ^ 64 → nested t (canonical_payload table t ps) ≡ true) where
    -- the one value of a single part
    record Written (k : Kind) (p : Part) : Type 0 where
      w : RecordValue
      is : part_values table p k ≡ w ∷ []
      passes : is_written_value nested k w ≡ true
      default : is_message k ≡ false → is_default_value w ≡ is_default p

    written_enum : (n : ℕ) → n < 2 ^ 32 → (b : Bool) → ltb n 2147483648 ≡ b → Written Enumeration (Number n)
    unfolding part_values
    written_enum n h true e = record {
      w = Varint n;
      is = rw e refl;
      passes = rw e refl;
      default = λ g. refl;
    }
    written_enum n h false e =
        let low = ltb-false n 2147483648 e in
        record {
          w = Varint (n + 18446744069414584320);
          is = rw e refl;
          passes = rw (
            le-ltb (n + 18446744069414584320) 2147483648 (omega arith),
            lt-ltb 18446744071562067967
                (n + 18446744069414584320) (omega (arith, low)),
          ) refl;
          default = λ g. ne_eqb _ _ (λ z. omega (arith, z)) ∙ sym (ne_eqb n 0 (λ z. omega (arith, low, z)));
        }

    written_number_of : (n : ℕ) (k : Kind) → NumberFits k n → Written k (Number n)
    unfolding part_values
    written_number_of n U32 h = record { w = Varint n; is = refl; passes = lt-ltb n 4294967296 h; default = λ g. refl }
    written_number_of n U64 h = record { w = Varint n; is = refl; passes = refl; default = λ g. refl }
    written_number_of n Boolean h = record { w = Varint n; is = refl; passes = lt-ltb n 2 h; default = λ g. refl }
    written_number_of n Enumeration h = written_enum n h (ltb n 2147483648) refl
    written_number_of n k h = absurd h

    written_bytes : (b : List ℕ) (k : Kind) → BytesFit k b → Written k (Bytes b)
    unfolding part_values
    written_bytes b Text h = record { w = Length b; is = refl; passes = h; default = λ g. refl }
    written_bytes b ByteString h = record { w = Length b; is = refl; passes = refl; default = λ g. refl }
    written_bytes b k h = absurd h

    written_nested : (ps : Parts) (k : Kind) → PartFits table (Nested ps) k → part_levels (Nested ps) ≤ left → list_all
        encodable_value (part_values table (Nested ps) k) ≡ true → Written k (Nested ps)
    unfolding PartFits part_values part_levels
    written_nested ps (Message s) h l c = record {
      w = Length (canonical_payload table s ps);
      is = refl;
      passes = back s ps h l (ltb-true (length (canonical_payload table s ps)) (2 ^ 64)
          (and_split (ltb (length (canonical_payload table s ps)) (2 ^ 64)) true c).0);
      default = λ g. absurd cc;
    }
    written_nested ps k h l c = absurd h

    written : (p : Part) (k : Kind) → is_single p ≡ true → PartFits table p k → part_levels p ≤ left → list_all
        encodable_value (part_values table p k) ≡ true → Written k p
    unfolding PartFits
    written Absent k i h l c = absurd cc
    written (Number n) k i h l c = written_number_of n k h
    written (Bytes b) k i h l c = written_bytes b k h
    written (Nested ps) k i h l c = written_nested ps k h l c
    written (Elements ps) k i h l c = absurd cc
    written (Member n p) k i h l c = absurd cc

    -- ---- rows that may still come

    come_on : (rows next : List Row) (room : ℕ) (r : FieldRecord) (rs : List FieldRecord) → rows_after nested rows r ≡
        Some next → written_size r ≤ room → all_come nested (next, room - written_size r) rs ≡ true
        → all_come nested (rows, room) (r ∷ rs) ≡ true
    come_on rows next room r rs e le h =
        let c : coming_after nested (rows, room) r ≡ Some (next, room - written_size r) = rw
        (e, le-ltb room (written_size r) le) refl in
        rw (c, all_come) h

    member_lacks : (members : List (ℕ × Kind)) (n : ℕ) → includes (numbers (OneOf members)) n ≡ false → member_numbered
        members n ≡ None
    member_lacks [] n h = refl
    member_lacks (m ∷ members) n h = let e = or_split (eqb n m.0) (includes (numbers (OneOf members)) n) h in rw e.0
        (member_lacks members n e.1)

    row_lacks : (row : Row) (n : ℕ) → includes (numbers row) n ≡ false → field_in_row row n ≡ None
    row_lacks (Plain m k) n h = rw (or_split (eqb n m) false h).0 refl
    row_lacks (Optional m k) n h = rw (or_split (eqb n m) false h).0 refl
    row_lacks (Repeated m k) n h = rw (or_split (eqb n m) false h).0 refl
    row_lacks (OneOf members) n h = member_lacks members n h

    not_included : (b : Bool) → not b ≡ true → b ≡ false
    not_included true h = absurd cc
    not_included false h = refl

    -- a row of which nothing comes
    pass_row : (row : Row) (rows : List Row) (room : ℕ) (rs : List FieldRecord) → list_all
        (λ (r : FieldRecord). not (includes (numbers row) r.number)) rs ≡ true → all_come nested (rows, room) rs ≡ true
        →
        all_come nested (row ∷ rows, room) rs ≡ true
    pass_row row rows room [] a h = h
    pass_row row rows room (r ∷ rs) a h =
        let f = row_lacks row r.number (not_included _ (and_split _ _ a).0) in
        let same : coming_after nested (row ∷ rows, room) r ≡ coming_after nested (rows, room) r = rw f refl in
        rw (same, all_come) h

    -- a record of the first row
    own_row : (row : Row) (rows : List Row) (r : FieldRecord) (f : Kind × Bool) → field_in_row row r.number ≡ Some f →
        is_written_field nested (is_plain row) f r.value ≡ true
        → rows_after nested (row ∷ rows) r ≡ Some (cond (may_recur f) (row ∷ rows) rows)
    own_row row rows r f i g = rw (i, g) refl

    with_number : ℕ → RecordValue → FieldRecord
    with_number n w = record { number = n; value = w }

    one_more : (n : ℕ) (w : RecordValue) (row : Row) (rows : List Row) (f : Kind × Bool) (room rest : ℕ)
        (rs : List FieldRecord) → field_in_row row n ≡ Some f → is_written_field nested (is_plain row) f w ≡ true
        → room ≡ written_size (with_number n w) + rest → all_come nested (cond (may_recur f) (row ∷ rows) rows, rest) rs
        ≡
        true → all_come nested (row ∷ rows, room) (with_number n w ∷ rs) ≡ true
    unfolding with_number
    one_more n w row rows f room rest rs i g z h =
        let less : room - written_size (record { number = n; value = w }) ≡ rest = omega (arith, z) in
        come_on (row ∷ rows) (cond (may_recur f) (row ∷ rows) rows) room (record { number = n; value = w }) rs
        (own_row row rows (record { number = n; value = w }) f i g) (omega (arith, z))
        (ap (λ (m : ℕ). all_come nested (cond (may_recur f) (row ∷ rows) rows, m) rs) less ∙ h)

    field_is : (n : ℕ) (f : Kind × Bool) → cond (eqb n n) (Some f) None ≡ Some f
    field_is n f = rw (eq-eqb n n refl) refl

    member_is : (members : List (ℕ × Kind)) (n : ℕ) → includes (numbers (OneOf members)) n ≡ true → member_numbered
        members n ≡ Some (member_kind members n, false)
    member_is [] n h = absurd cc
    member_is (m ∷ members) n h = by_test (eqb n m.0) (member_is members n) h
      where
        by_test : (b : Bool) → (includes (numbers (OneOf members)) n ≡ true → member_numbered members n ≡ Some
            (member_kind members n, false)) → (b || includes (numbers (OneOf members)) n) ≡ true
            → option_or (cond b (Some (m.1, false)) None) (member_numbered members n) ≡ Some
            (cond b m.1 (member_kind members n), false)
        by_test true later g = refl
        by_test false later g = later g

    total-append : (xs ys : List FieldRecord) → total_size (xs ++ ys) ≡ total_size xs + total_size ys
    unfolding total_size
    total-append [] ys = omega arith
    total-append (x ∷ xs) ys = omega (arith, total-append xs ys)

    values_encode : (n : ℕ) (ws : List RecordValue) → list_all encodable (map (λ w. record { number = n; value = w })
        ws)
        ≡ true → list_all encodable_value ws ≡ true
    values_encode n [] h = refl
    values_encode n (w ∷ ws) h = let e = and_split _ _ h in and_join _ _ (and_split _ _ e.0).1 (values_encode n ws e.1)

    -- what comes of one row
    abbrev RowComes : Row → Part → Type 0
    RowComes row p = (rows : List Row) (room rest : ℕ) (rs : List FieldRecord) → list_all
        (λ (r : FieldRecord). not (includes (numbers row) r.number)) rs ≡ true
        → all_come nested (rows, rest) rs ≡ true → room ≡ total_size
        (row_records row p (part_values table p (kind_of row p))) + rest
        → all_come nested (row ∷ rows, room) (row_records row p (part_values table p (kind_of row p)) ++ rs) ≡ true

    nothing_comes : (row : Row) (p : Part) → row_records row p (part_values table p (kind_of row p)) ≡ [] → RowComes row
        p
    unfolding total_size
    nothing_comes row p e rows room rest rs a h z =
        let none : total_size (row_records row p (part_values table p (kind_of row p))) ≡ 0 = ap total_size e in
        let same : rest ≡ room = omega (arith, z, none) in
        rw e (pass_row row rows room rs a (ap (λ (m : ℕ). all_come nested (rows, m) rs) (sym same) ∙ h))

    one_comes : (row : Row) (p : Part) (n : ℕ) (w : RecordValue) (k : Kind) (b : Bool) → row_records row p
        (part_values table p (kind_of row p)) ≡ with_number n w ∷ [] → field_in_row row n ≡ Some (k, b)
        → is_written_field nested (is_plain row) (k, b) w ≡ true → may_recur (k, b) ≡ false → RowComes row p
    unfolding total_size
    one_comes row p n w k b e i g m rows room rest rs a h z =
        let size : total_size (row_records row p (part_values table p (kind_of row p))) ≡ written_size (with_number n w)
        +
        0 = ap total_size e in
        rw e (one_more n w row rows (k, b) room rest rs i g (omega (arith, z, size))
        (ap (λ (t : Bool). all_come nested (cond t (row ∷ rows) rows, rest) rs) m ∙ h))

    elements_come : (n : ℕ) (k : Kind) (rows : List Row) (ws : List RecordValue) (room rest : ℕ) (rs : List FieldRecord)
        →
        unpacked k ≡ true → list_all (is_written_element nested k) ws ≡ true
        → list_all (λ (r : FieldRecord). not (includes (numbers (Repeated n k)) r.number)) rs ≡ true → all_come nested
        (rows, rest) rs ≡ true → room ≡ total_size (map (λ w. record { number = n; value = w }) ws) + rest
        → all_come nested (Repeated n k ∷ rows, room) (map (λ w. record { number = n; value = w }) ws ++ rs) ≡ true
    unfolding total_size with_number
    elements_come n k rows [] room rest rs u c a h z =
        let same : rest ≡ room = omega (arith, z) in
        pass_row (Repeated n k) rows room rs a (ap (λ (m : ℕ). all_come nested (rows, m) rs) (sym same) ∙ h)
    elements_come n k rows (w ∷ ws) room rest rs u c a h z =
        let e = and_split _ _ c in
        let later = elements_come n k rows ws (total_size (map (λ w. record { number = n; value = w }) ws) + rest) rest
        rs
        u e.1 a h refl in
        one_more n w (Repeated n k) rows (k, true) room (total_size (map (λ w. record { number = n; value = w }) ws) +
        rest) (map (λ w. record { number = n; value = w }) ws ++ rs) (field_is n (k, true)) e.0 (omega (arith, z))
        (ap (λ (t : Bool). all_come nested (
          cond t (Repeated n k ∷ rows) rows,
          total_size
              (map (λ w. record { number = n; value = w }) ws) + rest,
        )
        (map (λ w. record { number = n; value = w }) ws ++ rs)) u ∙ later)

    as_element : (k : Kind) (w : RecordValue) → unpacked k ≡ true → is_written_value nested k w ≡ true →
        is_written_element nested k w ≡ true
    as_element k w u h = rw (not_included _ u) h

    elements_written : (ps : Parts) (k : Kind) → unpacked k ≡ true → ElementsFit table ps k → levels ps ≤ left →
        list_all
        encodable_value (element_values table ps k) ≡ true → list_all (is_written_element nested k)
        (element_values table ps k) ≡ true
    unfolding PartFits part_values levels
    elements_written nil k u h l c = refl
    elements_written (cons p ps) k u h l c =
        let both = and_split _ _ (sym (list_all-append encodable_value (part_values table p k)
        (element_values table ps k)) ∙ c) in
        let x = written p k h.0 h.1 (omega (arith, l)) both.0 in
        list_all-append (is_written_element nested k) (part_values table p k) (element_values table ps k)
        ∙ and_join _ _ (rw x.is (and_join _ _ (as_element k x.w u x.passes) refl))
        (elements_written ps k u h.2 (omega (arith, l)) both.1)

    -- ---- packed runs

    written_as_such : (n : ℕ) (k : Kind) → NumberFits k n → is_written_number k (written_number k n) ≡ true
    unfolding part_values
    written_as_such n k h =
        let x = written_number_of n k h in
        let same : Varint (written_number k n) ≡ x.w = cc x.is in
        ap (is_written_value nested k) same ∙ x.passes

    record Packed (k : Kind) (ps : Parts) : Type 0 where
      ns : List ℕ
      encodes : IsSequence (IsWritten k) (flat_map number_bytes (element_values table ps k)) ns

    packed : (k : Kind) (ps : Parts) → accepts_number k ≡ true → ElementsFit table ps k → Packed k ps
    unfolding PartFits part_values
    packed k nil a h = record { ns = []; encodes = refl }
    packed k (cons Absent ps) a h = absurd (cc h.0)
    packed k (cons (Number n) ps) a h =
        let xs = packed k ps a h.2 in
        record {
          ns = written_number k n ∷ xs.ns;
          encodes = (
            shortest_varint (written_number k n),
            flat_map number_bytes (element_values table ps k),
            refl,
            record {
              is = shortest_is (written_number k n) (number_small k n h.1);
              tight = omega arith;
              written = written_as_such n k h.1;
            },
            xs.encodes,
          );
        }
    packed k (cons (Bytes b) ps) a h = absurd (no_bytes k b a h.1)
    packed k (cons (Nested qs) ps) a h = absurd (no_message table k qs a h.1)
    packed k (cons (Elements qs) ps) a h = absurd (cc h.0)
    packed k (cons (Member m p) ps) a h = absurd (cc h.0)

    run_written : (n : ℕ) (k : Kind) (ps : Parts) → accepts_number k ≡ true → ElementsFit table (cons (Number n) ps) k →
        is_written_run k (flat_map number_bytes (element_values table (cons (Number n) ps) k)) ≡ true
    unfolding PartFits part_values
    run_written n k ps a h =
        let xs = packed k (cons (Number n) ps) a h in
        let run = flat_map number_bytes (element_values table (cons (Number n) ps) k) in
        let some = varint_pos (shortest_varint (written_number k n)) (written_number k n)
        (shortest_is (written_number k n) (number_small k n h.1)) in
        let long : length run ≡ length (shortest_varint (written_number k n)) + length
        (flat_map number_bytes (element_values table ps k)) = length-append (shortest_varint (written_number k n))
        (flat_map number_bytes (element_values table ps k)) in
        let full : eqb (length run) 0 ≡ false = ne_eqb _ _ (λ z. omega (arith, z, long, some)) in
        let read : sequence_past (written_varint_at k) 0 run ≡ Some xs.ns = all_again (IsWritten k)
        (written_varint_at k) (reader_written k) xs.ns run xs.encodes in
        rw (full, read) refl

    -- ---- rows

    as_they_are : (k : Kind) (ws : List RecordValue) → unpacked k ≡ true → packed_values k ws ≡ ws
    as_they_are k ws h = rw (not_included _ h) refl

    plain_comes : (n : ℕ) (k : Kind) (p : Part) → is_message k ≡ false → is_single p ≡ true → PartFits table p k →
        part_levels p ≤ left → list_all encodable (row_records (Plain n k) p (part_values table p k)) ≡ true
        → (b : Bool) → is_default p ≡ b → RowComes (Plain n k) p
    unfolding with_number
    plain_comes n k p m i f l c true d = nothing_comes (Plain n k) p (rw d refl)
    plain_comes n k p m i f l c false d =
        let x = written p k i f l (values_encode n (part_values table p k)
        (sym (ap (λ (b : Bool). list_all encodable (map (λ w. record { number = n; value = w })
        (cond b [] (part_values table p k)))) d) ∙ c)) in
        one_comes (Plain n k) p n x.w k false (ap (λ (b : Bool). map (λ w. record { number = n; value = w })
        (cond b [] (part_values table p k))) d ∙ ap (map (λ w. record { number = n; value = w })) x.is)
        (field_is n (k, false)) (and_join _ _ x.passes (rw (x.default m ∙ d) refl)) refl

    optional_comes : (n : ℕ) (k : Kind) (p : Part) → is_single p ≡ true → PartFits table p k → part_levels p ≤ left →
        list_all encodable (row_records (Optional n k) p (part_values table p k)) ≡ true → RowComes (Optional n k) p
    unfolding with_number
    optional_comes n k p i f l c =
        let x = written p k i f l (values_encode n (part_values table p k) c) in
        one_comes (Optional n k) p n x.w k false (ap (map (λ w. record { number = n; value = w })) x.is)
        (field_is n (k, false)) (and_join _ _ x.passes refl) refl

    member_comes : (members : List (ℕ × Kind)) (n : ℕ) (p : Part) → includes (numbers (OneOf members)) n ≡ true →
        is_single p ≡ true → PartFits table p (member_kind members n) → part_levels p ≤ left
        → list_all encodable (map (λ w. record { number = n; value = w }) (part_values table p (member_kind members n)))
        ≡
        true → RowComes (OneOf members) (Member n p)
    unfolding with_number part_values
    member_comes members n p h i f l c =
        let x = written p (member_kind members n) i f l (values_encode n (part_values table p (member_kind members n))
        c)
        in
        one_comes (OneOf members) (Member n p) n x.w (member_kind members n) false
        (ap (map (λ w. record { number = n; value = w })) x.is) (member_is members n h) (and_join _ _ x.passes refl)
        refl

    run_comes : (n m : ℕ) (k : Kind) (ps : Parts) → accepts_number k ≡ true → ElementsFit table (cons (Number m) ps) k →
        RowComes (Repeated n k) (Elements (cons (Number m) ps))
    unfolding with_number part_values
    run_comes n m k ps a f =
        one_comes (Repeated n k) (Elements (cons (Number m) ps)) n
        (Length (flat_map number_bytes (element_values table (cons (Number m) ps) k))) k true (rw a refl)
        (field_is n (k, true)) (rw a (run_written m k ps a f)) (rw a refl)

    list_comes : (n : ℕ) (k : Kind) (ps : Parts) → unpacked k ≡ true → ElementsFit table ps k → levels ps ≤ left →
        list_all encodable (row_records (Repeated n k) (Elements ps) (element_values table ps k)) ≡ true → RowComes
        (Repeated n k) (Elements ps)
    unfolding part_values
    list_comes n k ps u f l c rows room rest rs a h z =
        let same = as_they_are k (element_values table ps k) u in
        let plainly : list_all encodable (map (λ w. record { number = n; value = w }) (element_values table ps k)) ≡
        true
        = ap (λ (ws : List RecordValue). list_all encodable (map (λ w. record { number = n; value = w }) ws))
        (sym same) ∙ c in
        ap (λ (ws : List RecordValue). all_come nested (Repeated n k ∷ rows, room)
        (map (λ w. record { number = n; value = w }) ws ++ rs)) same
        ∙ elements_come n k rows (element_values table ps k) room rest rs u
        (elements_written ps k u f l (values_encode n (element_values table ps k) plainly)) a h
        (z ∙ ap (λ (ws : List RecordValue). total_size (map (λ w. record { number = n; value = w }) ws) + rest) same)

    elements_or_run : (n : ℕ) (k : Kind) (ps : Parts) (b : Bool) → accepts_number k ≡ b → ElementsFit table ps k →
        levels
        ps ≤ left → list_all encodable (row_records (Repeated n k) (Elements ps) (element_values table ps k)) ≡ true →
        RowComes (Repeated n k) (Elements ps)
    unfolding PartFits part_values levels
    elements_or_run n k nil true a f l c = nothing_comes (Repeated n k) (Elements nil) (rw a refl)
    elements_or_run n k (cons (Number v) ps) true a f l c = run_comes n v k ps a f
    elements_or_run n k (cons Absent ps) true a f l c = absurd (cc f.0)
    elements_or_run n k (cons (Bytes b) ps) true a f l c = absurd (no_bytes k b a f.1)
    elements_or_run n k (cons (Nested qs) ps) true a f l c = absurd (no_message table k qs a f.1)
    elements_or_run n k (cons (Elements qs) ps) true a f l c = absurd (cc f.0)
    elements_or_run n k (cons (Member v q) ps) true a f l c = absurd (cc f.0)
    elements_or_run n k ps false a f l c = list_comes n k ps (ap not a) f l c

    row_comes : (row : Row) (p : Part) → may_be_empty row ≡ true → has_shape row p ≡ true → PartFits table p
        (kind_of row p) → part_levels p ≤ left → list_all encodable
        (row_records row p (part_values table p (kind_of row p))) ≡ true → RowComes row p
    unfolding PartFits part_values part_levels
    row_comes (Plain n k) p m i f l c = plain_comes n k p (not_included _ m) i f l c (is_default p) refl
    row_comes (Optional n k) Absent m i f l c = nothing_comes (Optional n k) Absent refl
    row_comes (Optional n k) p m i f l c = optional_comes n k p i f l c
    row_comes (Repeated n k) (Elements ps) m i f l c = elements_or_run n k ps (accepts_number k) refl f l c
    row_comes (Repeated n k) p m i f l c = absurd cc
    row_comes (OneOf members) Absent m i f l c = nothing_comes (OneOf members) Absent refl
    row_comes (OneOf members) (Member n p) m i f l c = let e = and_split _ _ i in member_comes members n p e.0 e.1 f l c
    row_comes (OneOf members) p m i f l c = absurd cc

    -- ---- numbers

    mine_with : (n : ℕ) (ns : List ℕ) (ws : List RecordValue) → includes ns n ≡ true → list_all
        (λ (r : FieldRecord). includes ns r.number) (map (λ w. record { number = n; value = w }) ws) ≡ true
    mine_with n ns [] h = refl
    mine_with n ns (w ∷ ws) h = and_join _ _ h (mine_with n ns ws h)

    own_number : (n : ℕ) → includes (n ∷ []) n ≡ true
    own_number n = rw (eq-eqb n n refl) refl

    mine : (row : Row) (p : Part) → has_shape row p ≡ true → list_all
        (λ (r : FieldRecord). includes (numbers row) r.number) (row_records row p (part_values table p (kind_of row p)))
        ≡
        true
    unfolding part_values
    mine (Plain n k) p i = by_default (is_default p)
      where
        by_default : (b : Bool) → list_all (λ (r : FieldRecord). includes (n ∷ []) r.number)
            (map (λ w. record { number = n; value = w }) (cond b [] (part_values table p k))) ≡ true
        by_default true = refl
        by_default false = mine_with n (n ∷ []) (part_values table p k) (own_number n)
    mine (Optional n k) p i = mine_with n (n ∷ []) (part_values table p k) (own_number n)
    mine (Repeated n k) p i = mine_with n (n ∷ []) (packed_values k (part_values table p k)) (own_number n)
    mine (OneOf members) Absent i = refl
    mine (OneOf members) (Member n p) i = mine_with n (numbers (OneOf members))
        (part_values table p (member_kind members n)) (and_split _ _ i).0
    mine (OneOf members) p i = absurd cc

    front_numbers : (xs ys : List ℕ) (rs : List FieldRecord) → list_all (λ (r : FieldRecord). includes xs r.number) rs ≡
        true → list_all (λ (r : FieldRecord). includes (xs ++ ys) r.number) rs ≡ true
    front_numbers xs ys [] h = refl
    front_numbers xs ys (r ∷ rs) h = let e = and_split _ _ h in and_join _ _
        (includes-append xs ys r.number ∙ ap (λ b. b || includes ys r.number) e.0) (front_numbers xs ys rs e.1)

    back_numbers : (xs ys : List ℕ) (rs : List FieldRecord) → list_all (λ (r : FieldRecord). includes ys r.number) rs ≡
        true → list_all (λ (r : FieldRecord). includes (xs ++ ys) r.number) rs ≡ true
    back_numbers xs ys [] h = refl
    back_numbers xs ys (r ∷ rs) h = let e = and_split _ _ h in and_join _ _
        (includes-append xs ys r.number ∙ ap (λ b. includes xs r.number || b) e.0 ∙ or-true (includes xs r.number))
        (back_numbers xs ys rs e.1)

    numbers_of : (v : Parts) (rows : List Row) → Fits table v rows → list_all
        (λ (r : FieldRecord). includes (all_numbers rows) r.number) (message_records table v rows) ≡ true
    unfolding PartFits part_values
    numbers_of nil [] h = refl
    numbers_of nil (row ∷ rows) h = absurd h
    numbers_of (cons p ps) [] h = absurd h
    numbers_of (cons p ps) (row ∷ rows) h =
        list_all-append (λ (r : FieldRecord). includes (all_numbers (row ∷ rows)) r.number)
        (row_records row p (part_values table p (kind_of row p))) (message_records table ps rows)
        ∙ and_join _ _ (front_numbers (numbers row) (all_numbers rows)
        (row_records row p (part_values table p (kind_of row p))) (mine row p h.0))
        (back_numbers (numbers row) (all_numbers rows) (message_records table ps rows) (numbers_of ps rows h.2))

    apart_numbers : (xs ys : List ℕ) (rs : List FieldRecord) → are_distinct (xs ++ ys) ≡ true → list_all
        (λ (r : FieldRecord). includes ys r.number) rs ≡ true → list_all (λ (r : FieldRecord). not (includes xs
        r.number))
        rs ≡ true
    apart_numbers xs ys [] d h = refl
    apart_numbers xs ys (r ∷ rs) d h = let e = and_split _ _ h in and_join _ _ (by_test (includes xs r.number) refl e.0)
        (apart_numbers xs ys rs d e.1)
      where
        by_test : (b : Bool) → includes xs r.number ≡ b → includes ys r.number ≡ true → not b ≡ true
        by_test true f g = absurd (let q : includes ys r.number ≡ false = distinct_other xs ys r.number d f in cc)
        by_test false f g = refl

    -- ---- the whole list

    pub value_comes : (v : Parts) (rows : List Row) → are_distinct (all_numbers rows) ≡ true → list_all may_be_empty
        rows
        ≡ true → Fits table v rows → levels v ≤ left → list_all encodable (message_records table v rows) ≡ true
        → all_come nested (rows, total_size (message_records table v rows)) (message_records table v rows) ≡ true
    unfolding PartFits part_values levels total_size
    value_comes nil [] d m h l c = refl
    value_comes nil (row ∷ rows) d m h l c = absurd h
    value_comes (cons p ps) [] d m h l c = absurd h
    value_comes (cons p ps) (row ∷ rows) d m h l c =
        let own = row_records row p (part_values table p (kind_of row p)) in
        let rest = message_records table ps rows in
        let e = and_split _ _ (sym (list_all-append encodable own rest) ∙ c) in
        let n = and_split _ _ m in
        let later = value_comes ps rows (distinct_back (numbers row) (all_numbers rows) d) n.1 h.2 (omega (arith, l))
        e.1
        in
        row_comes row p n.0 h.0 h.1 (omega (arith, l)) e.0 rows (total_size (own ++ rest)) (total_size rest) rest
        (apart_numbers (numbers row) (all_numbers rows) rest d (numbers_of ps rows h.2)) later (total-append own rest)

  -- ---- at any nesting depth

  module _ (valid : IsTable table) where
    pub records_encode : (left s : ℕ) (v : Parts) → Fits table v (table s) → levels v ≤ left → length
        (canonical_payload table s v) < 2 ^ 64 → list_all encodable (message_records table v (table s)) ≡ true
    unfolding accepts_message message_overlay
    records_encode zero s v h l z =
        (level_back table (message_overlay table zero) (accepts_message table zero) zero
        (λ t ps f k c. absurd (omega arith)) v (table s) (schemas table valid s) h l z).encodes
    records_encode (suc left) s v h l z =
        (level_back table (message_overlay table (suc left)) (accepts_message table (suc left)) (suc left)
        (λ t ps f k c. canonical_back table (schemas table valid) left t ps f (omega arith) (ltb-true _ _ c)) v (table
        s)
        (schemas table valid s) h l z).encodes

    level_comes : (left s : ℕ) (v : Parts) → Fits table v (table s) → levels v ≤ left → length (canonical_payload table
        s v)
        < 2 ^ 64
        → ((t : ℕ) (ps : Parts) → Fits table ps (table t) → suc (levels ps) ≤ left → length (canonical_payload table t
        ps) <
        2 ^ 64 → is_canonical_message_in table left t (canonical_payload table t ps) ≡ true)
        → is_canonical_payload_in table left s (canonical_payload table s v) ≡ true
    level_comes left s v h l z back =
        let c = records_encode left s v h l z in
        let rs = message_records table v (table s) in
        let read = records_encoded 0 rs c in
        let size : length (record_list_bytes rs) ≡ total_size rs = sym (total_is rs c) in
        ap (some_passes (all_come (is_canonical_message_in table left) (table s, length (record_list_bytes rs)))) read
        ∙ ap (λ (n : ℕ). all_come (is_canonical_message_in table left) (table s, n) rs) size
        ∙ value_comes (is_canonical_message_in table left) left back v (table s) (and_split _ _ (schemas table valid
        s)).1
        (rows_may_be_empty table valid s) h l c

    pub canonical_comes : (left s : ℕ) (v : Parts) → Fits table v (table s) → levels v ≤ left → length
        (canonical_payload table s v) < 2 ^ 64 → is_canonical_payload_in table left s (canonical_payload table s v) ≡
        true
    unfolding is_canonical_message_in
    canonical_comes zero s v h l z = level_comes zero s v h l z (λ t ps f k c. absurd (omega arith))
    canonical_comes (suc left) s v h l z = level_comes (suc left) s v h l z
        (λ t ps f k c. canonical_comes left t ps f (omega arith) c)

    pub complete : (s : ℕ) (bytes : List ℕ) → IsCanonicalIn table s bytes → is_canonical_payload_in table 100 s bytes ≡
        true
    complete s bytes h =
        ap (is_canonical_payload_in table 100 s) h.canonical ∙ canonical_comes 100 s (meaning table 100 s bytes) h.fits
        h.low
        (let e : length bytes ≡ length (canonical_payload table s (meaning table 100 s bytes)) = ap length h.canonical
        in
        omega (arith, e, h.short))
