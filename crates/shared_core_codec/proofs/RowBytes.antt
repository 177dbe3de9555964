-- The bytes of a row, and of the rows one after the other.
use Rattle.std.proofs.Common.{◌≡◌, ℕ, ◌<◌, List, [], ◌∷◌, ◌++◌, map, length, append_assoc, append-nil, length-append}
use Rattle.std.proofs.Common.{refl, ap, sym, ◌∙◌, arith, true, false, Bool}
use Rattle.std.specs.Prelude.{flat_map, if◌then◌else◌}
use Rattle.std.proofs.lemmas.List.Concat.{flat_map-append}
use Rattle.std.proofs.lemmas.List.{map-append}
use Rattle.shared_core_codec.specs.FieldParts.{parts_of}
use Rattle.shared_core_codec.specs.RowEncoding.{length_record, row_bytes, unpacked, value_bytes, varint_record}
use Rattle.shared_core_codec.specs.RowEncoding.{varints_of, before_row, before_rows, row_size, rows_size}
use Rattle.shared_core_codec.specs.Table.{table}
use Rattle.shared_core_wire.specs.Canonical.{canonical_payload, element_values, is_default, kind_of, message_records}
use Rattle.shared_core_wire.specs.Canonical.{number_bytes, part_values, row_records, written_number}
use Rattle.shared_core_wire.specs.Schema.{Kind, Message, OneOf, Optional, Plain}
use Rattle.shared_core_wire.specs.Schema.{Repeated, Row, U32, member_kind}
use Rattle.shared_core_wire.specs.Encoding.{record_bytes, record_list_bytes, shortest_varint}
use Rattle.shared_core_wire.proofs.ReadBack.{not_true}
use Rattle.shared_core_wire.specs.Value.{Absent, Bytes, Elements, Member, Nested, Number, Part, Parts, cons, nil}

-- ---- a row's bytes

pub option_bytes : (n : ℕ) (k : Kind) (p : Part) → row_bytes (Optional n k) p ≡ value_bytes n k p
unfolding row_bytes value_bytes part_values
option_bytes n k p = refl

pub member_bytes : (n : ℕ) (ms : List (ℕ × Kind)) (p : Part) → row_bytes (OneOf ms) (Member n p) ≡ value_bytes n
    (member_kind ms n) p
unfolding row_bytes value_bytes part_values
member_bytes n ms p = refl

pub absent_bytes : (n : ℕ) (k : Kind) → row_bytes (Optional n k) Absent ≡ []
unfolding row_bytes part_values
absent_bytes n k = refl

pub no_member : (ms : List (ℕ × Kind)) → row_bytes (OneOf ms) Absent ≡ []
unfolding row_bytes part_values
no_member ms = refl

pub number_value_bytes : (at : ℕ) (k : Kind) (n : ℕ) → value_bytes at k (Number n) ≡ varint_record at
    (written_number k n)
unfolding value_bytes part_values
number_value_bytes at k n = append-nil _

pub bytes_value_bytes : (at : ℕ) (k : Kind) (b : List ℕ) → value_bytes at k (Bytes b) ≡ length_record at b
unfolding value_bytes part_values
bytes_value_bytes at k b = append-nil _

pub message_bytes : (at s : ℕ) (ps : Parts) → value_bytes at (Message s) (Nested ps) ≡ length_record at
    (canonical_payload table s ps)
unfolding value_bytes part_values
message_bytes at s ps = append-nil _

plain_bytes : (at : ℕ) (k : Kind) (p : Part) (b : Bool) → is_default p ≡ b → row_bytes (Plain at k) p ≡
    record_list_bytes (map (λ w. record { number = at; value = w }) (if b then [] else part_values table p k))
unfolding row_bytes
plain_bytes at k p b e = ap (λ (t : Bool). record_list_bytes
    (map (λ w. record { number = at; value = w }) (if t then [] else part_values table p k))) e

pub plain_default : (at : ℕ) (k : Kind) (p : Part) → is_default p ≡ true → row_bytes (Plain at k) p ≡ []
plain_default at k p e = plain_bytes at k p true e

pub plain_value : (at : ℕ) (k : Kind) (p : Part) → is_default p ≡ false → row_bytes (Plain at k) p ≡ value_bytes at k p
unfolding value_bytes
plain_value at k p e = plain_bytes at k p false e

-- ---- the elements of a repeated row

pub each_bytes : ℕ → Kind → Parts → List ℕ
each_bytes at k ps = record_list_bytes (map (λ w. record { number = at; value = w }) (element_values table ps k))

pub each_nil : (at : ℕ) (k : Kind) → each_bytes at k nil ≡ []
unfolding each_bytes element_values
each_nil at k = refl

pub each_cons : (at : ℕ) (k : Kind) (p : Part) (ps : Parts) → each_bytes at k (cons p ps) ≡ value_bytes at k p ++
    each_bytes at k ps
unfolding each_bytes value_bytes element_values
each_cons at k p ps = ap record_list_bytes (map-append (λ w. record { number = at; value = w }) (part_values table p k)
    (element_values table ps k)) ∙ flat_map-append record_bytes
    (map (λ w. record { number = at; value = w }) (part_values table p k))
    (map (λ w. record { number = at; value = w }) (element_values table ps k))

pub elements_bytes : (at : ℕ) (k : Kind) (ps : Parts) → unpacked k ≡ true → row_bytes (Repeated at k) (Elements ps) ≡
    each_bytes at k ps
unfolding row_bytes each_bytes part_values
elements_bytes at k ps h = rw (not_true _ h) refl

packed_values_bytes : (ns : List ℕ) → flat_map number_bytes (element_values table (parts_of Number ns) U32) ≡ varints_of
    ns
unfolding element_values varints_of
packed_values_bytes [] = refl
packed_values_bytes (n ∷ ns) = ap (λ (t : List ℕ). shortest_varint n ++ t) (packed_values_bytes ns)

pub no_packed : (at : ℕ) (ns : List ℕ) → length ns ≡ 0 → row_bytes (Repeated at U32) (Elements (parts_of Number ns)) ≡
    []
unfolding row_bytes part_values
no_packed at [] h = refl
no_packed at (n ∷ ns) h = absurd (omega (arith, h))

pub some_packed : (at : ℕ) (ns : List ℕ) → 0 < length ns → row_bytes (Repeated at U32) (Elements (parts_of Number ns)) ≡
    length_record at (varints_of ns)
unfolding row_bytes part_values
some_packed at [] h = absurd (omega arith)
some_packed at (n ∷ ns) h = append-nil _ ∙ ap (length_record at) (packed_values_bytes (n ∷ ns))

-- ---- row by row

pub before_row_is : (row : Row) (p : Part) (xs : List ℕ) → before_row row p xs ≡ row_bytes row p ++ xs
before_row_is (Plain n k) p xs = refl
before_row_is (Repeated n k) p xs = refl
before_row_is (Optional n k) Absent xs = rw (absent_bytes n k) refl
before_row_is (Optional n k) (Number m) xs = rw (option_bytes n k (Number m)) refl
before_row_is (Optional n k) (Bytes b) xs = rw (option_bytes n k (Bytes b)) refl
before_row_is (Optional n k) (Nested ps) xs = rw (option_bytes n k (Nested ps)) refl
before_row_is (Optional n k) (Elements ps) xs = rw (option_bytes n k (Elements ps)) refl
before_row_is (Optional n k) (Member m p) xs = rw (option_bytes n k (Member m p)) refl
before_row_is (OneOf ms) Absent xs = rw (no_member ms) refl
before_row_is (OneOf ms) (Member n p) xs = rw (member_bytes n ms p) refl
before_row_is (OneOf ms) (Number m) xs = refl
before_row_is (OneOf ms) (Bytes b) xs = refl
before_row_is (OneOf ms) (Nested ps) xs = refl
before_row_is (OneOf ms) (Elements ps) xs = refl

pub row_size_is : (row : Row) (p : Part) → row_size row p ≡ length (row_bytes row p)
row_size_is (Plain n k) p = refl
row_size_is (Repeated n k) p = refl
row_size_is (Optional n k) Absent = rw (absent_bytes n k) refl
row_size_is (Optional n k) (Number m) = rw (option_bytes n k (Number m)) refl
row_size_is (Optional n k) (Bytes b) = rw (option_bytes n k (Bytes b)) refl
row_size_is (Optional n k) (Nested ps) = rw (option_bytes n k (Nested ps)) refl
row_size_is (Optional n k) (Elements ps) = rw (option_bytes n k (Elements ps)) refl
row_size_is (Optional n k) (Member m p) = rw (option_bytes n k (Member m p)) refl
row_size_is (OneOf ms) Absent = rw (no_member ms) refl
row_size_is (OneOf ms) (Member n p) = rw (member_bytes n ms p) refl
row_size_is (OneOf ms) (Number m) = refl
row_size_is (OneOf ms) (Bytes b) = refl
row_size_is (OneOf ms) (Nested ps) = refl
row_size_is (OneOf ms) (Elements ps) = refl

pub rows_nil : (rows : List Row) → record_list_bytes (message_records table nil rows) ≡ []
unfolding message_records
rows_nil rows = refl

pub rows_end : (ps : Parts) → record_list_bytes (message_records table ps []) ≡ []
unfolding message_records
rows_end nil = refl
rows_end (cons p ps) = refl

pub rows_cons : (p : Part) (ps : Parts) (row : Row) (rows : List Row) → record_list_bytes
    (message_records table (cons p ps) (row ∷ rows)) ≡ row_bytes row p ++ record_list_bytes
    (message_records table ps rows)
unfolding message_records row_bytes
rows_cons p ps row rows = flat_map-append record_bytes (row_records row p (part_values table p (kind_of row p)))
    (message_records table ps rows)

pub before_rows_is : (rows : List Row) (ps : Parts) (xs : List ℕ) → before_rows rows ps xs ≡ record_list_bytes
    (message_records table ps rows) ++ xs
before_rows_is [] nil xs = rw (rows_nil []) refl
before_rows_is [] (cons p ps) xs = rw (rows_end (cons p ps)) refl
before_rows_is (row ∷ rows) nil xs = rw (rows_nil (row ∷ rows)) refl
before_rows_is (row ∷ rows) (cons p ps) xs =
    before_row_is row p (before_rows rows ps xs) ∙ ap (λ (t : List ℕ). row_bytes row p ++ t) (before_rows_is rows ps xs)
    ∙ sym (append_assoc (row_bytes row p) _ xs) ∙ ap (λ (t : List ℕ). t ++ xs) (sym (rows_cons p ps row rows))

pub rows_size_is : (rows : List Row) (ps : Parts) → rows_size rows ps ≡ length
    (record_list_bytes (message_records table ps rows))
rows_size_is [] nil = rw (rows_nil []) refl
rows_size_is [] (cons p ps) = rw (rows_end (cons p ps)) refl
rows_size_is (row ∷ rows) nil = rw (rows_nil (row ∷ rows)) refl
rows_size_is (row ∷ rows) (cons p ps) =
    omega (
      arith,
      row_size_is row p,
      rows_size_is rows ps,
      ap length (rows_cons p ps row rows),
      length-append
          (row_bytes row p) (record_list_bytes (message_records table ps rows)),
    )

pub written_before : (s : ℕ) (ps : Parts) (xs : List ℕ) → before_rows (table s) ps xs ≡ canonical_payload table s ps ++
    xs
written_before s ps xs = before_rows_is (table s) ps xs

pub payload_size : (s : ℕ) (ps : Parts) → rows_size (table s) ps ≡ length (canonical_payload table s ps)
payload_size s ps = rows_size_is (table s) ps
