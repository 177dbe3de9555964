-- What is measured and written is the canonical payload.
use Rattle.std.proofs.Common.{◌≡◌, ℕ, zero, suc, ◌+◌, ◌<◌, ◌≤◌, ◌^◌, List, [], ◌∷◌, ◌++◌, length, length-append, drop}
use Rattle.std.proofs.Common.{get_or, add-one, drop-cons, refl, ap, sym, ◌∙◌, arith, true, false, inl, inr}
use Rattle.std.proofs.lemmas.Bool.{cases_lt, lt-ltb, le-ltb}
use Rattle.std.proofs.lemmas.List.{drop_all}
use Rattle.std.specs.Prelude.{ℤ, pos, negsuc, FitsSigned, ◌-◌}
use Rattle.std.specs.Int.{w32, w64, cast_unsigned}
use Rattle.shared_core_codec.proofs.RowBytes.{absent_bytes, bytes_value_bytes, each_bytes, each_cons, each_nil}
use Rattle.shared_core_codec.proofs.RowBytes.{elements_bytes, member_bytes, message_bytes, no_member, no_packed}
use Rattle.shared_core_codec.proofs.RowBytes.{number_value_bytes, option_bytes, rows_cons, rows_end, plain_default}
use Rattle.shared_core_codec.proofs.RowBytes.{plain_value, rows_nil, some_packed}
use Rattle.shared_core_codec.specs.Equality.{is_present}
use Rattle.shared_core_codec.specs.FieldParts.{elements_part, enum_number, parts_of}
use Rattle.shared_core_codec.specs.RowEncoding.{capped, length_record, measured_message, measured_row, measured_rows}
use Rattle.shared_core_codec.specs.RowEncoding.{row_bytes, unpacked, value_bytes, varints_of}
use Rattle.shared_core_codec.specs.Table.{table}
use Rattle.shared_core_wire.specs.Canonical.{canonical_payload, is_default, message_records, written_number}
use Rattle.shared_core_wire.specs.Schema.{Enumeration, Kind, Message, OneOf, Optional, Plain, Repeated, Row, U32}
use Rattle.shared_core_wire.specs.Encoding.{key_bytes, record_list_bytes, shortest_varint}
use Rattle.shared_core_wire.specs.Value.{Absent, Bytes, Elements, Member, Nested, Number, Part, Parts, cons, nil}

pub capped_append : (a : ℕ) (xs ys : List ℕ) → capped (a + length (xs ++ ys)) ≡ capped
    (capped (a + length xs) + length ys)
capped_append a xs ys = omega (arith, length-append xs ys)

-- ---- plain fields, which are not written where they hold the default

pub count_default : (at : ℕ) (k : Kind) (p : Part) (n : ℕ) → is_default p ≡ true → n ≤ 2 ^ 32 → capped
    (n + length (row_bytes (Plain at k) p)) ≡ n
count_default at k p n d h = rw (plain_default at k p d) (omega arith)

pub count_other : (at : ℕ) (k : Kind) (p : Part) (n : ℕ) → is_default p ≡ false → capped
    (n + length (row_bytes (Plain at k) p)) ≡ capped (n + length (value_bytes at k p))
count_other at k p n d = rw (plain_value at k p d) refl

-- ---- numbers

pub count_value : (at : ℕ) (k : Kind) (v n : ℕ) → capped (n + length (value_bytes at k (Number v))) ≡ capped
    (capped (n + length (key_bytes at 0)) + length (shortest_varint (written_number k v)))
count_value at k v n = rw (number_value_bytes at k v) (capped_append n _ _)

-- ---- optional fields that hold a value

pub count_present : (at : ℕ) (k : Kind) (p : Part) (n : ℕ) → is_present p ≡ true → capped
    (n + length (value_bytes at k p)) ≡ measured_row (Optional at k) p n
count_present at k Absent n h = cc
count_present at k (Number v) n h = refl
count_present at k (Bytes b) n h = refl
count_present at k (Nested ps) n h = refl
count_present at k (Elements ps) n h = refl
count_present at k (Member v p) n h = refl

-- ---- rows counted one after the other are as many bytes as they are encoded with

pub measured_row_is : (row : Row) (p : Part) (n : ℕ) → n ≤ 2 ^ 32 → measured_row row p n ≡ capped
    (n + length (row_bytes row p))
measured_row_is (Plain m k) p n h = refl
measured_row_is (Repeated m k) p n h = refl
measured_row_is (Optional m k) Absent n h = rw (absent_bytes m k) (omega arith)
measured_row_is (Optional m k) (Number v) n h = rw (option_bytes m k (Number v)) refl
measured_row_is (Optional m k) (Bytes b) n h = rw (option_bytes m k (Bytes b)) refl
measured_row_is (Optional m k) (Nested ps) n h = rw (option_bytes m k (Nested ps)) refl
measured_row_is (Optional m k) (Elements ps) n h = rw (option_bytes m k (Elements ps)) refl
measured_row_is (Optional m k) (Member v p) n h = rw (option_bytes m k (Member v p)) refl
measured_row_is (OneOf ms) Absent n h = rw (no_member ms) (omega arith)
measured_row_is (OneOf ms) (Member m p) n h = rw (member_bytes m ms p) refl
measured_row_is (OneOf ms) (Number v) n h = refl
measured_row_is (OneOf ms) (Bytes b) n h = refl
measured_row_is (OneOf ms) (Nested ps) n h = refl
measured_row_is (OneOf ms) (Elements ps) n h = refl

pub measured_rows_is : (rows : List Row) (ps : Parts) (n : ℕ) → n ≤ 2 ^ 32 → measured_rows rows ps n ≡ capped
    (n + length (record_list_bytes (message_records table ps rows)))
measured_rows_is [] nil n h = rw (rows_nil []) (omega arith)
measured_rows_is [] (cons p ps) n h = rw (rows_end (cons p ps)) (omega arith)
measured_rows_is (row ∷ rows) nil n h = rw (rows_nil (row ∷ rows)) (omega arith)
measured_rows_is (row ∷ rows) (cons p ps) n h =
    let e = measured_row_is row p n h in
    let k : measured_row row p n ≤ 2 ^ 32 = rw e (omega arith) in
    measured_rows_is rows ps (measured_row row p n) k ∙ rw (e, rows_cons p ps row rows)
    (sym (capped_append n (row_bytes row p) (record_list_bytes (message_records table ps rows))))

-- the capped size of a record
pub size_is : (s : ℕ) (ps : Parts) → measured_rows (table s) ps 0 ≡ capped (length (canonical_payload table s ps))
size_is s ps = measured_rows_is (table s) ps 0 (omega arith) ∙ omega arith

-- ---- bytes of a capped size, with their key and length

nested_sum : (old key content inner : ℕ) (len : ℕ → ℕ) → inner ≡ capped content → capped
    (capped (capped (old + key) + len inner) + inner) ≡ capped (old + (key + (len content + content)))
nested_sum old key content inner len e =
    elim (cases_lt content (2 ^ 32)) [
      | inr h ↦ omega arith
      | inl h ↦ let i : inner ≡ content = omega arith in rw i
          (omega arith)
    ]

length_record_size : (at : ℕ) (b : List ℕ) → length (length_record at b) ≡ length (key_bytes at 2) +
    (length (shortest_varint (length b)) + length b)
length_record_size at b = simp length-append (omega arith)

pub measured_bytes : (at old inner : ℕ) (b : List ℕ) → inner ≡ capped (length b) → measured_message at inner old ≡
    capped (old + length (length_record at b))
unfolding measured_message
measured_bytes at old inner b e =
    nested_sum old _ (length b) inner (λ n. length (shortest_varint n)) e ∙ ap (λ t. capped (old + t))
    (sym (length_record_size at b))

pub measured_message_is : (at old inner s : ℕ) (ps : Parts) → inner ≡ measured_rows (table s) ps 0 → measured_message at
    inner old ≡ capped (old + length (value_bytes at (Message s) (Nested ps)))
measured_message_is at old inner s ps e =
    measured_bytes at old inner (canonical_payload table s ps) (e ∙ size_is s ps) ∙ ap
    (λ (t : List ℕ). capped (old + length t)) (sym (message_bytes at s ps))

-- ---- content that is written whatever it holds

pub count_any : (at : ℕ) (k : Kind) (b : List ℕ) (n : ℕ) → capped (n + length (value_bytes at k (Bytes b))) ≡ capped
    (n + length (length_record at b))
count_any at k b n = rw (bytes_value_bytes at k b) refl

-- ---- the elements from an index on

pub from_index : {M : Type 0} → (M → Part) → ℕ → Kind → List M → ℕ → List ℕ
from_index view at k xs i = each_bytes at k (parts_of view (drop i xs))

pub from_start : {M : Type 0} (view : M → Part) (at : ℕ) (k : Kind) (xs : List M) → unpacked k ≡ true → from_index view
    at k xs 0 ≡ row_bytes (Repeated at k) (Elements (parts_of view xs))
unfolding from_index
from_start view at k xs u = sym (elements_bytes at k (parts_of view xs) u)

pub from_next : {M : Type 0} (view : M → Part) (at : ℕ) (k : Kind) (xs : List M) (i : ℕ) (x : M) → i < length xs → x ≡
    get_or xs i x
    → from_index view at k xs i ≡ value_bytes at k (view x) ++ from_index view at k xs (i + 1)
unfolding from_index
from_next view at k xs i x h e = rw (add-one, drop-cons xs i x h, ← e) (each_cons at k (view x) _)

pub from_end : {M : Type 0} (view : M → Part) (at : ℕ) (k : Kind) (xs : List M) (i : ℕ) → length xs ≤ i → from_index
    view at k xs i ≡ []
unfolding from_index
from_end view at k xs i h = rw (drop_all i xs h) (each_nil at k)

pub count_next : {M : Type 0} (view : M → Part) (at : ℕ) (k : Kind) (xs : List M) (i : ℕ) (x : M) (n : ℕ) → i < length
    xs → x ≡ get_or xs i x
    → capped (n + length (from_index view at k xs i)) ≡ capped
    (capped (n + length (value_bytes at k (view x))) + length (from_index view at k xs (i + 1)))
count_next view at k xs i x n h e = rw (from_next view at k xs i x h e) (capped_append n _ _)

pub count_from : {M : Type 0} (view : M → Part) (at : ℕ) (k : Kind) (xs : List M) (n now i : ℕ) → now ≤ 2 ^ 32 → length
    xs ≤ i → unpacked k ≡ true
    → capped (now + length (from_index view at k xs i)) ≡ capped (n + length (from_index view at k xs 0))
    → now ≡ measured_row (Repeated at k) (elements_part view xs) n
count_from view at k xs n now i f h u e =
    let g : now ≡ capped (n + length (from_index view at k xs 0)) = omega
    (arith, e, ap length (from_end view at k xs i h)) in
    g ∙ ap (λ (t : List ℕ). capped (n + length t)) (from_start view at k xs u)

pub from_shorter : {M : Type 0} (view : M → Part) (at : ℕ) (k : Kind) (xs : List M) (i : ℕ) → length
    (from_index view at k xs i) ≤ length (from_index view at k xs 0)
unfolding from_index
from_shorter view at k [] zero = omega arith
from_shorter view at k [] (suc i) = omega arith
from_shorter view at k (x ∷ xs) zero = omega arith
from_shorter view at k (x ∷ xs) (suc i) =
    omega (
      arith,
      from_shorter view at k xs i,
      ap length (each_cons at k (view x) (parts_of view xs)),
      length-append
          (value_bytes at k (view x)) (each_bytes at k (parts_of view xs)),
    )

-- ---- packed numbers from an index on

pub packed_from : List ℕ → ℕ → List ℕ
packed_from ns i = varints_of (drop i ns)

pub packed_next : (ns : List ℕ) (i n : ℕ) → i < length ns → n ≡ get_or ns i 0 → packed_from ns i ≡ shortest_varint n ++
    packed_from ns (i + 1)
unfolding packed_from varints_of
packed_next ns i n h e = rw (add-one, drop-cons ns i 0 h, ← e) refl

pub packed_at : (ns : List ℕ) (i n d : ℕ) → i < length ns → n ≡ get_or ns i d → packed_from ns i ≡ shortest_varint n ++
    packed_from ns (i + 1)
unfolding packed_from varints_of
packed_at ns i n d h e = rw (add-one, drop-cons ns i d h, ← e) refl

pub packed_end : (ns : List ℕ) (i : ℕ) → length ns ≤ i → packed_from ns i ≡ []
unfolding packed_from varints_of
packed_end ns i h = rw (drop_all i ns h) refl

pub packed_all : (ns : List ℕ) → packed_from ns 0 ≡ varints_of ns
unfolding packed_from
packed_all ns = refl

pub packed_shorter : (ns : List ℕ) (i : ℕ) → length (packed_from ns i) ≤ length (packed_from ns 0)
unfolding packed_from varints_of
packed_shorter [] zero = omega arith
packed_shorter [] (suc i) = omega arith
packed_shorter (n ∷ ns) zero = omega arith
packed_shorter (n ∷ ns) (suc i) = omega (arith, packed_shorter ns i, length-append (shortest_varint n) (varints_of ns))

pub packed_count : (ns : List ℕ) (i n now : ℕ) → i < length ns → n ≡ get_or ns i 0
    → capped (now + length (packed_from ns i)) ≡ capped (capped (now + length (shortest_varint n)) + length
    (packed_from ns (i + 1)))
packed_count ns i n now h e = rw (packed_next ns i n h e) (capped_append now _ _)

pub packed_whole : (ns : List ℕ) (i first now : ℕ) → now ≤ 2 ^ 32 → length ns ≤ i → capped
    (now + length (packed_from ns i)) ≡ capped (first + length (packed_from ns 0))
    → now ≡ capped (first + length (varints_of ns))
packed_whole ns i first now f h e =
    let g : now ≡ capped (first + length (packed_from ns 0)) = omega (arith, e, ap length (packed_end ns i h)) in
    g ∙ ap (λ (t : List ℕ). capped (first + length t)) (packed_all ns)

pub count_packed : (at old inner : ℕ) (ns : List ℕ) → inner ≡ capped (length (varints_of ns)) → 0 < length ns →
    measured_message at inner old ≡ measured_row (Repeated at U32) (elements_part Number ns) old
count_packed at old inner ns e h = measured_bytes at old inner (varints_of ns) e ∙ ap
    (λ (t : List ℕ). capped (old + length t)) (sym (some_packed at ns h))

pub count_no_packed : (at old : ℕ) (ns : List ℕ) → old ≤ 2 ^ 32 → length ns ≡ 0 → old ≡ measured_row (Repeated at U32)
    (elements_part Number ns) old
count_no_packed at old ns l h = rw (no_packed at ns h) (omega arith)

pub sign_extended_is : (z : ℤ) → FitsSigned w32 z → cast_unsigned w64 z ≡ written_number Enumeration (enum_number z)
sign_extended_is (pos n) h = rw (lt-ltb n (2 ^ 31) h.sfits) (rw (lt-ltb n (2 ^ 31) h.sfits) refl)
sign_extended_is (negsuc n) h =
    let k : 2 ^ 31 ≤ 2 ^ 32 - 1 - n = omega (arith, h.sfits) in
    rw (lt-ltb n (2 ^ 31) h.sfits) (rw (le-ltb (2 ^ 32 - 1 - n) (2 ^ 31) k) (omega (arith, h.sfits)))
