-- Writing from the back.
use Rattle.std.proofs.Common.{◌≡◌, ℕ, ◌+◌, ◌-◌, ◌/◌, ◌%◌, ◌<◌, ◌≤◌, List, ◌∷◌, ◌++◌, length, drop, set, get_or, subst}
use Rattle.std.proofs.Common.{append_assoc, append-nil, length-append, length-set, refl, ap, sym, ◌∙◌, arith, true}
use Rattle.std.proofs.Common.{false}
use Rattle.std.proofs.lemmas.List.{drop-set, drop_all}
use Rattle.shared_core_codec.proofs.Measuring.{from_end, from_index, from_next, from_shorter, from_start, packed_all}
use Rattle.shared_core_codec.proofs.Measuring.{packed_end, packed_from, packed_at, packed_shorter}
use Rattle.shared_core_codec.proofs.RowBytes.{bytes_value_bytes, message_bytes, no_packed, number_value_bytes}
use Rattle.shared_core_codec.proofs.RowBytes.{payload_size, plain_default, plain_value, some_packed, written_before}
use Rattle.shared_core_codec.specs.Equality.{is_present}
use Rattle.shared_core_codec.specs.FieldParts.{elements_part}
use Rattle.shared_core_codec.specs.RowEncoding.{before_row, before_rows, length_record, row_bytes, row_size, rows_size}
use Rattle.shared_core_codec.specs.RowEncoding.{unpacked, value_bytes, varint_record, varints_of}
use Rattle.shared_core_codec.specs.Table.{table}
use Rattle.shared_core_wire.proofs.Shortest.{shortest_large, shortest_small}
use Rattle.shared_core_wire.specs.Canonical.{canonical_payload, is_default, written_number}
use Rattle.shared_core_wire.specs.Schema.{Kind, Message, Optional, Plain, Repeated, U32}
use Rattle.shared_core_wire.specs.Encoding.{key_bytes, shortest_varint}
use Rattle.shared_core_wire.specs.Value.{Absent, Bytes, Elements, Member, Nested, Number, Part, Parts}

-- ---- varints

pub one_before : (xs : List ℕ) (i end n : ℕ) → n < 128 → i < length xs → end ≡ i + 1 → drop i (set xs i n) ≡
    shortest_varint n ++ drop end xs
one_before xs i end n small h e = rw (shortest_small n small, e) (drop-set xs i n h)

pub more_before : (xs now : List ℕ) (i rest n : ℕ) → 128 ≤ n → i < length now → rest ≡ i + 1 → drop rest now ≡
    shortest_varint (n / 128) ++ xs
    → drop i (set now i (n % 128 + 128)) ≡ shortest_varint n ++ xs
more_before xs now i rest n large h e w = rw (shortest_large n large)
    (drop-set now i (n % 128 + 128) h ∙ ap (λ (t : List ℕ). (n % 128 + 128) ∷ t) (rw e at w))

pub more_size : (n : ℕ) → 128 ≤ n → length (shortest_varint n) ≡ length (shortest_varint (n / 128)) + 1
more_size n large = rw (shortest_large n large) (omega arith)

pub two_bytes_before : (xs : List ℕ) (i end n : ℕ) → 128 ≤ n → n < 16384 → i + 1 < length xs → end ≡ i + 2
    → drop i (set (set xs (i + 1) (n / 128)) i (n % 128 + 128)) ≡ shortest_varint n ++ drop end xs
two_bytes_before xs i end n large small h e =
    more_before (drop end xs) (set xs (i + 1) (n / 128)) i (i + 1) n large (simp length-set (omega arith)) refl
    (one_before xs (i + 1) end (n / 128) (omega arith) h (omega arith))

pub two_bytes_size : (n : ℕ) → 128 ≤ n → n < 16384 → length (shortest_varint n) ≡ 2
two_bytes_size n large small = rw (shortest_large n large, shortest_small (n / 128) (omega arith)) refl

-- ---- records

pub two_before : (a b after mid now : List ℕ) → now ≡ a ++ mid → mid ≡ b ++ after → now ≡ (a ++ b) ++ after
two_before a b after mid now e f = rw (e, f) (sym (append_assoc a b after))

pub two_size : (a b : List ℕ) → length (a ++ b) ≡ length a + length b
two_size a b = length-append a b

pub record_before : (at : ℕ) (b after mid now : List ℕ) → now ≡ key_bytes at 2 ++ (shortest_varint (length b) ++ mid) →
    mid ≡ b ++ after → now ≡ length_record at b ++ after
record_before at b after mid now e f = rw (e, f) (simp append_assoc)

pub record_size : (at : ℕ) (b : List ℕ) → length (length_record at b) ≡
    (length (key_bytes at 2) + length (shortest_varint (length b))) + length b
record_size at b = simp length-append (omega arith)

-- ---- plain fields

pub default_before : (at : ℕ) (k : Kind) (p : Part) (xs : List ℕ) → is_default p ≡ true → row_bytes (Plain at k) p ++ xs
    ≡ xs
default_before at k p xs d = rw (plain_default at k p d) refl

pub default_size : (at : ℕ) (k : Kind) (p : Part) → is_default p ≡ true → length (row_bytes (Plain at k) p) ≡ 0
default_size at k p d = rw (plain_default at k p d) refl

pub other_before : (at : ℕ) (k : Kind) (p : Part) (xs : List ℕ) → is_default p ≡ false → row_bytes (Plain at k) p ++ xs
    ≡ value_bytes at k p ++ xs
other_before at k p xs d = rw (plain_value at k p d) refl

pub other_size : (at : ℕ) (k : Kind) (p : Part) → is_default p ≡ false → length (row_bytes (Plain at k) p) ≡ length
    (value_bytes at k p)
other_size at k p d = rw (plain_value at k p d) refl

-- ---- optional fields that hold a value

pub present_before : (at : ℕ) (k : Kind) (p : Part) (xs : List ℕ) → is_present p ≡ true → value_bytes at k p ++ xs ≡
    before_row (Optional at k) p xs
present_before at k Absent xs h = cc
present_before at k (Number v) xs h = refl
present_before at k (Bytes b) xs h = refl
present_before at k (Nested ps) xs h = refl
present_before at k (Elements ps) xs h = refl
present_before at k (Member v p) xs h = refl

pub present_size : (at : ℕ) (k : Kind) (p : Part) → is_present p ≡ true → row_size (Optional at k) p ≡ length
    (value_bytes at k p)
present_size at k Absent h = cc
present_size at k (Number v) h = refl
present_size at k (Bytes b) h = refl
present_size at k (Nested ps) h = refl
present_size at k (Elements ps) h = refl
present_size at k (Member v p) h = refl

-- ---- values that are written whatever they hold

pub value_before : (at : ℕ) (k : Kind) (v : ℕ) (xs : List ℕ) → value_bytes at k (Number v) ++ xs ≡ varint_record at
    (written_number k v) ++ xs
value_before at k v xs = rw (number_value_bytes at k v) refl

pub value_size : (at : ℕ) (k : Kind) (v : ℕ) → length (value_bytes at k (Number v)) ≡ length
    (varint_record at (written_number k v))
value_size at k v = rw (number_value_bytes at k v) refl

pub any_before : (at : ℕ) (k : Kind) (b xs : List ℕ) → value_bytes at k (Bytes b) ++ xs ≡ length_record at b ++ xs
any_before at k b xs = rw (bytes_value_bytes at k b) refl

pub any_size : (at : ℕ) (k : Kind) (b : List ℕ) → length (value_bytes at k (Bytes b)) ≡ length (length_record at b)
any_size at k b = rw (bytes_value_bytes at k b) refl

pub message_size : (at s : ℕ) (ps : Parts) → length (value_bytes at (Message s) (Nested ps)) ≡
    (length (key_bytes at 2) + length (shortest_varint (rows_size (table s) ps))) + rows_size (table s) ps
message_size at s ps = rw (message_bytes at s ps, payload_size s ps) (record_size at (canonical_payload table s ps))

pub message_before : (at s start end : ℕ) (ps : Parts) (after mid now : List ℕ) → now ≡ key_bytes at 2 ++
    (shortest_varint (end - start) ++ mid) → start + rows_size (table s) ps ≡ end
    → mid ≡ before_rows (table s) ps after → now ≡ value_bytes at (Message s) (Nested ps) ++ after
message_before at s start end ps after mid now e l f =
    let z : end - start ≡ length (canonical_payload table s ps) = omega (arith, payload_size s ps) in
    rw (message_bytes at s ps) (record_before at (canonical_payload table s ps) after mid now (rw z at e)
    (f ∙ written_before s ps after))

-- ---- one element after the other, the last one first

-- the bytes are right before the end, and what was after it is unchanged
abbrev pub IsAfter : List ℕ → ℕ → ℕ → List ℕ → List ℕ → Type 0
IsAfter bytes end start after now = (start + length bytes ≡ end) × (now ≡ bytes ++ after)

after_step : (more bytes : List ℕ) (end old start : ℕ) (after mid now : List ℕ) → start + length more ≡ old → now ≡ more
    ++ mid
    → IsAfter bytes end old after mid → IsAfter (more ++ bytes) end start after now
after_step more bytes end old start after mid now l w h = (
  omega (arith, l, h.0, length-append more bytes),
  w ∙ ap (λ (t : List ℕ). more ++ t) h.1 ∙ sym
      (append_assoc more bytes after),
)

pub after_start : {M : Type 0} (view : M → Part) (at : ℕ) (k : Kind) (xs : List M) (i end : ℕ) (after : List ℕ) → length
    xs ≤ i → IsAfter (from_index view at k xs i) end end after after
after_start view at k xs i end after h = rw (from_end view at k xs i h) (omega arith, refl)

pub after_next : {M : Type 0} (view : M → Part) (at : ℕ) (k : Kind) (xs : List M) (i : ℕ) (x : M) (end old start : ℕ)
    (after mid now : List ℕ) → 0 < i → i ≤ length xs → x ≡ get_or xs (i - 1) x
    → start + length (value_bytes at k (view x)) ≡ old → now ≡ value_bytes at k (view x) ++ mid
    → IsAfter (from_index view at k xs i) end old after mid → IsAfter (from_index view at k xs (i - 1)) end start after
    now
after_next view at k xs i x end old start after mid now z h e l w b =
    let n : i - 1 + 1 ≡ i = omega arith in
    rw (from_next view at k xs (i - 1) x (omega arith) e, n)
    (after_step (value_bytes at k (view x)) (from_index view at k xs i) end old start after mid now l w b)

pub after_room : {M : Type 0} (view : M → Part) (at : ℕ) (k : Kind) (xs : List M) (i : ℕ) (x : M) (end start : ℕ) → 0 <
    i → i ≤ length xs → x ≡ get_or xs (i - 1) x → unpacked k ≡ true
    → start + length (from_index view at k xs i) ≡ end → row_size (Repeated at k) (elements_part view xs) ≤ end → length
    (value_bytes at k (view x)) ≤ start
after_room view at k xs i x end start z h e u w r =
    let n : i - 1 + 1 ≡ i = omega arith in
    let a = ap length (from_next view at k xs (i - 1) x (omega arith) e) in
    let b : length (from_index view at k xs (i - 1)) ≡ length (value_bytes at k (view x) ++ from_index view at k xs i) =
    rw n at a in
    omega (
      arith,
      b,
      length-append (value_bytes at k (view x)) (from_index view at k xs i),
      from_shorter view at k xs
          (i - 1),
      ap length (from_start view at k xs u),
    )

pub after_all : {M : Type 0} (view : M → Part) (at : ℕ) (k : Kind) (xs : List M) (i end start : ℕ) (after now : List ℕ)
    → i ≡ 0 → unpacked k ≡ true
    → IsAfter (from_index view at k xs i) end start after now → IsAfter
    (row_bytes (Repeated at k) (elements_part view xs)) end start after now
after_all view at k xs i end start after now z u b =
    subst (λ (t : List ℕ). IsAfter t end start after now) (ap (from_index view at k xs) z ∙ from_start view at k xs u) b

-- ---- packed numbers, the last one first

pub packed_start : (ns : List ℕ) (i end : ℕ) (after : List ℕ) → length ns ≤ i → IsAfter (packed_from ns i) end end after
    after
packed_start ns i end after h = rw (packed_end ns i h) (omega arith, refl)

pub packed_after : (ns : List ℕ) (i n d end old start : ℕ) (after mid now : List ℕ) → 0 < i → i ≤ length ns → n ≡ get_or
    ns (i - 1) d
    → start + length (shortest_varint n) ≡ old → now ≡ shortest_varint n ++ mid
    → IsAfter (packed_from ns i) end old after mid → IsAfter (packed_from ns (i - 1)) end start after now
packed_after ns i n d end old start after mid now z h e l w b =
    let k : i - 1 + 1 ≡ i = omega arith in
    rw (packed_at ns (i - 1) n d (omega arith) e, k) (after_step (shortest_varint n) (packed_from ns i) end old start
    after mid now l w b)

pub packed_room : (ns : List ℕ) (i n d end start : ℕ) → 0 < i → i ≤ length ns → n ≡ get_or ns (i - 1) d → start + length
    (packed_from ns i) ≡ end → length (varints_of ns) ≤ end
    → length (shortest_varint n) ≤ start
packed_room ns i n d end start z h e w r =
    let k : i - 1 + 1 ≡ i = omega arith in
    let a = ap length (packed_at ns (i - 1) n d (omega arith) e) in
    let b : length (packed_from ns (i - 1)) ≡ length (shortest_varint n ++ packed_from ns i) = rw k at a in
    omega (
      arith,
      b,
      length-append (shortest_varint n) (packed_from ns i),
      packed_shorter ns (i - 1),
      ap length
          (packed_all ns),
    )

pub packed_after_all : (ns : List ℕ) (i end start : ℕ) (after now : List ℕ) → i ≡ 0 → IsAfter (packed_from ns i) end
    start after now → IsAfter (varints_of ns) end start after now
packed_after_all ns i end start after now z b = subst (λ (t : List ℕ). IsAfter t end start after now)
    (ap (packed_from ns) z ∙ packed_all ns) b

pub packed_size : (at : ℕ) (ns : List ℕ) → 0 < length ns → row_size (Repeated at U32) (elements_part Number ns) ≡
    (length (key_bytes at 2) + length (shortest_varint (length (varints_of ns)))) + length (varints_of ns)
packed_size at ns h = rw (some_packed at ns h) (record_size at (varints_of ns))

pub no_packed_size : (at : ℕ) (ns : List ℕ) → length ns ≡ 0 → row_size (Repeated at U32) (elements_part Number ns) ≡ 0
no_packed_size at ns h = rw (no_packed at ns h) refl

pub packed_before : (at start end : ℕ) (ns : List ℕ) (after mid now : List ℕ) → 0 < length ns → now ≡ key_bytes at 2 ++
    (shortest_varint (end - start) ++ mid) → start + length (varints_of ns) ≡ end
    → mid ≡ varints_of ns ++ after → now ≡ before_row (Repeated at U32) (elements_part Number ns) after
packed_before at start end ns after mid now h e l f =
    let z : end - start ≡ length (varints_of ns) = omega arith in
    rw (some_packed at ns h) (record_before at (varints_of ns) after mid now (rw z at e) f)

pub no_packed_before : (at : ℕ) (ns after : List ℕ) → length ns ≡ 0 → after ≡ before_row (Repeated at U32)
    (elements_part Number ns) after
no_packed_before at ns after h = rw (no_packed at ns h) refl

-- ---- whole payloads

pub payload_fits : (s len : ℕ) (ps : Parts) → len ≡ length (canonical_payload table s ps) → rows_size (table s) ps ≤ len
payload_fits s len ps e = omega (arith, e, payload_size s ps)

pub payload_whole : (s start : ℕ) (ps : Parts) (old now : List ℕ) → length old ≡ length (canonical_payload table s ps) →
    start + rows_size (table s) ps ≡ length old
    → drop start now ≡ before_rows (table s) ps (drop (length old) old) → now ≡ canonical_payload table s ps
payload_whole s start ps old now l h w =
    let z : start ≡ 0 = omega (arith, h, l, payload_size s ps) in
    let d : drop 0 now ≡ before_rows (table s) ps (drop (length old) old) = rw z at w in
    d ∙ written_before s ps (drop (length old) old) ∙ rw (drop_all (length old) old (omega arith)) (append-nil _)
