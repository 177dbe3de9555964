-- What is found out row by row is whether the value fits its schema.
use Rattle.std.proofs.Common.{◌≡◌, ℕ, ◌^◌, List, [], ◌∷◌, length, refl, sym, ◌∙◌, ap, true, false, Bool, arith}
use Rattle.std.proofs.lemmas.Bool.{and_from, and_parts, lt-ltb, ltb-true, false≢true}
use Rattle.std.specs.Prelude.{◌&&◌}
use Rattle.std.specs.Str.{is_utf8, chars}
use lib.Utf8.{encode}
use Rattle.shared_core_codec.specs.FieldParts.{elements_part, parts_of}
use Rattle.shared_core_codec.specs.RowFitting.{FieldFits, RowFits, ValueFits}
use Rattle.shared_core_codec.specs.Table.{table}
use Rattle.shared_core_wire.specs.Canonical.{kind_of}
use Rattle.shared_core_wire.specs.Fitting.{BytesFit, ElementsFit, Fits, NumberFits, PartFits, has_shape, is_single}
use Rattle.shared_core_wire.specs.Schema.{Boolean, ByteString, Enumeration, Kind, Message, OneOf, Optional, Plain}
use Rattle.shared_core_wire.specs.Schema.{Repeated, Row, Text, U32, U64, includes, member_kind, numbers}
use Rattle.shared_core_wire.specs.Value.{Absent, Bytes, Elements, Member, Nested, Number, Part, Parts, cons, nil}
use Rattle.shared_core_borrowed.specs.Fit.{bytes_fit, elements_fit, list_fits, number_fits, part_fits, parts_fit}
use Rattle.shared_core_borrowed.specs.Fit.{row_fits, rows_fit, value_fits}

-- ---- what is found to fit does

number_true : (k : Kind) (n : ℕ) → number_fits k n ≡ true → NumberFits k n
number_true U32 n h = ltb-true n (2 ^ 32) h
number_true U64 n h = ltb-true n (2 ^ 64) h
number_true Boolean n h = ltb-true n 2 h
number_true Enumeration n h = ltb-true n (2 ^ 32) h
number_true Text n h = absurd (false≢true h)
number_true ByteString n h = absurd (false≢true h)
number_true (Message s) n h = absurd (false≢true h)

bytes_true : (k : Kind) (bytes : List ℕ) → bytes_fit k bytes ≡ true → BytesFit k bytes
bytes_true Text bytes h = h
bytes_true ByteString bytes h = tt
bytes_true U32 bytes h = absurd (false≢true h)
bytes_true U64 bytes h = absurd (false≢true h)
bytes_true Boolean bytes h = absurd (false≢true h)
bytes_true Enumeration bytes h = absurd (false≢true h)
bytes_true (Message s) bytes h = absurd (false≢true h)

mutual
  unfolding part_fits elements_fit parts_fit PartFits ElementsFit Fits

  part_true : (p : Part) (k : Kind) → part_fits p k ≡ true → PartFits table p k
  part_true Absent k h = tt
  part_true (Number n) k h = number_true k n h
  part_true (Bytes bytes) k h = bytes_true k bytes h
  part_true (Nested ps) (Message s) h = parts_true ps (table s) h
  part_true (Nested ps) U32 h = absurd (false≢true h)
  part_true (Nested ps) U64 h = absurd (false≢true h)
  part_true (Nested ps) Boolean h = absurd (false≢true h)
  part_true (Nested ps) Enumeration h = absurd (false≢true h)
  part_true (Nested ps) Text h = absurd (false≢true h)
  part_true (Nested ps) ByteString h = absurd (false≢true h)
  part_true (Elements ps) k h = elements_true ps k h
  part_true (Member n p) k h = part_true p k h

  elements_true : (ps : Parts) (k : Kind) → elements_fit ps k ≡ true → ElementsFit table ps k
  elements_true nil k h = tt
  elements_true (cons p ps) k h =
      let all = and_parts (is_single p && part_fits p k) (elements_fit ps k) h in
      let first = and_parts (is_single p) (part_fits p k) all.0 in
      (first.0, part_true p k first.1, elements_true ps k all.1)

  parts_true : (ps : Parts) (rows : List Row) → parts_fit ps rows ≡ true → Fits table ps rows
  parts_true nil [] h = tt
  parts_true nil (row ∷ rows) h = absurd (false≢true h)
  parts_true (cons p ps) [] h = absurd (false≢true h)
  parts_true (cons p ps) (row ∷ rows) h =
      let all = and_parts (has_shape row p && part_fits p (kind_of row p)) (parts_fit ps rows) h in
      let first = and_parts (has_shape row p) (part_fits p (kind_of row p)) all.0 in
      (first.0, part_true p (kind_of row p) first.1, parts_true ps rows all.1)

-- ---- what fits is found to

number_found : (k : Kind) (n : ℕ) → NumberFits k n → number_fits k n ≡ true
number_found U32 n h = lt-ltb n (2 ^ 32) h
number_found U64 n h = lt-ltb n (2 ^ 64) h
number_found Boolean n h = lt-ltb n 2 h
number_found Enumeration n h = lt-ltb n (2 ^ 32) h
number_found Text n h = absurd h
number_found ByteString n h = absurd h
number_found (Message s) n h = absurd h

bytes_found : (k : Kind) (bytes : List ℕ) → BytesFit k bytes → bytes_fit k bytes ≡ true
bytes_found Text bytes h = h
bytes_found ByteString bytes h = refl
bytes_found U32 bytes h = absurd h
bytes_found U64 bytes h = absurd h
bytes_found Boolean bytes h = absurd h
bytes_found Enumeration bytes h = absurd h
bytes_found (Message s) bytes h = absurd h

mutual
  unfolding part_fits elements_fit parts_fit PartFits ElementsFit Fits

  part_found : (p : Part) (k : Kind) → PartFits table p k → part_fits p k ≡ true
  part_found Absent k h = refl
  part_found (Number n) k h = number_found k n h
  part_found (Bytes bytes) k h = bytes_found k bytes h
  part_found (Nested ps) (Message s) h = parts_found ps (table s) h
  part_found (Nested ps) U32 h = absurd h
  part_found (Nested ps) U64 h = absurd h
  part_found (Nested ps) Boolean h = absurd h
  part_found (Nested ps) Enumeration h = absurd h
  part_found (Nested ps) Text h = absurd h
  part_found (Nested ps) ByteString h = absurd h
  part_found (Elements ps) k h = elements_found ps k h
  part_found (Member n p) k h = part_found p k h

  elements_found : (ps : Parts) (k : Kind) → ElementsFit table ps k → elements_fit ps k ≡ true
  elements_found nil k h = refl
  elements_found (cons p ps) k h =
      and_from _ _ (and_from _ _ h.0 (part_found p k h.1)) (elements_found ps k h.2)

  parts_found : (ps : Parts) (rows : List Row) → Fits table ps rows → parts_fit ps rows ≡ true
  parts_found nil [] h = refl
  parts_found nil (row ∷ rows) h = absurd h
  parts_found (cons p ps) [] h = absurd h
  parts_found (cons p ps) (row ∷ rows) h =
      and_from _ _ (and_from _ _ h.0 (part_found p (kind_of row p) h.1)) (parts_found ps rows h.2)

-- ---- row by row

pub and_true : (b : Bool) → (b && true) ≡ b
and_true true = refl
and_true false = refl

and_false : (b : Bool) → (b && false) ≡ false
and_false true = refl
and_false false = refl

pub and_assoc : (a b c : Bool) → (a && (b && c)) ≡ ((a && b) && c)
and_assoc true b c = refl
and_assoc false b c = refl

-- whether a row's part fits
abbrev fits_here : Row → Part → Bool
fits_here row p = has_shape row p && part_fits p (kind_of row p)

row_fits_is : (row : Row) (p : Part) (b : Bool) → row_fits row p b ≡ (b && fits_here row p)
unfolding value_fits list_fits part_fits
row_fits_is (Plain n k) p b = refl
row_fits_is (Optional n k) Absent b = sym (and_true b)
row_fits_is (Optional n k) (Number m) b = refl
row_fits_is (Optional n k) (Bytes bytes) b = refl
row_fits_is (Optional n k) (Nested ps) b = refl
row_fits_is (Optional n k) (Elements ps) b = refl
row_fits_is (Optional n k) (Member m p) b = refl
row_fits_is (Repeated n k) (Elements ps) b = refl
row_fits_is (Repeated n k) Absent b = sym (and_false b)
row_fits_is (Repeated n k) (Number m) b = sym (and_false b)
row_fits_is (Repeated n k) (Bytes bytes) b = sym (and_false b)
row_fits_is (Repeated n k) (Nested ps) b = sym (and_false b)
row_fits_is (Repeated n k) (Member m p) b = sym (and_false b)
row_fits_is (OneOf ms) Absent b = sym (and_true b)
row_fits_is (OneOf ms) (Number m) b = sym (and_false b)
row_fits_is (OneOf ms) (Bytes bytes) b = sym (and_false b)
row_fits_is (OneOf ms) (Nested ps) b = sym (and_false b)
row_fits_is (OneOf ms) (Elements ps) b = sym (and_false b)
row_fits_is (OneOf ms) (Member n p) b =
    ap (λ t. b && t) (and_assoc (includes (numbers (OneOf ms)) n) (is_single p) (part_fits p (member_kind ms n)))

rows_fit_is : (rows : List Row) (ps : Parts) (b : Bool) → rows_fit rows ps b ≡ (b && parts_fit ps rows)
unfolding parts_fit
rows_fit_is [] nil b = sym (and_true b)
rows_fit_is [] (cons p ps) b = sym (and_false b)
rows_fit_is (row ∷ rows) nil b = sym (and_false b)
rows_fit_is (row ∷ rows) (cons p ps) b =
    rows_fit_is rows ps (row_fits row p b) ∙ rw (row_fits_is row p b)
    (sym (and_assoc b (fits_here row p) (parts_fit ps rows)))

-- ---- values

pub fits_so : (k : Kind) (p : Part) → ValueFits k p → value_fits k p ≡ true
unfolding value_fits ValueFits
fits_so k p h = and_from _ _ h.0 (part_found p k h.1)

pub content_fits : (bytes : List ℕ) → value_fits ByteString (Bytes bytes) ≡ true
unfolding value_fits part_fits
content_fits bytes = refl

pub text_fits : (bytes : List ℕ) → value_fits Text (Bytes bytes) ≡ is_utf8 bytes
unfolding value_fits part_fits
text_fits bytes = refl

no_text : is_utf8 [] ≡ true
unfolding is_utf8 chars encode
no_text = refl

pub no_text_fits : (bytes : List ℕ) → length bytes ≡ 0 → value_fits Text (Bytes bytes) ≡ true
unfolding value_fits part_fits
no_text_fits [] h = no_text
no_text_fits (b ∷ bytes) h = absurd (omega (arith, h))

-- a default that fits changes nothing
pub default_fits : (k : Kind) (p : Part) (b : Bool) → value_fits k p ≡ true → b ≡ (b && value_fits k p)
default_fits k p b h = rw h (sym (and_true b))

pub record_fits : (s : ℕ) (ps : Parts) → value_fits (Message s) (Nested ps) ≡ rows_fit (table s) ps true
unfolding value_fits part_fits
record_fits s ps = sym (rows_fit_is (table s) ps true)

-- numbers fit
pub numbers_fit : (ns : List ℕ) (b : Bool) → ((at : ℕ) → FieldFits (Repeated at U32) (elements_part Number ns))
    → b ≡ (b && list_fits U32 (parts_of Number ns))
unfolding list_fits RowFits PartFits
numbers_fit ns b h = rw (elements_found (parts_of Number ns) U32 (h 0).1) (sym (and_true b))

-- ---- whole records

pub accepted : (s : ℕ) (ps : Parts) → rows_fit (table s) ps true ≡ true → Fits table ps (table s)
accepted s ps h = parts_true ps (table s) (sym (rows_fit_is (table s) ps true) ∙ h)

pub rejected : (s : ℕ) (ps : Parts) → rows_fit (table s) ps true ≡ false → ¬ (Fits table ps (table s))
rejected s ps h f = false≢true (sym h ∙ rows_fit_is (table s) ps true ∙ parts_found ps (table s) f)
