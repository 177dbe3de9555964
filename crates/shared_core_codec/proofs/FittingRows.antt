-- Which parts fit.
use Rattle.std.proofs.Common.{◌≡◌, ℕ, suc, ◌+◌, ◌^◌, ◌<◌, ◌≤◌, ℤ, pos, negsuc, List, [], ◌∷◌, length, drop, get_or}
use Rattle.std.proofs.Common.{add-one, drop-cons, refl, sym, ◌∙◌, arith, true, false, Bool}
use Rattle.std.proofs.lemmas.List.{drop_all}
use Rattle.std.proofs.lemmas.Bool.{lt-ltb, ne_eqb}
use Rattle.std.specs.Prelude.{◌-◌, ◌==◌, nat_eq, FitsSigned, String, string_bytes}
use Rattle.std.specs.Int.{w32, cast_unsigned, from_bool}
use Rattle.std.proofs.lemmas.Str.{is_utf8-from_IsUtf8, IsUtf8-string_bytes}
use Rattle.shared_core_codec.specs.FieldParts.{elements_part, enum_number, parts_of, text_part}
use Rattle.shared_core_codec.specs.RowFitting.{FieldFits, FieldsFit, RowFits, ValueFits}
use Rattle.shared_core_codec.specs.Table.{table}
use Rattle.shared_core_wire.specs.Fitting.{ElementsFit, Fits, PartFits}
use Rattle.shared_core_wire.specs.Schema.{Boolean, Enumeration, Kind, Message, OneOf, Optional, Plain, Repeated, Row}
use Rattle.shared_core_wire.specs.Schema.{Text, U32}
use Rattle.shared_core_wire.specs.Value.{Absent, Bytes, Elements, Member, Nested, Number, Part, Parts, cons, nil}

pub fits_row : (row : Row) (p : Part) → FieldFits row p → RowFits row p
unfolding ValueFits RowFits PartFits
fits_row (Plain n k) p h = h
fits_row (Repeated n k) p h = h
fits_row (Optional n k) Absent h = (refl, tt)
fits_row (Optional n k) (Number m) h = h
fits_row (Optional n k) (Bytes b) h = h
fits_row (Optional n k) (Nested ps) h = h
fits_row (Optional n k) (Elements ps) h = h
fits_row (Optional n k) (Member m p) h = h
fits_row (OneOf ms) Absent h = (refl, tt)
fits_row (OneOf ms) (Member n p) h = (rw (h.0, h.1.0) refl, h.1.1)
fits_row (OneOf ms) (Number m) h = h
fits_row (OneOf ms) (Bytes b) h = h
fits_row (OneOf ms) (Nested ps) h = h
fits_row (OneOf ms) (Elements ps) h = h

pub fits_rows : (rows : List Row) (ps : Parts) → FieldsFit rows ps → Fits table ps rows
unfolding Fits RowFits
fits_rows [] nil h = tt
fits_rows [] (cons p ps) h = absurd h
fits_rows (row ∷ rows) nil h = absurd h
fits_rows (row ∷ rows) (cons p ps) h = let r = fits_row row p h.0 in (r.0, r.1, fits_rows rows ps h.1)

pub fit_message : (s : ℕ) (ps : Parts) → FieldsFit (table s) ps → ValueFits (Message s) (Nested ps)
unfolding ValueFits PartFits
fit_message s ps h = (refl, fits_rows (table s) ps h)

-- elements that fit from an index on
pub FitFrom : {M : Type 0} → (M → Part) → Kind → List M → ℕ → Type 0
FitFrom view k xs i = ElementsFit table (parts_of view (drop i xs)) k

pub fit_next : {M : Type 0} (view : M → Part) (k : Kind) (xs : List M) (i : ℕ) (x : M) → i < length xs → x ≡ get_or xs i
    x
    → ValueFits k (view x) → FitFrom view k xs (i + 1) → FitFrom view k xs i
unfolding FitFrom ValueFits ElementsFit
fit_next view k xs i x h e f g = rw (drop-cons xs i x h, ← e) (f.0, f.1, rw add-one at g)

pub fit_end : {M : Type 0} (view : M → Part) (at : ℕ) (k : Kind) (xs : List M) (i : ℕ) → length xs ≤ i →
    (FitFrom view k xs i → FitFrom view k xs 0) → FieldFits (Repeated at k) (elements_part view xs)
unfolding FitFrom RowFits PartFits ElementsFit
fit_end view at k xs i h f = (refl, f (rw (drop_all i xs h) tt))

pub fit_u32 : (n : ℕ) → n < 2 ^ 32 → ValueFits U32 (Number n)
unfolding ValueFits PartFits
fit_u32 n h = (refl, h)

pub fit_text : {A : Type 0} (s : String A) → ValueFits Text (text_part s)
unfolding ValueFits PartFits
fit_text s = (refl, is_utf8-from_IsUtf8 (string_bytes s) (IsUtf8-string_bytes s))

fit_low : (z : ℤ) → FitsSigned w32 z → enum_number z < 2 ^ 32
fit_low (pos n) h = rw (lt-ltb n (2 ^ 31) h.sfits) (omega (arith, h.sfits))
fit_low (negsuc n) h = rw (lt-ltb n (2 ^ 31) h.sfits) (omega (arith, h.sfits))

pub fit_enum : (z : ℤ) → FitsSigned w32 z → ValueFits Enumeration (Number (enum_number z))
unfolding ValueFits PartFits
fit_enum z h = (refl, fit_low z h)

-- an enum is 0 if and only if its part is the default
pub enum_is_default : (z : ℤ) → FitsSigned w32 z → nat_eq (cast_unsigned w32 z) 0 ≡ (enum_number z == 0)
enum_is_default (pos n) h = rw (lt-ltb n (2 ^ 31) h.sfits) refl
enum_is_default (negsuc n) h =
    let above = ne_eqb (2 ^ 32 - 1 - n) 0 (λ e. omega (arith, h.sfits, e)) in
    let the_same = ne_eqb (2 ^ 32 - suc n) 0 (λ e. omega (arith, h.sfits, e)) in
    rw (lt-ltb n (2 ^ 31) h.sfits) (the_same ∙ sym above)

pub fit_boolean : (b : Bool) → ValueFits Boolean (Number (from_bool b))
unfolding ValueFits PartFits
fit_boolean true = (refl, omega arith)
fit_boolean false = (refl, omega arith)

pub fit_number : (ns : List ℕ) (i n : ℕ) → i < length ns → n ≡ get_or ns i 0 → n < 2 ^ 32 → FitFrom Number U32 ns
    (i + 1) → FitFrom Number U32 ns i
unfolding FitFrom ElementsFit PartFits
fit_number ns i n h e f g = rw (drop-cons ns i 0 h, ← e) (refl, f, rw add-one at g)
