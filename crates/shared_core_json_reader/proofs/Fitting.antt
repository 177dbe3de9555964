-- What is read fits its schema, and is not deeper than it may be.
use Rattle.std.proofs.Common.{◌≡◌, ℕ, zero, suc, ◌-◌, ◌*◌, ◌^◌, ◌<◌, ◌≤◌, List, [], ◌∷◌, map, Bool, true, false, cond}
use Rattle.std.proofs.Common.{not, ◌&&◌, ◌||◌, Option, Some, None, option_map, option_and_then, refl, sym, ap, subst}
use Rattle.std.proofs.Common.{◌∙◌, arith, eqb, ltb, leb}
use Rattle.std.specs.Option.{option_or}
use Rattle.std.specs.Str.{is_utf8, bytes_eq}
use Rattle.std.proofs.Math.Nat.{pos_of_ne-zero}
use Rattle.std.proofs.lemmas.Bool.{ltb-true, leb-true, eqb-false}
use Rattle.std.proofs.lemmas.Str.{is_utf8-from_IsUtf8, IsUtf8-nil}
use Rattle.json.specs.Json.{Json, null, boolean, number, string, array, object, Items, no_items, item, Members}
use Rattle.json.specs.Find.{as_str}
use Rattle.shared_core_wire.specs.Schema.{Kind, Row, U32, U64, Boolean, Enumeration, Text, ByteString, Message}
use Rattle.shared_core_wire.specs.Schema as schema
use Rattle.shared_core_wire.specs.Value.{Part, Parts, Absent, Number, Bytes, Nested, Elements, Member, nil, cons}
use Rattle.shared_core_wire.specs.Value.{default_of}
use Rattle.shared_core_wire.specs.Canonical.{kind_of, part_levels, levels}
use Rattle.shared_core_wire.specs.Fitting.{is_single, has_shape, NumberFits, PartFits, ElementsFit, Fits}
use Rattle.shared_core_wire.proofs.Runs.{and_split, and_join}
use Rattle.shared_core_json.proofs.PlainScalars.{is_scalar, plain_scalars}
use Rattle.shared_core_json.specs.declared.digits.Digits.{Digits}
use Rattle.shared_core_json.specs.declared.digits.Digits.TheVariants.{Unsigned, Signed, ZigZag}
use Rattle.shared_core_json_reader.specs.Rows.{NamedField, NamedRow, Plain, Optional, Repeated, OneOf, named_field}
use Rattle.shared_core_json_reader.specs.Rows.{NumberForm, named_row, named_rows}
use Rattle.shared_core_json_reader.specs.Scalars.{Whole, whole_read, unsigned_below, signed_bits, zigzag_bits}
use Rattle.shared_core_json_reader.specs.Scalars.{bits_read}
use Rattle.shared_core_json_reader.specs.Scalars.{u32_read, u64_read}
use Rattle.shared_core_json_reader.specs.Scalars.{boolean_read, value_named, enum_read, utf8_text, text_read}
use Rattle.shared_core_json_reader.specs.Scalars.{bytes_read}
use Rattle.shared_core_json_reader.specs.Reading.{are_known, given, single_read, field_read, elements_read, list_read}
use Rattle.shared_core_json_reader.specs.Reading.{or_absent, member_read, oneof_read, row_read, rows_read, object_read}
use Rattle.shared_core_json_reader.specs.Reading.{message_read}
use Rattle.shared_core_json_reader.proofs.Agreeing.{plain_row, plain_rows, Knows, RowKnows, RowsKnow, rows_know}
use Rattle.shared_core_json_reader.proofs.FormatRows.{schemas_of, scalars_of}
use Rattle.shared_core_json_reader.specs.Readable.{IsReadable, are_low}
use Rattle.shared_core_json_reader.specs.Rows.{Format}

-- ---- what an option holds

pub some_map : {A B : Type 0} (f : A → B) (o : Option A) (y : B) → option_map f o ≡ Some y → (x : A) × (o ≡ Some x) ×
    (f x ≡ y)
some_map f None y e = absurd cc
some_map f (Some x) y e = (x, refl, cc)

pub some_then : {A B : Type 0} (f : A → Option B) (o : Option A) (y : B) → option_and_then f o ≡ Some y → (x : A) ×
    (o ≡ Some x) × (f x ≡ Some y)
some_then f None y e = absurd cc
some_then f (Some x) y e = (x, refl, e)

pub some_if : {A : Type 0} (b : Bool) (o : Option A) (y : A) → cond b o None ≡ Some y → (b ≡ true) × (o ≡ Some y)
some_if true o y e = (refl, e)
some_if false o y e = absurd cc

-- ---- numbers

unsigned_fits : (limit : ℕ) (w : Whole) (m : ℕ) → unsigned_below limit w ≡ Some m → m < limit
unsigned_fits limit w m e =
    let t = some_if ((not w.negative || eqb w.magnitude 0) && ltb w.magnitude limit) (Some w.magnitude) m e in
    let q : w.magnitude ≡ m = let s : Some w.magnitude ≡ Some m = t.1 in cc in
    omega (arith, ltb-true w.magnitude limit (and_split _ _ t.0).1, q)

signed_fits : (half : ℕ) (w : Whole) (m : ℕ) → 0 < half → signed_bits half w ≡ Some m → m < 2 * half
signed_fits half w m l e = by_sign w.negative e
  where
    by_zero : (b : Bool) → eqb w.magnitude 0 ≡ b → cond b 0 (2 * half - w.magnitude) < 2 * half
    by_zero true z = omega arith
    by_zero false z = omega (arith, pos_of_ne-zero (eqb-false w.magnitude 0 z))

    by_sign : (b : Bool) → cond b (cond (leb w.magnitude half) (Some (cond (eqb w.magnitude 0) 0
        (2 * half - w.magnitude))) None) (cond (ltb w.magnitude half) (Some w.magnitude) None) ≡ Some m → m < 2 * half
    by_sign true h =
        let bits = cond (eqb w.magnitude 0) 0 (2 * half - w.magnitude) in
        let t = some_if (leb w.magnitude half) (Some bits) m h in
        let q : bits ≡ m = let s : Some bits ≡ Some m = t.1 in cc in
        subst (λ (n : ℕ). n < 2 * half) q (by_zero (eqb w.magnitude 0) refl)
    by_sign false h =
        let t = some_if (ltb w.magnitude half) (Some w.magnitude) m h in
        let q : w.magnitude ≡ m = let s : Some w.magnitude ≡ Some m = t.1 in cc in
        omega (arith, ltb-true w.magnitude half t.0, q)

zigzag_fits : (half : ℕ) (w : Whole) (m : ℕ) → 0 < half → zigzag_bits half w ≡ Some m → m < 2 * half
zigzag_fits half w m l e = by_sign w.negative e
  where
    by_sign : (b : Bool) → cond b (cond (leb w.magnitude half) (Some (2 * w.magnitude - 1)) None)
        (cond (ltb w.magnitude half) (Some (2 * w.magnitude)) None) ≡ Some m → m < 2 * half
    by_sign true h =
        let t = some_if (leb w.magnitude half) (Some (2 * w.magnitude - 1)) m h in
        let q : 2 * w.magnitude - 1 ≡ m = let s : Some (2 * w.magnitude - 1) ≡ Some m = t.1 in cc in
        omega (arith, leb-true w.magnitude half t.0, q)
    by_sign false h =
        let t = some_if (ltb w.magnitude half) (Some (2 * w.magnitude)) m h in
        let q : 2 * w.magnitude ≡ m = let s : Some (2 * w.magnitude) ≡ Some m = t.1 in cc in
        omega (arith, ltb-true w.magnitude half t.0, q)

-- a number that is written in either way has as many bits
bits_fit : (d : Digits) (half : ℕ) (j : Json) (m : ℕ) → 0 < half → bits_read d half j ≡ Some m → m < 2 * half
bits_fit Unsigned half j m l e =
    let w = some_then (unsigned_below (2 * half)) (whole_read j) m e in unsigned_fits (2 * half) w.0 m w.2
bits_fit Signed half j m l e =
    let w = some_then (signed_bits half) (whole_read j) m e in signed_fits half w.0 m l w.2
bits_fit ZigZag half j m l e =
    let w = some_then (zigzag_bits half) (whole_read j) m e in zigzag_fits half w.0 m l w.2

boolean_fits : (j : Json) (m : ℕ) → boolean_read j ≡ Some m → m < 2
boolean_fits null m e = absurd cc
boolean_fits (boolean true) m e = let q : 1 ≡ m = cc in omega (arith, q)
boolean_fits (boolean false) m e = let q : 0 ≡ m = cc in omega (arith, q)
boolean_fits (number s) m e = absurd cc
boolean_fits (string s) m e = absurd cc
boolean_fits (array js) m e = absurd cc
boolean_fits (object ms) m e = absurd cc

named_fits : (values : List (List ℕ × ℕ)) (s : List ℕ) (m : ℕ) → are_low values ≡ true → value_named values s ≡ Some m →
    m < 2 ^ 32
named_fits [] s m low e = absurd cc
named_fits (v ∷ vs) s m low e = by_test (λ h. named_fits vs s m (and_split _ _ low).1 h) (bytes_eq s v.0) e
  where
    by_test : (value_named vs s ≡ Some m → m < 2 ^ 32) → (b : Bool) → cond b (Some v.1) (value_named vs s) ≡ Some m → m
        < 2 ^ 32
    by_test later true h = let q : v.1 ≡ m = cc in omega (arith, ltb-true v.1 (2 ^ 32) (and_split _ _ low).0, q)
    by_test later false h = later h

enum_fits : (values : List (List ℕ × ℕ)) (j : Json) (m : ℕ) → are_low values ≡ true → enum_read values j ≡ Some m → m <
    2 ^ 32
enum_fits values j m low e = by_name (option_and_then (value_named values) (as_str j)) refl e
  where
    by_name : (o : Option ℕ) → option_and_then (value_named values) (as_str j) ≡ o → option_or o
        (option_and_then (signed_bits (2 ^ 31)) (whole_read j)) ≡ Some m → m < 2 ^ 32
    by_name None q h =
        let w = some_then (signed_bits (2 ^ 31)) (whole_read j) m h in signed_fits (2 ^ 31) w.0 m (omega arith) w.2
    by_name (Some x) q h = let y : x ≡ m = cc in let w = some_then (value_named values) (as_str j) x q in omega
        (arith, named_fits values w.0 x low w.2, y)

abbrev pub FieldsLow : List NamedField → Type 0
FieldsLow [] = Unit {0}
FieldsLow (f ∷ fs) = (are_low f.form.values ≡ true) × FieldsLow fs

abbrev pub RowLow : NamedRow → Type 0
RowLow (Plain f) = (is_scalar f.kind ≡ true) × (are_low f.form.values ≡ true)
RowLow (Optional f) = are_low f.form.values ≡ true
RowLow (Repeated f) = are_low f.form.values ≡ true
RowLow (OneOf fs) = FieldsLow fs

abbrev pub RowsLow : List NamedRow → Type 0
RowsLow [] = Unit {0}
RowsLow (row ∷ rows) = RowLow row × RowsLow rows

module _ (format : Format) (nested : ℕ → Json → Option Parts) (bound : ℕ)
    (fit : (s : ℕ) (j : Json) (v : Parts) → nested s j ≡ Some v →
    Fits format.table v (format.table s) × (suc (levels v) ≤ bound)) where
  record Single (p : Part) (k : Kind) : Type 0 where
    single : is_single p ≡ true
    fits : PartFits format.table p k
    low : part_levels p ≤ bound

  number_single : (k : Kind) (p : Part) (m : ℕ) → Number m ≡ p → NumberFits k m → Single p k
  unfolding PartFits part_levels
  number_single k p m e h = subst (λ (q : Part). Single q k) e (record { single = refl; fits = h; low = omega arith })

  single_fits : (k : Kind) (form : NumberForm) (j : Json) (p : Part) → are_low form.values ≡ true → single_read
      nested k form j ≡ Some p → Single p k
  unfolding PartFits part_levels
  single_fits U32 form j p low e = let x = some_map Number (u32_read form.digits j) p e in number_single U32 p x.0
      x.2 (bits_fit form.digits (2 ^ 31) j x.0 (omega arith) x.1)
  single_fits U64 form j p low e = let x = some_map Number (u64_read form.digits j) p e in number_single
      U64 p x.0 x.2 (bits_fit form.digits (2 ^ 63) j x.0 (omega arith) x.1)
  single_fits Boolean form j p low e = let x = some_map Number (boolean_read j) p e in number_single Boolean p x.0 x.2
      (boolean_fits j x.0 x.1)
  single_fits Enumeration form j p low e = let x = some_map Number (enum_read form.values j) p e in number_single
      Enumeration p x.0 x.2 (enum_fits form.values j x.0 low x.1)
  single_fits Text form j p low e =
      let x = some_map Bytes (text_read j) p e in
      let y = some_then utf8_text (as_str j) x.0 x.1 in
      let t = some_if (is_utf8 y.0) (Some y.0) x.0 y.2 in
      let q : y.0 ≡ x.0 = let s : Some y.0 ≡ Some x.0 = t.1 in cc in
      subst (λ (r : Part). Single r Text) x.2 (record {
        single = refl;
        fits = subst (λ (b : List ℕ). is_utf8 b ≡ true) q
            t.0;
        low = omega arith;
      })
  single_fits ByteString form j p low e = let x = some_map Bytes (bytes_read j) p e in subst
      (λ (r : Part). Single r ByteString) x.2 (record { single = refl; fits = tt; low = omega arith })
  single_fits (Message s) form j p low e =
      let x = some_map Nested (nested s j) p e in
      let f = fit s j x.0 x.1 in
      subst (λ (r : Part). Single r (Message s)) x.2 (record { single = refl; fits = f.0; low = f.1 })

  -- ---- rows

  record RowFits (row : NamedRow) (p : Part) : Type 0 where
    shape : has_shape (plain_row row) p ≡ true
    fits : PartFits format.table p (kind_of (plain_row row) p)
    low : part_levels p ≤ bound

  elements_fit : (f : NamedField) (js : Items) (ps : Parts) → are_low f.form.values ≡ true
      → elements_read nested f js ≡ Some
      ps → ElementsFit format.table ps f.kind × (levels ps ≤ bound)
  unfolding PartFits part_levels
  elements_fit f no_items ps low e = let q : nil ≡ ps = cc in subst
      (λ (qs : Parts). ElementsFit format.table qs f.kind × (levels qs ≤ bound)) q (tt, omega arith)
  elements_fit f (item j js) ps low e =
      let x = some_then (λ p. option_map (cons p) (elements_read nested f js)) (field_read nested f j) ps e in
      let y = some_map (cons x.0) (elements_read nested f js) ps x.2 in
      let one = single_fits f.kind f.form j x.0 low x.1 in
      let more = elements_fit f js y.0 low y.1 in
      subst (λ (qs : Parts). ElementsFit format.table qs f.kind × (levels qs ≤ bound)) y.2
      ((one.single, one.fits, more.0), omega (arith, one.low, more.1))

  list_fits : (f : NamedField) (j : Json) (p : Part) → are_low f.form.values ≡ true → list_read nested f j ≡ Some p
      → RowFits
      (Repeated f) p
  unfolding PartFits part_levels
  list_fits f null p low e = absurd cc
  list_fits f (boolean b) p low e = absurd cc
  list_fits f (number s) p low e = absurd cc
  list_fits f (string s) p low e = absurd cc
  list_fits f (array js) p low e =
      let x = some_map Elements (elements_read nested f js) p e in
      let g = elements_fit f js x.0 low x.1 in
      subst (λ (q : Part). RowFits (Repeated f) q) x.2 (record { shape = refl; fits = g.0; low = g.1 })
  list_fits f (object ms) p low e = absurd cc

  -- what a field that is not repeated holds, by its row's shape
  plain_fits : (f : NamedField) (p : Part) → Single p f.kind → RowFits (Plain f) p
  plain_fits f p h = record { shape = h.single; fits = h.fits; low = h.low }

  optional_shape : (n : ℕ) (k : Kind) (p : Part) → is_single p ≡ true → has_shape (schema.Optional n k) p ≡ true
  optional_shape n k Absent h = refl
  optional_shape n k (Number m) h = h
  optional_shape n k (Bytes b) h = h
  optional_shape n k (Nested ps) h = h
  optional_shape n k (Elements ps) h = h
  optional_shape n k (Member m p) h = h

  optional_fits : (f : NamedField) (p : Part) → Single p f.kind → RowFits (Optional f) p
  optional_fits f p h = record { shape = optional_shape f.number f.kind p h.single; fits = h.fits; low = h.low }

  default_fits : (k : Kind) → is_scalar k ≡ true → Single (default_of k) k
  unfolding PartFits part_levels
  default_fits U32 h = record { single = refl; fits = omega arith; low = omega arith }
  default_fits U64 h = record { single = refl; fits = omega arith; low = omega arith }
  default_fits Boolean h = record { single = refl; fits = omega arith; low = omega arith }
  default_fits Enumeration h = record { single = refl; fits = omega arith; low = omega arith }
  default_fits Text h = record { single = refl; fits = is_utf8-from_IsUtf8 [] IsUtf8-nil; low = omega arith }
  default_fits ByteString h = record { single = refl; fits = tt; low = omega arith }
  default_fits (Message s) h = absurd cc

  given_fits : (row : NamedRow) (read : Json → Option Part) (empty : Part) (o : Option (Option Json)) (p : Part) →
      RowFits row empty → ((j : Json) (q : Part) → read j ≡ Some q → RowFits row q)
      → option_and_then (or_absent empty read) o ≡ Some p → RowFits row p
  given_fits row read empty None p h g e = absurd cc
  given_fits row read empty (Some None) p h g e = let q : empty ≡ p = cc in subst (RowFits row) q h
  given_fits row read empty (Some (Some j)) p h g e = g j p e

  -- a oneof that holds a member keeps it
  member_stays : (ms : Members) (n : ℕ) (p q : Part) (fs : List NamedField) → oneof_read nested ms (Member n p) fs ≡
      Some q → Member n p ≡ q
  member_stays ms n p q [] e = cc
  member_stays ms n p q (f ∷ fs) e = by_given (given f ms) (λ h. member_stays ms n p q fs h) e
    where
      by_given : (o : Option (Option Json)) → (oneof_read nested ms (Member n p) fs ≡ Some q → Member n p ≡ q) →
          option_and_then (λ o. option_and_then (λ now. oneof_read nested ms now fs)
          (or_absent (Member n p) (member_read nested (Member n p) f) o)) o ≡ Some q → Member n p ≡ q
      by_given None later h = absurd cc
      by_given (Some None) later h = later h
      by_given (Some (Some j)) later h = absurd cc

  record HeldFits (members : List (ℕ × Kind)) (p : Part) : Type 0 where
    shape : has_shape (schema.OneOf members) p ≡ true
    fits : PartFits format.table p (kind_of (schema.OneOf members) p)
    low : part_levels p ≤ bound

  oneof_fits : (ms : Members) (members : List (ℕ × Kind)) (fs : List NamedField) (q : Part) → FieldsLow fs → Knows
      members fs → oneof_read nested ms Absent fs ≡ Some q → HeldFits members q
  unfolding PartFits part_levels
  oneof_fits ms members [] q low k e = let h : Absent ≡ q = cc in subst (HeldFits members) h
      (record { shape = refl; fits = tt; low = omega arith })
  oneof_fits ms members (f ∷ fs) q low k e = by_given (given f ms) (λ h. oneof_fits ms members fs q low.1 k.2 h) e
    where
      by_given : (o : Option (Option Json)) → (oneof_read nested ms Absent fs ≡ Some q → HeldFits members q)
          → option_and_then (λ o. option_and_then (λ now. oneof_read nested ms now fs)
          (or_absent Absent (member_read nested Absent f) o)) o ≡ Some q → HeldFits members q
      by_given None later h = absurd cc
      by_given (Some None) later h = later h
      by_given (Some (Some j)) later h =
          let x = some_then (λ now. oneof_read nested ms now fs) (option_map (Member f.number) (field_read nested f j))
          q h in
          let y = some_map (Member f.number) (field_read nested f j) x.0 x.1 in
          let one = single_fits f.kind f.form j y.0 low.0 y.1 in
          let stays = member_stays ms f.number y.0 q fs (ap (λ (now : Part). oneof_read nested ms now fs) y.2 ∙ x.2) in
          subst (HeldFits members) stays (record {
            shape = and_join _ _ k.1 one.single;
            fits = subst (PartFits format.table y.0) (sym k.0) one.fits;
            low = one.low;
          })

  row_fits : (ms : Members) (row : NamedRow) (p : Part) → RowLow row → RowKnows row → row_read nested ms row ≡ Some p →
      RowFits row p
  unfolding PartFits part_levels
  row_fits ms (Plain f) p low k e =
      given_fits (Plain f) (field_read nested f) (default_of f.kind) (given f ms) p
      (plain_fits f (default_of f.kind) (default_fits f.kind low.0))
      (λ j q h. plain_fits f q (single_fits f.kind f.form j q low.1 h)) e
  row_fits ms (Optional f) p low k e =
      given_fits (Optional f) (field_read nested f) Absent (given f ms) p
      (record { shape = refl; fits = tt; low = omega arith })
      (λ j q h. optional_fits f q (single_fits f.kind f.form j q low h)) e
  row_fits ms (Repeated f) p low k e =
      given_fits (Repeated f) (list_read nested f) (Elements nil) (given f ms) p
      (record { shape = refl; fits = tt; low = omega arith }) (λ j q h. list_fits f j q low h) e
  row_fits ms (OneOf fs) p low k e = let h = oneof_fits ms (map (λ f. (f.number, f.kind)) fs) fs p low k e in record
      { shape = h.shape; fits = h.fits; low = h.low }

  rows_fit : (ms : Members) (rows : List NamedRow) (ps : Parts) → RowsLow rows → RowsKnow rows → rows_read nested ms
      rows ≡ Some ps → Fits format.table ps (map plain_row rows) × (levels ps ≤ bound)
  unfolding PartFits part_levels
  rows_fit ms [] ps low k e = let q : nil ≡ ps = cc in subst
      (λ (qs : Parts). Fits format.table qs [] × (levels qs ≤ bound)) q
      (tt, omega arith)
  rows_fit ms (row ∷ rows) ps low k e =
      let x = some_then (λ p. option_map (cons p) (rows_read nested ms rows)) (row_read nested ms row) ps e in
      let y = some_map (cons x.0) (rows_read nested ms rows) ps x.2 in
      let one = row_fits ms row x.0 low.0 k.0 x.1 in
      let more = rows_fit ms rows y.0 low.1 k.1 y.1 in
      subst (λ (qs : Parts). Fits format.table qs (map plain_row (row ∷ rows)) × (levels qs ≤ bound)) y.2
      ((one.shape, one.fits, more.0), omega (arith, one.low, more.1))

  object_fits : (rows : List NamedRow) (j : Json) (ps : Parts) → RowsLow rows → RowsKnow rows → object_read nested rows
      j ≡ Some ps → Fits format.table ps (map plain_row rows) × (levels ps ≤ bound)
  object_fits rows null ps low k e = absurd cc
  object_fits rows (boolean b) ps low k e = absurd cc
  object_fits rows (number s) ps low k e = absurd cc
  object_fits rows (string s) ps low k e = absurd cc
  object_fits rows (array js) ps low k e = absurd cc
  object_fits rows (object ms) ps low k e = rows_fit ms rows ps low k
      (some_if (are_known rows ms) (rows_read nested ms rows) ps e).1

-- ---- the rows of the schemas

low_members : (format : Format) (law : IsReadable format) (s : ℕ) (members : List (ℕ × Kind))
    → FieldsLow (map (λ m. named_field format s m.0 m.1) members)
low_members format law s [] = tt
low_members format law s (m ∷ members) = (law.low s m.0, low_members format law s members)

rows_low : (format : Format) (law : IsReadable format) (s : ℕ) (rows : List Row) → plain_scalars rows ≡ true
    → RowsLow (map (named_row format s) rows)
unfolding plain_scalars
rows_low format law s [] h = tt
rows_low format law s (schema.Plain n k ∷ rows) h = let e = and_split _ _ h in
    ((e.0, law.low s n), rows_low format law s rows e.1)
rows_low format law s (schema.Optional n k ∷ rows) h = (law.low s n, rows_low format law s rows h)
rows_low format law s (schema.Repeated n k ∷ rows) h = (law.low s n, rows_low format law s rows h)
rows_low format law s (schema.OneOf members ∷ rows) h = (low_members format law s members, rows_low format law s rows h)

-- ---- messages

pub message_fits : (format : Format) (law : IsReadable format) (n s : ℕ) (j : Json) (v : Parts)
    → message_read format n s j ≡ Some v → Fits format.table v (format.table s) ×
    (suc (levels v) ≤ n)
unfolding message_read named_rows
message_fits format law zero s j v e = absurd cc
message_fits format law (suc n) s j v e =
    let h : Fits format.table v (map plain_row (named_rows format s))
    × (levels v ≤ n) = object_fits format (message_read format n) n
    (message_fits format law n) (named_rows format s) j v
    (rows_low format law s (format.table s) (scalars_of format law s))
    (rows_know format s (format.table s) (and_split _ _ (schemas_of format law s)).1) e in (
      subst (λ (rows : List Row). Fits format.table v rows) (plain_rows format s (format.table s)) h.0,
      omega
          (arith, h.1),
    )
