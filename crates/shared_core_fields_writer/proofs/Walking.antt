-- What entries give, by the first of them.
use Rattle.std.proofs.Common.{◌≡◌, ◌≢◌, length, ℕ, zero, suc, ◌<◌, List, [], ◌∷◌, ◌++◌, Bool, true, false}
use Rattle.std.proofs.Common.{◌&&◌, Option, Some, None, Ok, Err, refl, sym, ap, append_assoc, eqb}
use Rattle.std.proofs.Common.{arith, inl, inr}
use Rattle.std.proofs.lemmas.Bool.{lt-ltb, le-ltb, eqb-true, eqb-false, cases_lt}
use Rattle.std.specs.Str.{is_utf8}
use Rattle.shared_core_wire.proofs.Runs.{and_split}
use Rattle.shared_core_wire.specs.Schema.{Kind, Row, Text, ByteString}
use Rattle.shared_core_codec.specs.Table.{table}
use Rattle.shared_core_codec.specs.RowEncoding.{length_record}
use Rattle.shared_core_codec.specs.Canonicity.{Next, is_packed}
use Rattle.shared_core_fields.specs.declared.table.FieldEntry.{FieldEntry}
use Rattle.shared_core_fields_writer.specs.declared.error.Reason.{Reason}
use Rattle.shared_core_fields_writer.specs.declared.error.Reason.TheVariants.{WrongLevel, TooDeep}
use Rattle.shared_core_fields_writer.specs.Given.{Given, Number, Content, Opens, content, given, field_next}
use Rattle.shared_core_wire.specs.WrittenRecords.{number_record, content_record}
use Rattle.shared_core_fields_writer.specs.Walk.{Walked, onto, nested_onto}
use Rattle.shared_core_fields_writer.specs.Walk.{More}
use Rattle.shared_core_fields_writer.specs.Walk.{Nothing, Within, Numbers, run_numbers, varints, rest_of, walk}

-- ---- bytes before others

pub onto_more : (a b : List ℕ) (w : Walked) → onto a (onto b w) ≡ onto (a ++ b) w
onto_more a b (Ok more) = ap (λ (xs : List ℕ). Ok xs) (sym (append_assoc a b more))
onto_more a b (Err x) = refl

-- ---- the first entry

pub stops : (bytes : List ℕ) (s : ℕ) (left : List Row) (last : Option ℕ) (more : More) (level depth : ℕ) (e :
    FieldEntry)
    (es : List FieldEntry) → e.level < level → walk bytes s left last more level depth (e ∷ es) ≡ Ok []
unfolding walk
stops bytes s left last more level depth e es h = rw (lt-ltb _ _ h) refl

pub too_deep : (bytes : List ℕ) (s : ℕ) (left : List Row) (last : Option ℕ) (level depth : ℕ) (e : FieldEntry)
    (es : List FieldEntry) → level < e.level → walk bytes s left last Nothing level depth (e ∷ es) ≡ Err
    (WrongLevel, length (e ∷ es))
unfolding walk
too_deep bytes s left last level depth e es h = rw (le-ltb e.level level (omega (arith, h)), lt-ltb level e.level h)
    refl

module _ (bytes : List ℕ) (s : ℕ) (left : List Row) (last : Option ℕ) (level depth : ℕ) (e : FieldEntry)
    (es : List FieldEntry) (h : e.level ≡ level) where
  pub no_field : (r : Reason) → field_next (table s) left last e.number ≡ Err r → walk bytes s left last Nothing level
      depth
      (e ∷ es) ≡ Err (r, length (e ∷ es))
  unfolding walk
  no_field r f = rw (le-ltb e.level level (omega (arith, h)), le-ltb level e.level (omega (arith, h)), f) refl

  pub no_value : (next : Next) (r : Reason) → field_next (table s) left last e.number ≡ Ok next → given bytes
      next.field.0 e ≡ Err r → walk bytes s left last Nothing level depth (e ∷ es) ≡ Err (r, length (e ∷ es))
  unfolding walk
  no_value next r f g =
      rw (le-ltb e.level level (omega (arith, h)), le-ltb level e.level (omega (arith, h)), f, g) refl

  pub of_number : (next : Next) (value : ℕ) → field_next (table s) left last e.number ≡ Ok next → given bytes
      next.field.0
      e ≡ Ok (Number value) → is_packed next.field ≡ false
      → walk bytes s left last Nothing level depth (e ∷ es) ≡ onto (number_record next.is_plain e.number value)
      (walk bytes s next.rows (Some e.number) Nothing level depth es)
  unfolding walk
  of_number next value f g p =
      rw (le-ltb e.level level (omega (arith, h)), le-ltb level e.level (omega (arith, h)), f, g, p) refl

  pub of_run : (next : Next) (value : ℕ) → field_next (table s) left last e.number ≡ Ok next → given bytes next.field.0
      e ≡
      Ok (Number value) → is_packed next.field ≡ true
      → walk bytes s left last Nothing level depth (e ∷ es) ≡ onto
      (length_record e.number (varints (value ∷ run_numbers level e.number es)))
      (walk bytes s next.rows (Some e.number) (Numbers next.field.0) level depth es)
  unfolding walk
  of_run next value f g p =
      rw (le-ltb e.level level (omega (arith, h)), le-ltb level e.level (omega (arith, h)), f, g, p) refl

  pub of_content : (next : Next) (content : List ℕ) → field_next (table s) left last e.number ≡ Ok next → given bytes
      next.field.0 e ≡ Ok (Content content)
      → walk bytes s left last Nothing level depth (e ∷ es) ≡ onto (content_record next.is_plain e.number content)
      (walk bytes s next.rows (Some e.number) Nothing level depth es)
  unfolding walk
  of_content next content f g =
      rw (le-ltb e.level level (omega (arith, h)), le-ltb level e.level (omega (arith, h)), f, g) refl

pub of_last : (bytes : List ℕ) (s : ℕ) (left : List Row) (last : Option ℕ) (level depth : ℕ) (e : FieldEntry)
    (es : List FieldEntry) → e.level ≡ level → (next : Next) (t : ℕ) → depth ≡ 0 → field_next (table s) left last
    e.number ≡
    Ok next → given bytes next.field.0 e ≡ Ok (Opens t)
    → walk bytes s left last Nothing level depth (e ∷ es) ≡ Err (TooDeep, length (e ∷ es))
unfolding walk
of_last bytes s left last level zero e es h next t d f g =
    rw (le-ltb e.level level (omega (arith, h)), le-ltb level e.level (omega (arith, h)), f, g) refl
of_last bytes s left last level (suc depth) e es h next t d f g = absurd (omega (arith, d))

pub of_message : (bytes : List ℕ) (s : ℕ) (left : List Row) (last : Option ℕ) (level depth : ℕ) (e : FieldEntry)
    (es : List FieldEntry) → e.level ≡ level → (next : Next) (t : ℕ) → field_next (table s) left last e.number ≡ Ok next
    →
    given bytes next.field.0 e ≡ Ok (Opens t)
    → walk bytes s left last Nothing level (suc depth) (e ∷ es) ≡ nested_onto e.number
    (walk bytes t (table t) None Nothing (suc level) depth es)
    (walk bytes s next.rows (Some e.number) Within level (suc depth) es)
unfolding walk
of_message bytes s left last level depth e es h next t f g =
    rw (le-ltb e.level level (omega (arith, h)), le-ltb level e.level (omega (arith, h)), f, g) refl

-- ---- a text and bytes

pub given_text : (bytes b : List ℕ) (e : FieldEntry) → e.kind ≡ 5 → content bytes e ≡ Ok b → is_utf8 b ≡ true → given
    bytes Text e ≡ Ok (Content b)
given_text bytes b e k h t = rw (k, h, t) refl

pub given_bytes : (bytes b : List ℕ) (e : FieldEntry) → e.kind ≡ 6 → content bytes e ≡ Ok b → given bytes ByteString e ≡
    Ok (Content b)
given_bytes bytes b e k h = rw (k, h) refl

-- ---- the entries after the first one

-- deeper entries are within the last field
pub past_within : (bytes : List ℕ) (s : ℕ) (left : List Row) (last : Option ℕ) (level depth : ℕ) (es : List FieldEntry)
    →
    walk bytes s left last Within level depth es ≡ walk bytes s left last Nothing level depth (rest_of (suc level) es)
unfolding walk
past_within bytes s left last level depth [] = refl
past_within bytes s left last level depth (e ∷ es) =
    elim (cases_lt level e.level) [
      | inl deeper ↦
          rw (
            le-ltb e.level level (omega (arith, deeper)),
            lt-ltb _ _ deeper,
            le-ltb e.level (suc level)
                (omega (arith, deeper)),
          ) (past_within bytes s left last level depth es)
      | inr other ↦
          rw (lt-ltb e.level (suc level) (omega (arith, other)), le-ltb level e.level (omega (arith, other))) refl
    ]

-- ---- the numbers of a run

module _ (bytes : List ℕ) (s : ℕ) (left : List Row) (n level depth : ℕ) (kind : Kind) (e : FieldEntry) (es : List
    FieldEntry) where
  pub past_number : (g : Given) → (eqb e.level level && eqb e.number n) ≡ true → given bytes kind e ≡ Ok g → walk bytes
      s
      left
      (Some n) (Numbers kind) level depth (e ∷ es) ≡ walk bytes s left (Some n) (Numbers kind) level depth es
  unfolding walk
  past_number g t v =
      let k = and_split _ _ t in
      let h : e.level ≡ level = eqb-true _ _ k.0 in
      rw (le-ltb e.level level (omega (arith, h)), le-ltb level e.level (omega (arith, h)), k.1, v) refl

  pub no_number : (r : Reason) → (eqb e.level level && eqb e.number n) ≡ true → given bytes kind e ≡ Err r → walk bytes
      s
      left
      (Some n) (Numbers kind) level depth (e ∷ es) ≡ Err (r, length (e ∷ es))
  unfolding walk
  no_number r t v =
      let k = and_split _ _ t in
      let h : e.level ≡ level = eqb-true _ _ k.0 in
      rw (le-ltb e.level level (omega (arith, h)), le-ltb level e.level (omega (arith, h)), k.1, v) refl

  other_level : e.level ≢ level → walk bytes s left (Some n) (Numbers kind) level depth (e ∷ es) ≡ walk bytes s left
      (Some n)
      Nothing level depth (e ∷ es)
  unfolding walk
  other_level k =
      elim (cases_lt level e.level) [
        | inl deeper ↦ rw (le-ltb e.level level (omega (arith, deeper)), lt-ltb level e.level deeper) refl
        | inr other ↦ rw (lt-ltb e.level level (omega (arith, other, k))) refl
      ]

  other_number : eqb e.number n ≡ false → walk bytes s left (Some n) (Numbers kind) level depth (e ∷ es) ≡ walk bytes s
      left
      (Some n)
      Nothing level depth (e ∷ es)
  unfolding walk
  other_number k = rw k refl

  pub after_numbers : (eqb e.level level && eqb e.number n) ≡ false → walk bytes s left (Some n) (Numbers kind) level
      depth (e
      ∷ es) ≡
      walk bytes s left (Some n) Nothing level depth (e ∷ es)
  after_numbers t = by_level (eqb e.level level) refl t
    where
      by_level : (b : Bool) → eqb e.level level ≡ b → (b && eqb e.number n) ≡ false → walk bytes s left (Some n)
          (Numbers kind)
          level
          depth (e ∷ es) ≡ walk bytes s left (Some n) Nothing level depth (e ∷ es)
      by_level true f g = other_number g
      by_level false f g = other_level (eqb-false _ _ f)

pub no_numbers : (bytes : List ℕ) (s : ℕ) (left : List Row) (n level depth : ℕ) (kind : Kind) → walk bytes s left (Some
    n) (Numbers kind)
    level
    depth [] ≡ walk bytes s left (Some n) Nothing level depth []
unfolding walk
no_numbers bytes s left n level depth kind = refl
