-- The numbers of fields of numbers, and the parts that they give.
use Rattle.std.proofs.Common.{◌≡◌, ℕ, ◌+◌, ◌-◌, ◌%◌, ◌^◌, ◌<◌, List, [], ◌∷◌, map, Bool, true, false, cond}
use Rattle.std.proofs.Common.{◌||◌, refl, sym, ap, ◌∙◌, arith, eqb, ltb, inl, inr}
use Rattle.std.proofs.Common.{eq-eqb}
use Rattle.std.proofs.lemmas.Bool.{cases_lt, ltb-true, lt-ltb, le-ltb}
use Rattle.std.specs.List.{list_all}
use Rattle.shared_core_wire.specs.Grammar.{Varint}
use Rattle.shared_core_wire.specs.Schema.{Kind, U32, U64, Boolean, Enumeration, Text, ByteString, Message}
use Rattle.shared_core_wire.specs.Value.{Part, Number, cons}
use Rattle.shared_core_wire.specs.Acceptance.{NestedAcceptance, accepts_number}
use Rattle.shared_core_wire.specs.Canonical.{written_number}
use Rattle.shared_core_wire.specs.Overlay.{number_part, number_parts}
use Rattle.shared_core_codec.specs.Canonicity.{is_written_number, is_written_element}
use Rattle.shared_core_wire.proofs.Runs.{and_join}
use Rattle.shared_core_codec.specs.FieldParts.{parts_of}
use Rattle.shared_core_fields.specs.Fields.{record_part}
use Rattle.shared_core_fields.specs.NumberValues.{number_value}

of_or : (a b : Bool) → a || b ≡ true → a ≡ false → b ≡ true
of_or true b h f = absurd cc
of_or false b h f = h

sign_extended : (m : ℕ) → ltb m 2147483648 || ltb 18446744071562067967 m ≡ true → m < 2 ^ 64 → written_number
    Enumeration (m % 2 ^ 32) ≡ m
sign_extended m h l =
    elim (cases_lt m 2147483648) [
      | inl low ↦
          let same : m % 2 ^ 32 ≡ m = omega (arith, low) in
          let small : ltb (m % 2 ^ 32) (2 ^ 31) ≡ true = lt-ltb _ _ (omega (arith, same, low)) in
          rw small same
      | inr high ↦
          let great = ltb-true _ _ (of_or (ltb m 2147483648) (ltb 18446744071562067967 m) h (le-ltb _ _ high)) in
          let rest : m % 2 ^ 32 + (2 ^ 64 - 2 ^ 32) ≡ m = omega (arith, great, l) in
          let big : ltb (m % 2 ^ 32) (2 ^ 31) ≡ false = le-ltb _ _ (omega (arith, rest, great)) in
          rw big rest
    ]

bool_same : (m : ℕ) → m < 2 → cond (eqb m 0) 0 1 ≡ m
bool_same m h =
    elim (cases_lt m 1) [
      | inl low ↦ let none : m ≡ 0 = omega (arith, low) in rw none refl
      | inr high ↦ let some : m ≡ 1 = omega (arith, high, h) in rw some refl
    ]

-- the part that a written number gives, which is written as that number
pub written_part : (k : Kind) (m : ℕ) → is_written_number k m ≡ true → m < 2 ^ 64 → (j : ℕ) × (number_part k m ≡ Number
    j) × (written_number k j ≡ m)
written_part U32 m h l = let low = ltb-true _ _ h in (m % 2 ^ 32, refl, omega (arith, low))
written_part U64 m h l = (m, refl, refl)
written_part Boolean m h l = (cond (eqb m 0) 0 1, refl, bool_same m (ltb-true _ _ h))
written_part Enumeration m h l = (m % 2 ^ 32, refl, sign_extended m h l)
written_part Text m h l = absurd cc
written_part ByteString m h l = absurd cc
written_part (Message s) m h l = absurd cc

number_held : (k : Kind) (m : ℕ) → accepts_number k ≡ true → number_part k m ≡ Number (number_value k m)
number_held U32 m a = refl
number_held U64 m a = refl
number_held Boolean m a = refl
number_held Enumeration m a = refl
number_held Text m a = absurd cc
number_held ByteString m a = absurd cc
number_held (Message s) m a = absurd cc

-- the parts of numbers are those that they hold
pub numbers_held : (k : Kind) (ns : List ℕ) → accepts_number k ≡ true → number_parts k ns ≡ parts_of Number
    (map (number_value k) ns)
numbers_held k [] a = refl
numbers_held k (n ∷ ns) a = ap (λ (p : Part). cons p (number_parts k ns)) (number_held k n a) ∙ ap
    (cons (Number (number_value k n))) (numbers_held k ns a)

value_again : (k : Kind) (n : ℕ) → number_value k (number_value k n) ≡ number_value k n
value_again U32 n = omega arith
value_again U64 n = refl
value_again Boolean n = by_test (eqb n 0)
  where
    by_test : (b : Bool) → ◌≡◌ {A = ℕ} (cond (eqb (cond b 0 1) 0) 0 1) (cond b 0 1)
    by_test true = refl
    by_test false = refl
value_again Enumeration n = omega arith
value_again Text n = refl
value_again ByteString n = refl
value_again (Message s) n = refl

-- Whether a number is one that a value of the kind holds.
abbrev pub is_held : Kind → ℕ → Bool
is_held k m = eqb (number_value k m) m

pub all_held : (k : Kind) (ns : List ℕ) → list_all (is_held k) (map (number_value k) ns) ≡ true
all_held k [] = refl
all_held k (n ∷ ns) = and_join _ _ (eq-eqb _ _ (value_again k n)) (all_held k ns)

-- a record of a number gives it
pub number_field_part : (k : Kind) (repeated : Bool) (m : ℕ) → record_part (k, repeated) (Varint m) ≡ number_part k m
number_field_part U32 repeated m = refl
number_field_part U64 repeated m = refl
number_field_part Boolean repeated m = refl
number_field_part Enumeration repeated m = refl
number_field_part Text repeated m = refl
number_field_part ByteString repeated m = refl
number_field_part (Message s) repeated m = refl

-- no element of a list is written as a number of its own
pub no_element : (nested : NestedAcceptance) (k : Kind) (m : ℕ) → is_written_element nested k (Varint m) ≡ false
no_element nested U32 m = refl
no_element nested U64 m = refl
no_element nested Boolean m = refl
no_element nested Enumeration m = refl
no_element nested Text m = refl
no_element nested ByteString m = refl
no_element nested (Message s) m = refl
