-- Rules by which a test on fields decides whether their parts are equal; the search for the equality law of a record
-- uses them. They are in specs, since a law of an impl may cite only the specs of its own crate. The parts of an enum
-- are an injection of all integers, those out of its range too, since in a law an integer has no range.
use Rattle.std.specs.Prelude.{ℕ, ℤ, pos, negsuc, ◌≡◌, ◌+◌, ◌-◌, ◌*◌, ◌^◌, ◌<◌, ◌≤◌, Bool, true, false, ◌&&◌, List, []}
use Rattle.std.specs.Prelude.{◌∷◌, Option, Some, None, String, string_bytes, string_eq, refl}
use Rattle.std.specs.Cmp.{IsEquivalence, IsPartialEquivalence, partial_equiv_from_equiv, on_equiv}
use Rattle.std.specs.Option.{option_eq}
use Rattle.std.specs.Ordering.{int_eq, on}
use Rattle.std.proofs.Common.{ap, sym, eqb, arith, inl, inr}
use Rattle.std.proofs.lemmas.Bool.{eqb-true, eqb-false, eq-eqb, lt-ltb, le-ltb, cases_lt}
use Rattle.std.proofs.lemmas.Bool.Decides.{Decides-int_eq}
use Rattle.std.specs.Bool.{beq}
use lib.Pointwise.{pointwise, bytes_decides}
use Rattle.shared_core_wire.specs.Value.{Part, Parts, Absent, Number, Bytes, Nested, Elements, Member, nil, cons}
use Rattle.shared_core_codec.specs.FieldParts.{boolean_part, enum_number, enum_part, option_part, parts_of}
use Rattle.shared_core_codec.specs.FieldParts.{elements_part}
use Rattle.shared_core_codec.specs.Equality.{DecidesEquality, is_present, part_equal, parts_equal}

-- Numbers.
pub equal_numbers : (m n : ℕ) → DecidesEquality (eqb m n) (Number m) (Number n)
equal_numbers m n = record { sound = λ h. ap Number (eqb-true m n h); complete = λ e. eq-eqb m n (cc) }

-- Bools.
pub equal_booleans : (a b : Bool) → DecidesEquality (beq a b) (boolean_part a) (boolean_part b)
equal_booleans true true = record { sound = λ h. refl; complete = λ e. refl }
equal_booleans true false = record { sound = λ h. cc; complete = λ e. cc }
equal_booleans false true = record { sound = λ h. cc; complete = λ e. cc }
equal_booleans false false = record { sound = λ h. refl; complete = λ e. refl }

-- The number of an i32 from 0 on is the i32.
enum_low : (n : ℕ) → n < 2 ^ 31 → enum_number (pos n) ≡ n
enum_low n h = rw (lt-ltb n (2 ^ 31) h) refl

-- Numbers past the greatest i32 are represented by numbers past 2 ^ 32.
enum_high : (n : ℕ) → 2 ^ 31 ≤ n → enum_number (pos n) ≡ 2 * n + 2 ^ 32
enum_high n h = rw (le-ltb n (2 ^ 31) h) refl

-- The number of a negative i32 is its low 32 bits.
enum_minus : (n : ℕ) → n < 2 ^ 31 → enum_number (negsuc n) ≡ 2 ^ 32 - 1 - n
enum_minus n h = rw (lt-ltb n (2 ^ 31) h) refl

-- Numbers below the least i32 are represented by their low 32 bits in the same way.
enum_below : (n : ℕ) → 2 ^ 31 ≤ n → enum_number (negsuc n) ≡ 2 * n + 1 + 2 ^ 32
enum_below n h = rw (le-ltb n (2 ^ 31) h) refl

-- No two integers are represented by the same number.
enum_one : (y z : ℤ) → enum_number y ≡ enum_number z → y ≡ z
enum_one (pos m) (pos n) e = ap pos (elim (cases_lt m (2 ^ 31)) [
  | inl h ↦ elim (cases_lt n (2 ^ 31)) [
    | inl k ↦ omega (arith, e, enum_low m h, enum_low n k)
    | inr k ↦ omega
        (arith, e, enum_low m h, enum_high n k)
  ]
  | inr h ↦ elim (cases_lt n (2 ^ 31)) [
    | inl k ↦ omega (arith, e, enum_high m h, enum_low n k)
    | inr k ↦ omega
        (arith, e, enum_high m h, enum_high n k)
  ]
])
enum_one (negsuc m) (negsuc n) e = ap negsuc (elim (cases_lt m (2 ^ 31)) [
  | inl h ↦ elim (cases_lt n (2 ^ 31)) [
    | inl k ↦ omega (arith, e, enum_minus m h, enum_minus n k)
    | inr k ↦ omega
        (arith, e, enum_minus m h, enum_below n k)
  ]
  | inr h ↦ elim (cases_lt n (2 ^ 31)) [
    | inl k ↦ omega (arith, e, enum_below m h, enum_minus n k)
    | inr k ↦ omega
        (arith, e, enum_below m h, enum_below n k)
  ]
])
enum_one (pos m) (negsuc n) e = absurd (elim (cases_lt m (2 ^ 31)) [
  | inl h ↦ elim (cases_lt n (2 ^ 31)) [
    | inl k ↦ omega (arith, e, enum_low m h, enum_minus n k)
    | inr k ↦ omega
        (arith, e, enum_low m h, enum_below n k)
  ]
  | inr h ↦ elim (cases_lt n (2 ^ 31)) [
    | inl k ↦ omega (arith, e, enum_high m h, enum_minus n k)
    | inr k ↦ omega
        (arith, e, enum_high m h, enum_below n k)
  ]
])
enum_one (negsuc m) (pos n) e = absurd (elim (cases_lt m (2 ^ 31)) [
  | inl h ↦ elim (cases_lt n (2 ^ 31)) [
    | inl k ↦ omega (arith, e, enum_minus m h, enum_low n k)
    | inr k ↦ omega
        (arith, e, enum_minus m h, enum_high n k)
  ]
  | inr h ↦ elim (cases_lt n (2 ^ 31)) [
    | inl k ↦ omega (arith, e, enum_below m h, enum_low n k)
    | inr k ↦ omega
        (arith, e, enum_below m h, enum_high n k)
  ]
])

-- Enums.
pub equal_enums : (y z : ℤ) → DecidesEquality (int_eq y z) (enum_part y) (enum_part z)
equal_enums y z = record {
  sound = λ h. ap enum_part ((Decides-int_eq y z).0 h);
  complete = λ e. (Decides-int_eq y z).1
      (enum_one y z (cc));
}

-- Bytes.
pub equal_bytes : (a b : List ℕ) → DecidesEquality (pointwise eqb a b) (Bytes a) (Bytes b)
equal_bytes a b = record { sound = λ h. ap Bytes ((bytes_decides a b).0 h); complete = λ e. (bytes_decides a b).1 (cc) }

-- Texts.
pub equal_texts : {A : Type 0} (a b : String A) → DecidesEquality (string_eq a b) (Bytes (string_bytes a))
    (Bytes (string_bytes b))
equal_texts a b = equal_bytes (string_bytes a) (string_bytes b)

-- If two tests both hold, each holds.
pub both_of : (s t : Bool) → (s && t) ≡ true → (s ≡ true) × (t ≡ true)
both_of true t h = (refl, h)
both_of false t h = cc

-- If each of two tests holds, both hold.
pub both_true : (s t : Bool) → s ≡ true → t ≡ true → (s && t) ≡ true
both_true s t h k = rw (h, k) refl

-- A field, and those after it.
pub equal_fields : (s t : Bool) (a b : Part) (ps qs : Parts) → DecidesEquality s a b → DecidesEquality t ps qs →
    DecidesEquality (s && t) (cons a ps) (cons b qs)
equal_fields s t a b ps qs p q = record {
  sound = λ h. let k = both_of s t h in let e : a ≡ b = p.sound k.0 in let f : ps ≡ qs = q.sound k.1 in cc;
  complete = λ e. both_true s t (p.complete (cc)) (q.complete (cc));
}

-- The last field.
pub equal_last : (s : Bool) (a b : Part) → DecidesEquality s a b → DecidesEquality s (cons a nil) (cons b nil)
equal_last s a b p = record { sound = λ h. ap (λ t. cons t nil) (p.sound h); complete = λ e. p.complete (cc) }

-- No fields.
pub equal_nil : DecidesEquality true nil nil
equal_nil = record { sound = λ h. refl; complete = λ e. refl }

-- Messages.
pub equal_messages : (s : Bool) (ps qs : Parts) → DecidesEquality s ps qs → DecidesEquality s (Nested ps) (Nested qs)
equal_messages s ps qs p = record { sound = λ h. ap Nested (p.sound h); complete = λ e. p.complete (cc) }

-- The same member of a oneof.
pub equal_members : (s : Bool) (n : ℕ) (a b : Part) → DecidesEquality s a b → DecidesEquality s (Member n a)
    (Member n b)
equal_members s n a b p = record { sound = λ h. ap (Member n) (p.sound h); complete = λ e. p.complete (cc) }

-- Different members of a oneof.
pub different_members : (m n : ℕ) (a b : Part) → eqb m n ≡ false → DecidesEquality false (Member m a) (Member n b)
different_members m n a b h = record { sound = λ e. cc; complete = λ e. absurd (eqb-false m n h (cc)) }

-- The elements of lists.
pub equal_lists : {X : Type 0} (eq : X → X → Bool) (f : X → Part) → ((x y : X) → DecidesEquality (eq x y) (f x) (f y))
    → (a b : List X) → DecidesEquality (pointwise eq a b) (parts_of f a) (parts_of f b)
equal_lists eq f h [] [] = record { sound = λ k. refl; complete = λ k. refl }
equal_lists eq f h [] (y ∷ ys) = record { sound = λ k. cc; complete = λ k. cc }
equal_lists eq f h (x ∷ xs) [] = record { sound = λ k. cc; complete = λ k. cc }
equal_lists eq f h (x ∷ xs) (y ∷ ys) = equal_fields (eq x y) (pointwise eq xs ys) (f x) (f y) (parts_of f xs)
    (parts_of f ys) (h x y) (equal_lists eq f h xs ys)

-- Repeated fields.
pub equal_elements : {X : Type 0} (eq : X → X → Bool) (f : X → Part) →
    ((x y : X) → DecidesEquality (eq x y) (f x) (f y))
    → (a b : List X) → DecidesEquality (pointwise eq a b) (elements_part f a) (elements_part f b)
equal_elements eq f h a b = let s = equal_lists eq f h a b in record
    { sound = λ k. ap Elements (s.sound k); complete = λ e. s.complete (cc) }

-- A present part is not absent.
not_absent : (p : Part) → is_present p ≡ true → p ≡ Absent → ⊥
not_absent p h e = cc (rw e at h)

-- Optional fields, message fields and oneofs.
pub equal_options : {X : Type 0} (eq : X → X → Bool) (f : X → Part) → ((x : X) → is_present (f x) ≡ true) →
    ((x y : X) → DecidesEquality (eq x y) (f x) (f y))
    → (a b : Option X) → DecidesEquality (option_eq eq a b) (option_part f a) (option_part f b)
equal_options eq f t h None None = record { sound = λ k. refl; complete = λ k. refl }
equal_options eq f t h None (Some y) = record {
  sound = λ k. cc;
  complete = λ k. absurd (not_absent (f y) (t y) (sym k));
}
equal_options eq f t h (Some x) None = record { sound = λ k. cc; complete = λ k. absurd (not_absent (f x) (t x) k) }
equal_options eq f t h (Some x) (Some y) = h x y

-- The rules by which the search goes through the fields of a record.
pub ruleset equality_rules = (
  equal_numbers,
  equal_booleans,
  equal_enums,
  equal_bytes,
  equal_texts,
  equal_fields,
  equal_last,
  equal_nil,
  equal_messages,
  equal_members,
  equal_options,
  equal_elements,
)

-- ---- the test of parts

mutual
  -- Parts that pass the test are equal.
  pub part_equal_sound : (a b : Part) → part_equal a b ≡ true → a ≡ b
  part_equal_sound Absent Absent h = refl
  part_equal_sound (Number m) (Number n) h = ap Number (eqb-true m n h)
  part_equal_sound (Bytes a) (Bytes b) h = ap Bytes ((bytes_decides a b).0 h)
  part_equal_sound (Nested ps) (Nested qs) h = ap Nested (parts_equal_sound ps qs h)
  part_equal_sound (Elements ps) (Elements qs) h = ap Elements (parts_equal_sound ps qs h)
  part_equal_sound (Member m p) (Member n q) h =
      let k = both_of (eqb m n) (part_equal p q) h in
      let e : m ≡ n = eqb-true m n k.0 in let f : p ≡ q = part_equal_sound p q k.1 in cc
  part_equal_sound _ _ h = cc

  -- Values that pass the test are equal.
  pub parts_equal_sound : (a b : Parts) → parts_equal a b ≡ true → a ≡ b
  parts_equal_sound nil nil h = refl
  parts_equal_sound (cons p ps) (cons q qs) h =
      let k = both_of (part_equal p q) (parts_equal ps qs) h in
      let e : p ≡ q = part_equal_sound p q k.0 in let f : ps ≡ qs = parts_equal_sound ps qs k.1 in cc
  parts_equal_sound _ _ h = cc

mutual
  -- A part is equal to itself.
  pub part_equal_refl : (a : Part) → part_equal a a ≡ true
  part_equal_refl Absent = refl
  part_equal_refl (Number n) = eq-eqb n n refl
  part_equal_refl (Bytes b) = (bytes_decides b b).1 refl
  part_equal_refl (Nested ps) = parts_equal_refl ps
  part_equal_refl (Elements ps) = parts_equal_refl ps
  part_equal_refl (Member n p) = both_true (eqb n n) (part_equal p p) (eq-eqb n n refl) (part_equal_refl p)

  -- A value is equal to itself.
  pub parts_equal_refl : (a : Parts) → parts_equal a a ≡ true
  parts_equal_refl nil = refl
  parts_equal_refl (cons p ps) = both_true (part_equal p p) (parts_equal ps ps) (part_equal_refl p)
      (parts_equal_refl ps)

-- The test of values is true if and only if they are equal.
pub parts_equal_decides : (a b : Parts) → DecidesEquality (parts_equal a b) a b
parts_equal_decides a b = record { sound = parts_equal_sound a b; complete = λ e. rw e (parts_equal_refl b) }

-- Tests that imply each other are the same.
agree : (s t : Bool) → (s ≡ true → t ≡ true) → (t ≡ true → s ≡ true) → s ≡ t
agree true t f g = sym (f refl)
agree false true f g = g refl
agree false false f g = refl

-- A test that decides whether parts are equal is the test of parts.
pub part_test_is : (t : Bool) (a b : Part) → DecidesEquality t a b → t ≡ part_equal a b
part_test_is t a b h = agree t (part_equal a b) (λ k. rw (h.sound k) (part_equal_refl b))
    (λ k. h.complete (part_equal_sound a b k))

-- The test of values is an equivalence relation.
parts_equal_equivalence : IsEquivalence parts_equal
parts_equal_equivalence = record {
  refl = parts_equal_refl;
  symm = λ x y. agree (parts_equal x y) (parts_equal y x) (λ h. (parts_equal_decides y x).complete
      (sym (parts_equal_sound x y h))) (λ h. (parts_equal_decides x y).complete (sym (parts_equal_sound y x h)));
  congr = λ x y z h. rw (parts_equal_sound x y h) refl;
}

-- A test on the values of things is an equivalence relation on the things.
pub parts_equal_laws : {X : Type 0} (f : X → Parts) → IsPartialEquivalence (on f parts_equal)
parts_equal_laws f = partial_equiv_from_equiv (on_equiv f parts_equal_equivalence)
