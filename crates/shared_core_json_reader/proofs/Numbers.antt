-- Reading whole numbers.
use Rattle.std.proofs.Common.{◌≡◌, ℕ, ◌^◌, ◌<◌, List, [], ◌∷◌, ◌++◌, length, drop, ◌↔◌, Bool, true, false, cond, Option}
use Rattle.std.proofs.Common.{Some, None, option_map, refl, sym, ap, ◌∙◌, arith, eqb, ltb, eq-eqb, ◌&&◌}
use Rattle.std.specs.Prelude.{IsTrue}
use Rattle.std.specs.Str.Parse.{digits_value}
use Rattle.std.proofs.lemmas.Bool.{eqb-true, ltb-true, lt-ltb, le-ltb}
use Rattle.json.specs.Word.{head, after_minus, after_number}
use Rattle.fast_float.specs.Text.{Parts, scan, point_at, IsWhole, whole_of}
use Rattle.shared_core_json_reader.specs.Scalars.{Whole, ends_there, magnitude_of, whole_of_text}

pub not_number : (o : Option (List ℕ)) (b : Bool) → (IsTrue b ↔ (o ≡ Some [])) → b ≡ false → ends_there o ≡ false
not_number None b h e = refl
not_number (Some []) true h e = absurd cc
not_number (Some []) false h e = absurd (let q : false ≡ true = h.1 refl in cc)
not_number (Some (x ∷ xs)) b h e = refl

pub is_a_number : (o : Option (List ℕ)) (b : Bool) → (IsTrue b ↔ (o ≡ Some [])) → b ≡ true → ends_there o ≡ true
is_a_number o true h e = ap ends_there (h.0 refl)
is_a_number o false h e = absurd cc

pub minus_shorter : (s : List ℕ) → ltb (length (after_minus s)) (length s) ≡ eqb (head s) 45
minus_shorter [] = refl
minus_shorter (x ∷ xs) = by_test (eqb x 45)
  where
    by_test : (b : Bool) → ltb (length (cond b xs (x ∷ xs))) (length (x ∷ xs)) ≡ b
    by_test true = lt-ltb _ _ (omega arith)
    by_test false = le-ltb _ _ (omega arith)

pub no_magnitude : (p : Parts) → (IsWhole p × (whole_of p < 2 ^ 64) → ⊥) → magnitude_of p ≡ None
no_magnitude p h = by_tests (eqb _ 0) (ltb _ (2 ^ 64)) refl refl
  where
    by_tests : (b d : Bool) → eqb (digits_value 10 (drop (point_at p) (p.whole ++ p.fraction))) 0 ≡ b → ltb (whole_of p)
        (2 ^ 64) ≡ d → cond (b && d) (Some (whole_of p)) None ≡ None
    by_tests true true e f = absurd (h (eqb-true _ _ e, ltb-true _ _ f))
    by_tests true false e f = refl
    by_tests false d e f = refl

pub magnitude_is : (p : Parts) (n : ℕ) → IsWhole p × (whole_of p < 2 ^ 64) → n ≡ whole_of p → magnitude_of p ≡ Some n
magnitude_is p n h e = rw (eq-eqb _ 0 h.0, lt-ltb _ _ h.1) (ap (λ (m : ℕ). Some m) (sym e))

pub no_whole : (s : List ℕ) → ends_there (after_number s) ≡ false → whole_of_text s ≡ None
unfolding whole_of_text
no_whole s e = rw e refl

abbrev pub with_sign : List ℕ → Option ℕ → Option Whole
with_sign s o = option_map (λ n. record { negative = eqb (head s) 45; magnitude = n }) o

pub number_whole : (s : List ℕ) → ends_there (after_number s) ≡ true → whole_of_text s ≡ with_sign s
    (magnitude_of (scan (after_minus s)))
unfolding whole_of_text
number_whole s e = rw e refl

pub not_whole : (s digits : List ℕ) (p : Parts) → ends_there (after_number s) ≡ true → digits ≡ after_minus s → p ≡ scan
    digits → magnitude_of p ≡ None → whole_of_text s ≡ None
not_whole s digits p e d q m =
    number_whole s e ∙ ap (λ (x : List ℕ). with_sign s (magnitude_of (scan x))) (sym d) ∙ ap
    (λ (x : Parts). with_sign s (magnitude_of x)) (sym q) ∙ ap (with_sign s) m

pub whole_is : (s digits : List ℕ) (p : Parts) (n : ℕ) → ends_there (after_number s) ≡ true → digits ≡ after_minus s → p
    ≡ scan digits → magnitude_of p ≡ Some n
    → whole_of_text s ≡ Some (record { negative = ltb (length digits) (length s); magnitude = n })
whole_is s digits p n e d q m =
    number_whole s e ∙ ap (λ (x : List ℕ). with_sign s (magnitude_of (scan x))) (sym d) ∙ ap
    (λ (x : Parts). with_sign s (magnitude_of x)) (sym q) ∙ ap (with_sign s) m
    ∙ ap (λ (b : Bool). Some (record { negative = b; magnitude = n })) (sym (minus_shorter s))
    ∙ ap (λ (x : List ℕ). Some (record { negative = ltb (length x) (length s); magnitude = n })) (sym d)
