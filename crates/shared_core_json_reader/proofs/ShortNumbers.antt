-- Numbers that are written only with digits.
use Rattle.std.proofs.Common.{◌≡◌, ◌≢◌, ℕ, ◌+◌, ◌-◌, ◌*◌, ◌^◌, ◌<◌, ◌≤◌, List, length, take, get_or}
use Rattle.std.proofs.Common.{false, Some, refl, sym, ap, subst, ◌∙◌, arith, decimal}
use Rattle.std.specs.Int.{IsInRange}
use Rattle.std.specs.Str.Parse.{AllDigits, digits_value}
use Rattle.std.proofs.lemmas.List.{take_all, length-take-le}
use Rattle.std.proofs.lemmas.Str.{digit_value_digit}
use Rattle.std.proofs.lemmas.Str.Parse.{numerals_by_value, tells_digits, digits_value_short}
use Rattle.std.proofs.lemmas.Fmt.{decimal-digits_value}
use Rattle.std.proofs.lemmas.Int.Digits.{digits_more, digits_value_more}
use Rattle.json.proofs.Printed.Decimals.{IsNumber-decimal}
use Rattle.shared_core_json_reader.specs.Scalars.{whole_of_text}
use Rattle.shared_core_json_reader.specs.FirstError.{number_text_reason}
use Rattle.shared_core_json_reader.specs.declared.error.Reason.TheVariants.{OutOfRange}
use Rattle.shared_core_json_reader.proofs.ScalarsBack.{decimal_whole}

-- the first bytes of a text are digits, which write a number
pub record Writes (text : List ℕ) (i n : ℕ) : Type 0 where
  pub digits : AllDigits 10 (take i text)
  pub value : n ≡ digits_value 10 (take i text)

-- few digits write a number that is far from 2 ^ 64
pub below : (text : List ℕ) (i n : ℕ) → Writes text i n → i < length text → length text ≤ 19 → n < 10 ^ 18
below text i n w h few =
    let short = digits_value_short (numerals_by_value _ tells_digits) (take i text) 18 w.digits (omega (
      arith,
      h,
      few,
      length-take-le i text (omega (arith, h)),
    )) in
    omega (arith, w.value, short)

pub one_more : (text : List ℕ) (i n : ℕ) → Writes text i n → i < length text → IsInRange 48 57 (get_or text i 0) →
    Writes text (i + 1) (10 * n + (get_or text i 0 - 48))
one_more text i n w h r =
    let d = digit_value_digit (get_or text i 0) r in
    record {
      digits = digits_more 10 text i h w.digits (omega (arith, d, r));
      value = omega (arith, w.value, d, digits_value_more 10 text i h);
    }

-- at the end the text is what is written of the number
pub written : (text : List ℕ) (i n : ℕ) → Writes text i n → length text ≤ i → 0 < length text → length text ≤ 19 →
    get_or text 0 0 ≢ 48 → (n < 2 ^ 64) × (text ≡ decimal n)
written text i n w h some few first =
    let all : take i text ≡ text = take_all i text h in
    let digits : AllDigits 10 text = subst (AllDigits 10) all w.digits in
    let value : n ≡ digits_value 10 text = w.value ∙ ap (digits_value 10) all in
    let short = digits_value_short (numerals_by_value _ tells_digits) text 19 digits few in
    let small : digits_value 10 text < 2 ^ 64 = omega (arith, short) in
    let is = decimal-digits_value (numerals_by_value _ tells_digits) text digits some (λ z. absurd (first z)) small in
    (omega (arith, value, small), sym (ap decimal value ∙ is))

pub short_whole : (text : List ℕ) (n : ℕ) → n < 2 ^ 64 → text ≡ decimal n → whole_of_text text ≡ Some
    (record { negative = false; magnitude = n })
short_whole text n h e = ap whole_of_text e ∙ decimal_whole n h

pub short_reason : (text : List ℕ) (n : ℕ) → n < 2 ^ 64 → text ≡ decimal n → number_text_reason (Some text) ≡ OutOfRange
short_reason text n h e = ap (λ (s : List ℕ). number_text_reason (Some s)) e ∙ rw (IsNumber-decimal n h) refl
