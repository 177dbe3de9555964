-- Hexadecimal digits of bytes mean these bytes.
use Rattle.std.proofs.Common.{◌≡◌, ◌∙◌, ℕ, suc, ◌+◌, ◌*◌, ◌/◌, ◌%◌, ◌<◌, ◌==◌, List, [], ◌∷◌, slice_index, refl, ap}
use Rattle.std.proofs.Common.{sym, subst}
use Rattle.std.proofs.Common.{Bool, true, false, Some, None, arith}
use Rattle.std.proofs.lemmas.Bool.{eqb-true, ne_eqb}
use Rattle.std.proofs.lemmas.Option.{none-some, same_Some}
use Rattle.hex.specs.Hex.{encode_lower, encode_upper, encode_with, hex_digit_value, IsBytes, lower_digits, upper_digits}
use Rattle.hex.proofs.HexLemmas.{IsDigits, IsDigits-lower_digits, IsDigits-upper_digits}
use Rattle.encoded_input.specs.Text.{at, given, is_blank, is_x, step_of}
use Rattle.encoded_input.specs.Meaning.{Means}
use Rattle.encoded_input.specs.declared.encoding.Encoding.TheVariants as encoding
use Rattle.encoded_input.specs.declared.place.Place.TheVariants.{Hex, Zero, High, Low, Backslash}
use Rattle.encoded_input.proofs.Places.{Reads, reads_means, reads_nil, reads_step}

-- a digit differs from each character that is none
other : (c k v : ℕ) → hex_digit_value k ≡ None → hex_digit_value c ≡ Some v → (c == k) ≡ false
other c k v none is = ne_eqb c k (λ same. none-some v (sym none ∙ ap hex_digit_value (sym same) ∙ is))

no_blank : (c v : ℕ) → hex_digit_value c ≡ Some v → is_blank c ≡ false
no_blank c v is = rw (other c 32 v refl is, other c 9 v refl is, other c 10 v refl is, other c 13 v refl is) refl

no_x : (c v : ℕ) → hex_digit_value c ≡ Some v → is_x c ≡ false
no_x c v is = rw (other c 120 v refl is, other c 88 v refl is) refl

-- where it leads
high_step : (c v offset : ℕ) → hex_digit_value c ≡ Some v → step_of High offset c ≡ at (Low v)
high_step c v offset is = rw (no_blank c v is, is) refl

low_step : (high c v offset : ℕ) → hex_digit_value c ≡ Some v
    → step_of (Low high) offset c ≡ given High ((high * 16 + v) % 256)
low_step high c v offset is = rw (no_blank c v is, is) refl

zero_step : (c v offset : ℕ) → hex_digit_value c ≡ Some v → step_of Zero offset c ≡ given High v
zero_step c v offset is = rw (no_blank c v is, no_x c v is, is) refl

first_step : (c v offset : ℕ) → hex_digit_value c ≡ Some v → (c == 48) ≡ false → step_of Hex offset c ≡ at (Low v)
first_step c v offset is no_zero = rw (no_blank c v is, other c 92 v refl is, no_zero, is) refl

-- the byte of two digits
byte_of_digits : (b : ℕ) → b < 256 → (b / 16 * 16 + b % 16) % 256 ≡ b
byte_of_digits b fits = omega arith

module _ (t : List ℕ) (digits : IsDigits t) where
  -- the second digit of a byte, and those of more
  low_reads : (b : ℕ) (rest bytes : List ℕ) → b < 256 → Reads High rest bytes High
      → Reads (Low (b / 16)) (slice_index t (b % 16) ∷ rest) (b ∷ bytes) High
  low_reads b rest bytes fits reads =
      let is = digits (b % 16) (omega arith) in
      subst (λ (byte : ℕ). Reads (Low (b / 16)) (slice_index t (b % 16) ∷ rest) (byte ∷ bytes) High)
      (byte_of_digits b fits)
      (reads_step (Low (b / 16)) (slice_index t (b % 16)) (given High ((b / 16 * 16 + b % 16) % 256)) rest bytes High
      (λ offset. low_step (b / 16) (slice_index t (b % 16)) (b % 16) offset is) reads)

  high_reads : (bytes : List ℕ) → IsBytes bytes → Reads High (encode_with t bytes) bytes High
  unfolding encode_with
  high_reads [] fit = reads_nil High
  high_reads (b ∷ bytes) fit =
      let fits : b < 256 = fit 0 in
      let is = digits (b / 16) (omega arith) in
      reads_step High (slice_index t (b / 16)) (at (Low (b / 16))) _ (b ∷ bytes) High
      (λ offset. high_step (slice_index t (b / 16)) (b / 16) offset is)
      (low_reads b (encode_with t bytes) bytes fits (high_reads bytes (λ k. fit (suc k))))

  -- a first digit, which may be that of a prefix
  first_reads : (b : ℕ) (bytes : List ℕ) (is_zero : Bool) → (slice_index t (b / 16) == 48) ≡ is_zero
      → IsBytes (b ∷ bytes)
      → Reads Hex (encode_with t (b ∷ bytes)) (b ∷ bytes) High
  unfolding encode_with
  first_reads b bytes false no_zero fit =
      let fits : b < 256 = fit 0 in
      let is = digits (b / 16) (omega arith) in
      reads_step Hex (slice_index t (b / 16)) (at (Low (b / 16))) _ (b ∷ bytes) High
      (λ offset. first_step (slice_index t (b / 16)) (b / 16) offset is no_zero)
      (low_reads b (encode_with t bytes) bytes fits (high_reads bytes (λ k. fit (suc k))))
  first_reads b bytes true is_zero fit =
      let fits : b < 256 = fit 0 in
      let same : slice_index t (b / 16) ≡ 48 = eqb-true (slice_index t (b / 16)) 48 is_zero in
      let none : b / 16 ≡ 0 =
      same_Some _ _ (sym (digits (b / 16) (omega arith)) ∙ ap hex_digit_value same) in
      let low : b % 16 ≡ b = omega (arith, none) in
      let is = digits (b % 16) (omega arith) in
      reads_step Hex (slice_index t (b / 16)) (at Zero) _ (b ∷ bytes) High
      (λ offset. rw same refl)
      (subst (λ (byte : ℕ). Reads Zero (slice_index t (b % 16) ∷ encode_with t bytes) (byte ∷ bytes) High) low
      (reads_step Zero (slice_index t (b % 16)) (given High (b % 16)) (encode_with t bytes) bytes High
      (λ offset. zero_step (slice_index t (b % 16)) (b % 16) offset is)
      (high_reads bytes (λ k. fit (suc k)))))

  pub digits_mean : (bytes : List ℕ) → IsBytes bytes → Means encoding.Hex (encode_with t bytes) bytes
  unfolding encode_with
  digits_mean [] fit = reads_means encoding.Hex [] [] Hex (reads_nil Hex) (λ offset. refl)
  digits_mean (b ∷ bytes) fit =
      reads_means encoding.Hex (encode_with t (b ∷ bytes)) (b ∷ bytes) High
      (first_reads b bytes (slice_index t (b / 16) == 48) refl fit) (λ offset. refl)

  -- after a prefix
  pub zero_x_reads : (bytes : List ℕ) → IsBytes bytes → Means encoding.Hex (48 ∷ 120 ∷ encode_with t bytes) bytes
  zero_x_reads bytes fit =
      reads_means encoding.Hex (48 ∷ 120 ∷ encode_with t bytes) bytes High
      (reads_step Hex 48 (at Zero) _ bytes High (λ offset. refl)
      (reads_step Zero 120 (at High) _ bytes High (λ offset. refl) (high_reads bytes fit))) (λ offset. refl)

  pub backslash_x_reads : (bytes : List ℕ) → IsBytes bytes → Means encoding.Hex (92 ∷ 120 ∷ encode_with t bytes) bytes
  backslash_x_reads bytes fit =
      reads_means encoding.Hex (92 ∷ 120 ∷ encode_with t bytes) bytes High
      (reads_step Hex 92 (at Backslash) _ bytes High (λ offset. refl)
      (reads_step Backslash 120 (at High) _ bytes High (λ offset. refl) (high_reads bytes fit))) (λ offset. refl)

pub lower_means : (bytes : List ℕ) → IsBytes bytes → Means encoding.Hex (encode_lower bytes) bytes
lower_means = digits_mean lower_digits IsDigits-lower_digits

pub upper_means : (bytes : List ℕ) → IsBytes bytes → Means encoding.Hex (encode_upper bytes) bytes
upper_means = digits_mean upper_digits IsDigits-upper_digits

pub zero_x_means : (bytes : List ℕ) → IsBytes bytes → Means encoding.Hex (48 ∷ 120 ∷ encode_lower bytes) bytes
zero_x_means = zero_x_reads lower_digits IsDigits-lower_digits

pub backslash_x_means : (bytes : List ℕ) → IsBytes bytes → Means encoding.Hex (92 ∷ 120 ∷ encode_lower bytes) bytes
backslash_x_means = backslash_x_reads lower_digits IsDigits-lower_digits
