-- Symbols of base64 of bytes mean these bytes.
use Rattle.std.proofs.Common.{◌≡◌, ◌∙◌, ℕ, zero, suc, ◌+◌, ◌*◌, ◌/◌, ◌%◌, ◌<◌, ◌==◌, ◌&&◌, List, [], ◌∷◌, ◌++◌, length}
use Rattle.std.proofs.Common.{slice_index, refl, ap, sym, subst}
use Rattle.std.proofs.Common.{Bool, true, false, Option, Some, None, arith, replicate, unwrap_or, inl, inr, add-zero}
use Rattle.std.proofs.Common.{if◌then◌else◌}
use Rattle.std.proofs.lemmas.Bool.{and_parts, cases_lt, eqb-true, ne_eqb}
use Rattle.std.proofs.lemmas.Option.{none-some}
use Rattle.base64.specs.Alphabets.{standard, url_safe}
use Rattle.base64.specs.GeneralPurpose.{IsBytes}
use Rattle.base64.specs.Rfc4648.{encode, encode_group, encode_symbols, padding_len}
use Rattle.encoded_input.specs.Text.{at, base64_digit_value, fault_at, given, is_blank, step_of}
use Rattle.encoded_input.specs.Meaning.{Means}
use Rattle.encoded_input.specs.declared.encoding.Encoding.TheVariants as encoding
use Rattle.encoded_input.specs.declared.place.Place.{Place}
use Rattle.encoded_input.specs.declared.place.Place.TheVariants.{First, Second, Third, Fourth, Padding, End}
use Rattle.encoded_input.proofs.Places.{Reads, reads_means, reads_nil, reads_step}

-- a digit differs from each character that is none
other : (c k v : ℕ) → base64_digit_value k ≡ None → base64_digit_value c ≡ Some v → (c == k) ≡ false
other c k v none is = ne_eqb c k (λ same. none-some v (sym none ∙ ap base64_digit_value (sym same) ∙ is))

no_blank : (c v : ℕ) → base64_digit_value c ≡ Some v → is_blank c ≡ false
no_blank c v is = rw (other c 32 v refl is, other c 9 v refl is, other c 10 v refl is, other c 13 v refl is) refl

and_false : (test : Bool) → (test && false) ≡ false
and_false true = refl
and_false false = refl

no_padding : (bits c v : ℕ) → base64_digit_value c ≡ Some v → (bits == 0 && c == 61) ≡ false
no_padding bits c v is = ap (λ (test : Bool). bits == 0 && test) (other c 61 v refl is) ∙ and_false (bits == 0)

-- where it leads
first_step : (c v offset : ℕ) → base64_digit_value c ≡ Some v → step_of First offset c ≡ at (Second v)
first_step c v offset is = rw (no_blank c v is, is) refl

second_step : (bits c v offset : ℕ) → base64_digit_value c ≡ Some v
    → step_of (Second bits) offset c ≡ given (Third (v % 16)) ((bits * 4 + v / 16) % 256)
second_step bits c v offset is = rw (no_blank c v is, is) refl

third_step : (bits c v offset : ℕ) → base64_digit_value c ≡ Some v
    → step_of (Third bits) offset c ≡ given (Fourth (v % 4)) ((bits * 16 + v / 4) % 256)
third_step bits c v offset is = rw (no_blank c v is, no_padding bits c v is, is) refl

fourth_step : (bits c v offset : ℕ) → base64_digit_value c ≡ Some v
    → step_of (Fourth bits) offset c ≡ given First ((bits * 64 + v) % 256)
fourth_step bits c v offset is = rw (no_blank c v is, no_padding bits c v is, is) refl

-- the symbol at each place of a table has that place's value
abbrev pub IsSymbols : List ℕ → Type 0
IsSymbols t = (d : ℕ) → d < 64 → base64_digit_value (slice_index t d) ≡ Some d

-- the test of one place of a table, and of the first n places, which computes
abbrev reads_back : List ℕ → ℕ → Bool
reads_back t d = unwrap_or (base64_digit_value (slice_index t d)) 99 == d

abbrev all_read_back : List ℕ → ℕ → Bool
all_read_back t zero = true
all_read_back t (suc n) = reads_back t n && all_read_back t n

all_read_back-at : (t : List ℕ) (n k : ℕ) → all_read_back t n ≡ true → k < n → reads_back t k ≡ true
all_read_back-at t zero k h lt = absurd (omega arith)
all_read_back-at t (suc n) k h lt =
    let parts = and_parts (reads_back t n) (all_read_back t n) h in
    elim (cases_lt k n) [
      | inl below ↦ all_read_back-at t n k parts.1 below
      | inr top ↦
          let e : k ≡ n = omega arith in
          rw e parts.0
    ]

some_from_unwrap : (o : Option ℕ) (d : ℕ) → d < 64 → unwrap_or o 99 ≡ d → o ≡ Some d
some_from_unwrap (Some v) d lt e = ap Some e
some_from_unwrap None d lt e = absurd (omega arith)

IsSymbols-from_test : (t : List ℕ) → all_read_back t 64 ≡ true → IsSymbols t
IsSymbols-from_test t h d lt =
    some_from_unwrap (base64_digit_value (slice_index t d)) d lt
    (eqb-true (unwrap_or (base64_digit_value (slice_index t d)) 99) d (all_read_back-at t 64 d h lt))

IsSymbols-standard : IsSymbols standard.symbols
IsSymbols-standard = IsSymbols-from_test standard.symbols refl

IsSymbols-url_safe : IsSymbols url_safe.symbols
IsSymbols-url_safe = IsSymbols-from_test url_safe.symbols refl

module _ (t : List ℕ) (symbols : IsSymbols t) where
  -- two symbols, a byte and four bits
  two_read : (a next : ℕ) (text bytes : List ℕ) (last : Place) → a < 256 → next < 16
      → Reads (Third next) text bytes last
      → Reads First (slice_index t (a / 4) ∷ slice_index t (a % 4 * 16 + next) ∷ text) (a ∷ bytes) last
  two_read a next text bytes last fits few reads =
      let second = a % 4 * 16 + next in
      let byte : (a / 4 * 4 + second / 16) % 256 ≡ a = omega arith in
      let rest : second % 16 ≡ next = omega arith in
      let is_first = symbols (a / 4) (omega arith) in
      let is_second = symbols second (omega arith) in
      reads_step First (slice_index t (a / 4)) (at (Second (a / 4))) _ (a ∷ bytes) last
      (λ offset. first_step (slice_index t (a / 4)) (a / 4) offset is_first)
      (reads_step (Second (a / 4)) (slice_index t second) (given (Third next) a) text bytes last
      (λ offset. second_step (a / 4) (slice_index t second) second offset is_second
      ∙ ap (λ (bits : ℕ). given (Third bits) ((a / 4 * 4 + second / 16) % 256)) rest
      ∙ ap (given (Third next)) byte) reads)

  -- a third one, another byte and two bits
  third_reads : (b next : ℕ) (text bytes : List ℕ) (last : Place) → b < 256 → next < 4
      → Reads (Fourth next) text bytes last
      → Reads (Third (b / 16)) (slice_index t (b % 16 * 4 + next) ∷ text) (b ∷ bytes) last
  third_reads b next text bytes last fits few reads =
      let third = b % 16 * 4 + next in
      let byte : (b / 16 * 16 + third / 4) % 256 ≡ b = omega arith in
      let rest : third % 4 ≡ next = omega arith in
      let is = symbols third (omega arith) in
      reads_step (Third (b / 16)) (slice_index t third) (given (Fourth next) b) text bytes last
      (λ offset. third_step (b / 16) (slice_index t third) third offset is
      ∙ ap (λ (bits : ℕ). given (Fourth bits) ((b / 16 * 16 + third / 4) % 256)) rest
      ∙ ap (given (Fourth next)) byte) reads

  -- a fourth one, the last byte of a group
  fourth_reads : (c : ℕ) (text bytes : List ℕ) (last : Place) → c < 256 → Reads First text bytes last
      → Reads (Fourth (c / 64)) (slice_index t (c % 64) ∷ text) (c ∷ bytes) last
  fourth_reads c text bytes last fits reads =
      let byte : (c / 64 * 64 + c % 64) % 256 ≡ c = omega arith in
      let is = symbols (c % 64) (omega arith) in
      reads_step (Fourth (c / 64)) (slice_index t (c % 64)) (given First c) text bytes last
      (λ offset. fourth_step (c / 64) (slice_index t (c % 64)) (c % 64) offset is ∙ ap (given First) byte) reads

  -- what follows the symbols of some bytes
  abbrev padding_of : Bool → ℕ → List ℕ
  padding_of padded count = if padded then replicate (padding_len count) 61 else []

  -- where the symbols of some bytes lead
  abbrev last_place : Bool → List ℕ → Place
  last_place padded [] = First
  last_place padded (a ∷ []) = if padded then End else Third 0
  last_place padded (a ∷ b ∷ []) = if padded then End else Fourth 0
  last_place padded (a ∷ b ∷ c ∷ rest) = last_place padded rest

  -- padding
  one_padded : (padded : Bool) → Reads (Third 0) (padding_of padded 1) [] (if padded then End else Third 0)
  one_padded true =
      reads_step (Third 0) 61 (at Padding) (61 ∷ []) [] End (λ offset. refl)
      (reads_step Padding 61 (at End) [] [] End (λ offset. refl) (reads_nil End))
  one_padded false = reads_nil (Third 0)

  two_padded : (padded : Bool) → Reads (Fourth 0) (padding_of padded 2) [] (if padded then End else Fourth 0)
  two_padded true = reads_step (Fourth 0) 61 (at End) [] [] End (λ offset. refl) (reads_nil End)
  two_padded false = reads_nil (Fourth 0)

  padding_more : (padded : Bool) (count : ℕ) → padding_of padded (suc (suc (suc count))) ≡ padding_of padded count
  padding_more padded count =
      let same : padding_len (suc (suc (suc count))) ≡ padding_len count = omega arith in
      ap (λ (n : ℕ). if padded then replicate n 61 else []) same

  all_read : (padded : Bool) (bytes : List ℕ) → IsBytes bytes
      → Reads First (encode_symbols t bytes ++ padding_of padded (length bytes)) bytes (last_place padded bytes)
  unfolding encode_symbols
  all_read true [] fit = reads_nil First
  all_read false [] fit = reads_nil First
  all_read padded (a ∷ []) fit =
      subst (λ (second : ℕ). Reads First (slice_index t (a / 4) ∷ slice_index t second ∷ padding_of padded 1) (a ∷ [])
      (if padded then End else Third 0)) (add-zero (a % 4 * 16))
      (two_read a 0 (padding_of padded 1) [] _ (fit 0) (omega arith) (one_padded padded))
  all_read padded (a ∷ b ∷ []) fit =
      let fits : b < 256 = fit 1 in
      two_read a (b / 16) _ (b ∷ []) _ (fit 0) (omega arith)
      (subst (λ (third : ℕ). Reads (Third (b / 16)) (slice_index t third ∷ padding_of padded 2) (b ∷ [])
      (if padded then End else Fourth 0)) (add-zero (b % 16 * 4))
      (third_reads b 0 (padding_of padded 2) [] _ fits (omega arith) (two_padded padded)))
  all_read padded (a ∷ b ∷ c ∷ rest) fit =
      let fits_b : b < 256 = fit 1 in
      let fits_c : c < 256 = fit 2 in
      subst (λ (left : List ℕ). Reads First (encode_group t a b c ++ (encode_symbols t rest ++ left)) (a ∷ b ∷ c ∷ rest)
      (last_place padded rest)) (sym (padding_more padded (length rest)))
      (two_read a (b / 16) _ (b ∷ c ∷ rest) _ (fit 0) (omega arith)
      (third_reads b (c / 64) _ (c ∷ rest) _ fits_b (omega arith)
      (fourth_reads c _ rest _ fits_c (all_read padded rest (λ k. fit (suc (suc (suc k))))))))

  -- nothing is wrong there
  last_sound : (padded : Bool) (bytes : List ℕ) (offset : ℕ) → fault_at (last_place padded bytes) offset ≡ None
  last_sound padded [] offset = refl
  last_sound true (a ∷ []) offset = refl
  last_sound false (a ∷ []) offset = refl
  last_sound true (a ∷ b ∷ []) offset = refl
  last_sound false (a ∷ b ∷ []) offset = refl
  last_sound padded (a ∷ b ∷ c ∷ rest) offset = last_sound padded rest offset

  pub symbols_mean : (padded : Bool) (bytes : List ℕ) → IsBytes bytes
      → Means encoding.Base64 (encode t 61 padded bytes) bytes
  symbols_mean padded bytes fit =
      reads_means encoding.Base64 (encode t 61 padded bytes) bytes (last_place padded bytes) (all_read padded bytes fit)
      (last_sound padded bytes)

pub standard_means : (padded : Bool) (bytes : List ℕ) → IsBytes bytes
    → Means encoding.Base64 (encode standard.symbols standard.padding.value padded bytes) bytes
standard_means = symbols_mean standard.symbols IsSymbols-standard

pub url_safe_means : (padded : Bool) (bytes : List ℕ) → IsBytes bytes
    → Means encoding.Base64 (encode url_safe.symbols url_safe.padding.value padded bytes) bytes
url_safe_means = symbols_mean url_safe.symbols IsSymbols-url_safe
