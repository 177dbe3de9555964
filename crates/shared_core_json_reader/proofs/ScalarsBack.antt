-- What is written for a number, a text or bytes is read as that.
use Rattle.std.proofs.Common.{◌≡◌, ◌≢◌, ℕ, zero, suc, ◌+◌, ◌-◌, ◌*◌, ◌/◌, ◌%◌, ◌^◌, ◌<◌, ◌≤◌, negsuc, List, [], ◌∷◌}
use Rattle.std.proofs.Common.{◌++◌, length}
use Rattle.std.proofs.Common.{take, drop, Bool, true, false, cond, not, ◌&&◌, Some, None, option_and_then, refl, sym}
use Rattle.std.proofs.Common.{ap, ap₂, ◌∙◌, append-nil, arith, eqb, leb, ltb}
use Rattle.std.specs.Prelude.{codes, decimal}
use Rattle.std.specs.Str.{is_utf8}
use Rattle.std.specs.Str.Parse.{digits_value, AllDigits}
use Rattle.std.specs.Float.Numeral.{Parts, IsWellFormed}
use Rattle.std.proofs.Math.Dec.{eqb-suc-zero}
use Rattle.std.proofs.lemmas.Bool.{ne_eqb, lt-ltb, le-leb, ltb-true, ltb-false, eqb-true, eqb-false}
use Rattle.std.proofs.lemmas.List.{drop_all, take_all}
use Rattle.std.proofs.lemmas.Fmt.{decimal_is_IsNumeral, decimal_nonempty}
use Rattle.std.proofs.lemmas.Str.Parse.{digit_at}
use Rattle.base64.specs.GeneralPurpose.{encode_of, IsBytes}
use Rattle.base64.specs.Engines.{standard, standard_pad_indifferent}
use Rattle.base64.proofs.EngineFacts.{decode_of-encode_of}
use Rattle.fast_float.specs.Text.{scan}
use Rattle.fast_float.proofs.Writing.{scan-text_of}
use Rattle.json.specs.Json.{Json, number, string, boolean, object, member, no_members}
use Rattle.json.specs.Word.{head, after_minus}
use Rattle.json.proofs.Printed.Decimals.{IsNumber-decimal, IsNumber-signed_decimal}
use Rattle.shared_core_json.specs.Form.{digits_of, enum_digits, byte_string_json}
use Rattle.shared_core_json.specs.declared.digits.Digits.{Digits}
use Rattle.shared_core_json.specs.declared.digits.Digits.TheVariants.{Unsigned, Signed, ZigZag}
use Rattle.shared_core_json_reader.specs.Scalars.{ends_there, magnitude_of, whole_of_text, unsigned_below, signed_bits}
use Rattle.shared_core_json_reader.specs.Scalars.{zigzag_bits, bits_of, u32_read, u64_read, boolean_read, enum_read}
use Rattle.shared_core_json_reader.specs.Scalars.{text_read, bytes_read}
use Rattle.json_table.specs.Places.{present}
use Rattle.shared_core_json_reader.proofs.Numbers.{magnitude_is, with_sign, number_whole}
use Rattle.shared_core_json_reader.proofs.Texts.{standard_bytes}

-- ---- decimals

all_digits : (n : ℕ) → n < 2 ^ 64 → AllDigits 10 (decimal n)
all_digits n h = (decimal_is_IsNumeral n h).0.1

-- the parts of a decimal
abbrev decimal_parts : ℕ → Parts
decimal_parts n = record {
  whole = decimal n;
  point = false;
  fraction = [];
  exponent_negative = false;
  exponent = [];
  len = length (decimal n);
}

decimal_scanned : (n : ℕ) → n < 2 ^ 64 → scan (decimal n) ≡ decimal_parts n
decimal_scanned n h =
    let w : IsWellFormed (decimal_parts n) = record {
      whole_digits = all_digits n h;
      fraction_digits = tt;
      exponent_digits = tt;
      no_point = λ _. refl;
      no_exponent = λ _. refl;
      len_is = ap length (sym (append-nil (decimal n)));
    } in
    ap scan (sym (append-nil (decimal n))) ∙ scan-text_of (decimal_parts n) w

whole_digits : (ds : List ℕ) → digits_value 10 (drop (length ds + 0) (ds ++ [])) ≡ 0
whole_digits ds = ap (digits_value 10) (drop_all (length ds + 0) (ds ++ []) (omega (arith, ap length (append-nil ds))))

whole_value : (ds : List ℕ) → digits_value 10 (take (length ds + 0) (ds ++ [])) * 10 ^
    (length ds + 0 - length (ds ++ [])) ≡ digits_value 10 ds
whole_value ds =
    let same : length ds + 0 - length (ds ++ []) ≡ 0 = omega (arith, ap length (append-nil ds)) in
    let all : take (length ds + 0) (ds ++ []) ≡ ds = take_all (length ds + 0) (ds ++ [])
    (omega (arith, ap length (append-nil ds))) ∙ append-nil ds in
    ap₂ (λ (xs : List ℕ) (k : ℕ). digits_value 10 xs * 10 ^ k) all same ∙ omega arith

decimal_magnitude : (n : ℕ) → n < 2 ^ 64 → magnitude_of (scan (decimal n)) ≡ Some n
decimal_magnitude n h =
    let value = whole_value (decimal n) ∙ (decimal_is_IsNumeral n h).1 in
    ap (λ (p : Parts). magnitude_of p) (decimal_scanned n h) ∙ magnitude_is (decimal_parts n) n
    (whole_digits (decimal n), omega (arith, value)) (sym value)

no_minus : (ds : List ℕ) → 0 < length ds → AllDigits 10 ds → eqb (head ds) 45 ≡ false
no_minus [] h a = absurd (omega arith)
no_minus (d ∷ ds) h a = let r = digit_at (d ∷ ds) 0 a (omega arith) in ne_eqb d 45 (λ e. omega (arith, r.0, e))

-- the whole number of a decimal, and of one with a minus
pub decimal_whole : (n : ℕ) → n < 2 ^ 64 → whole_of_text (decimal n) ≡ Some (record { negative = false; magnitude = n })
decimal_whole n h =
    let first = no_minus (decimal n) (decimal_nonempty n h) (all_digits n h) in
    let rest : after_minus (decimal n) ≡ decimal n = ap (λ (b : Bool). cond b (drop 1 (decimal n)) (decimal n)) first in
    number_whole (decimal n) (ap ends_there (IsNumber-decimal n h)) ∙ ap
    (λ (s : List ℕ). with_sign (decimal n) (magnitude_of (scan s))) rest
    ∙ ap (with_sign (decimal n)) (decimal_magnitude n h) ∙ ap
    (λ (b : Bool). Some (record { negative = b; magnitude = n })) first

pub negative_whole : (n : ℕ) → n < 2 ^ 63 → whole_of_text (45 ∷ decimal (suc n)) ≡ Some
    (record { negative = true; magnitude = suc n })
negative_whole n h =
    number_whole (45 ∷ decimal (suc n)) (ap ends_there (IsNumber-signed_decimal (negsuc n) (omega arith)))
    ∙ ap (with_sign (45 ∷ decimal (suc n))) (decimal_magnitude (suc n) (omega arith))

-- ---- the kinds

below_two : (n : ℕ) → n < 2 → n ≢ 0 → n ≡ 1
below_two zero h e = absurd (e refl)
below_two (suc zero) h e = refl
below_two (suc (suc n)) h e = absurd (omega arith)

below_limit : (limit n : ℕ) → n < limit → unsigned_below limit (record { negative = false; magnitude = n }) ≡ Some n
below_limit limit n h = ap (λ (b : Bool). cond b (Some n) None) (lt-ltb n limit h)

-- what reads the digits of a number is that number
digits_back : (d : Digits) (half n : ℕ) → half ≤ 2 ^ 63 → n < 2 * half
    → option_and_then (bits_of d half) (whole_of_text (digits_of d half n)) ≡ Some n
digits_back Unsigned half n l h =
    ap (option_and_then (unsigned_below (2 * half))) (decimal_whole n (omega arith)) ∙ below_limit (2 * half) n h
digits_back Signed half n l h = by_sign (ltb n half) refl
  where
    bits : (m : ℕ) → suc m ≡ 2 * half - n → half ≤ n → signed_bits half (record
        { negative = true; magnitude = suc m }) ≡ Some n
    bits m e g =
        let same : 2 * half - suc m ≡ n = omega (arith, e) in
        let low : suc m ≤ half = omega (arith, e) in
        ap (λ (c : Bool). cond (leb (suc m) half) (Some (cond c 0 (2 * half - suc m))) None) (eqb-suc-zero m)
        ∙ ap (λ (b : Bool). cond b (Some (2 * half - suc m)) None) (le-leb (suc m) half low)
        ∙ ap (λ (x : ℕ). Some x) same

    negative : (m : ℕ) → m ≡ 2 * half - n → half ≤ n
        → option_and_then (signed_bits half) (whole_of_text (45 ∷ decimal m)) ≡ Some n
    negative zero e g = absurd (omega (arith, e))
    negative (suc m) e g =
        ap (option_and_then (signed_bits half)) (negative_whole m (omega (arith, e))) ∙ bits m e g

    by_sign : (b : Bool) → ltb n half ≡ b → option_and_then (signed_bits half)
        (whole_of_text (cond b (decimal n) (45 ∷ decimal (2 * half - n)))) ≡ Some n
    by_sign true e =
        let g = ltb-true n half e in
        ap (option_and_then (signed_bits half)) (decimal_whole n (omega arith))
        ∙ ap (λ (b : Bool). cond b (Some n) None) (lt-ltb n half g)
    by_sign false e = negative (2 * half - n) refl (ltb-false n half e)
digits_back ZigZag half n l h = by_sign (eqb (n % 2) 0) refl
  where
    by_sign : (b : Bool) → eqb (n % 2) 0 ≡ b → option_and_then (zigzag_bits half)
        (whole_of_text (cond b (decimal (n / 2)) (45 ∷ decimal (suc (n / 2))))) ≡ Some n
    by_sign true e =
        let even : n % 2 ≡ 0 = eqb-true (n % 2) 0 e in
        let same : 2 * (n / 2) ≡ n = omega (arith, even) in
        let low : n / 2 < half = omega arith in
        ap (option_and_then (zigzag_bits half)) (decimal_whole (n / 2) (omega arith))
        ∙ ap (λ (b : Bool). cond b (Some (2 * (n / 2))) None) (lt-ltb (n / 2) half low)
        ∙ ap (λ (x : ℕ). Some x) same
    by_sign false e =
        let odd : n % 2 ≢ 0 = eqb-false (n % 2) 0 e in
        let one : n % 2 ≡ 1 = below_two (n % 2) (omega arith) odd in
        let same : 2 * suc (n / 2) - 1 ≡ n = omega (arith, one) in
        let low : suc (n / 2) ≤ half = omega (arith, one) in
        ap (option_and_then (zigzag_bits half)) (negative_whole (n / 2) (omega arith))
        ∙ ap (λ (b : Bool). cond b (Some (2 * suc (n / 2) - 1)) None) (le-leb (suc (n / 2)) half low)
        ∙ ap (λ (x : ℕ). Some x) same

pub u32_back : (d : Digits) (n : ℕ) → n < 2 ^ 32 → u32_read d (number (digits_of d (2 ^ 31) n)) ≡ Some n
u32_back d n h = digits_back d (2 ^ 31) n (omega arith) (omega arith)

pub u64_back : (d : Digits) (n : ℕ) → n < 2 ^ 64 → u64_read d (string (digits_of d (2 ^ 63) n)) ≡ Some n
u64_back d n h = digits_back d (2 ^ 63) n (omega arith) (omega arith)

pub boolean_back : (n : ℕ) → n < 2 → boolean_read (boolean (not (eqb n 0))) ≡ Some n
boolean_back zero h = refl
boolean_back (suc zero) h = refl
boolean_back (suc (suc n)) h = absurd (omega arith)

pub enum_back : (values : List (List ℕ × ℕ)) (n : ℕ) → n < 2 ^ 32 → enum_read values (number (enum_digits n)) ≡ Some n
enum_back values n h = digits_back Signed (2 ^ 31) n (omega arith) (omega arith)

pub text_back : (b : List ℕ) → is_utf8 b ≡ true → text_read (string b) ≡ Some b
text_back b h = ap (λ (t : Bool). cond t (Some b) None) h

pub bytes_back : (b : List ℕ) → IsBytes b → bytes_read (string (encode_of standard b)) ≡ Some b
bytes_back b h = standard_bytes (encode_of standard b) b (decode_of-encode_of standard_pad_indifferent b tt h)

-- as a text, or in base64
pub byte_string_back : (texts : Bool) (b : List ℕ) → IsBytes b → bytes_read (byte_string_json texts b) ≡ Some b
byte_string_back false b h = bytes_back b h
byte_string_back true b h = by_test (is_utf8 b) refl
  where
    by_test : (t : Bool) → is_utf8 b ≡ t → bytes_read (cond t (object (member (codes "text") (string b) no_members))
        (string (encode_of standard b))) ≡ Some b
    by_test true e = text_back b e
    by_test false e = bytes_back b h

pub byte_string_there : (texts : Bool) (b : List ℕ) → present (byte_string_json texts b) ≡ Some
    (byte_string_json texts b)
byte_string_there texts b = by_test (texts && is_utf8 b)
  where
    shown : Bool → Json
    shown t = cond t (object (member (codes "text") (string b) no_members)) (string (encode_of standard b))

    by_test : (t : Bool) → present (shown t) ≡ Some (shown t)
    by_test true = refl
    by_test false = refl
