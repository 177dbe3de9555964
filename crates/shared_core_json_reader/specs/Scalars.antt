-- Which numbers, texts and bytes a JSON value means.
use Rattle.std.specs.Prelude.{ℕ, ◌-◌, ◌*◌, ◌^◌, Bool, true, false, not, ◌&&◌, ◌||◌, List, [], ◌∷◌, ◌++◌, codes, drop}
use Rattle.std.specs.Prelude.{◌==◌, nat_lt, nat_le, if◌then◌else◌, Option, Some, None, option_map, option_and_then}
use Rattle.std.specs.Option.{option_or}
use Rattle.std.specs.Result.{result_ok}
use Rattle.std.specs.Str.{is_utf8, bytes_eq}
use Rattle.std.specs.Str.Parse.{digits_value}
use Rattle.fast_float.specs.Text.{Parts, scan, point_at, whole_of}
use Rattle.base64.specs.GeneralPurpose.{decode_of}
use Rattle.base64.specs.Engines.{standard_pad_indifferent, url_safe_pad_indifferent}
use Rattle.json.specs.Word.{head, after_minus, after_number}
use Rattle.json.specs.Json.{Json, null, boolean, number, string, array, object, Members, no_members, member}
use Rattle.json.specs.Find.{as_str}
use Rattle.shared_core_json.specs.declared.digits.Digits.{Digits}
use Rattle.shared_core_json.specs.declared.digits.Digits.TheVariants.{Unsigned, Signed, ZigZag}

-- ---- numbers

-- A whole number, by whether it has a minus and by its magnitude.
pub record Whole : Type 0 where
  pub negative : Bool
  pub magnitude : ℕ

-- The text of a value that should be a number: that of a number, or a string.
abbrev pub number_text : Json → Option (List ℕ)
number_text null = None
number_text (boolean b) = None
number_text (number s) = Some s
number_text (string s) = Some s
number_text (array js) = None
number_text (object ms) = None

-- Nothing follows.
abbrev pub ends_there : Option (List ℕ) → Bool
ends_there None = false
ends_there (Some []) = true
ends_there (Some (b ∷ bs)) = false

-- The magnitude of the number that has these parts, if it is whole and below 2 ^ 64.
abbrev pub magnitude_of : Parts → Option ℕ
magnitude_of p = if (digits_value 10 (drop (point_at p) (p.whole ++ p.fraction)) == 0) && nat_lt (whole_of p) (2 ^ 64)
    then Some (whole_of p) else None

-- The whole number that a text writes, as JSON writes numbers: also with a point or an exponent, as 1.50e1.
unfoldable pub whole_of_text : List ℕ → Option Whole
whole_of_text s =
    if ends_there (after_number s)
    then option_map (λ n. record { negative = head s == 45; magnitude = n }) (magnitude_of (scan (after_minus s)))
    else None

-- The whole number that a value is.
abbrev pub whole_read : Json → Option Whole
whole_read j = option_and_then whole_of_text (number_text j)

-- A number without a sign that is below a limit; -0 is 0.
abbrev pub unsigned_below : ℕ → Whole → Option ℕ
unsigned_below limit w = if (not w.negative || (w.magnitude == 0)) && nat_lt w.magnitude limit then Some w.magnitude
    else None

-- A number with a sign by two's complement, where `half` is the size of the least number; -0 is 0.
abbrev pub signed_bits : ℕ → Whole → Option ℕ
signed_bits half w =
    if w.negative
    then (if nat_le w.magnitude half then Some (if w.magnitude == 0 then 0 else (2 * half - w.magnitude)) else None)
    else (if nat_lt w.magnitude half then Some w.magnitude else None)

-- A number with a sign by zigzag: twice as much, and one less if it is below zero; -0 is 0.
abbrev pub zigzag_bits : ℕ → Whole → Option ℕ
zigzag_bits half w =
    if w.negative
    then (if nat_le w.magnitude half then Some (2 * w.magnitude - 1) else None)
    else (if nat_lt w.magnitude half then Some (2 * w.magnitude) else None)

-- What is written for a number, where `half` is the size of the least number by two's complement.
abbrev pub bits_of : Digits → ℕ → Whole → Option ℕ
bits_of Unsigned half = unsigned_below (2 * half)
bits_of Signed half = signed_bits half
bits_of ZigZag half = zigzag_bits half

-- What is written for the number that a value is.
abbrev pub bits_read : Digits → ℕ → Json → Option ℕ
bits_read d half j = option_and_then (bits_of d half) (whole_read j)

-- The same of 32 bits.
abbrev pub u32_read : Digits → Json → Option ℕ
u32_read d j = bits_read d (2 ^ 31) j

-- The same of 64 bits.
abbrev pub u64_read : Digits → Json → Option ℕ
u64_read d j = bits_read d (2 ^ 63) j

-- A number below a limit.
abbrev pub unsigned_read : ℕ → Json → Option ℕ
unsigned_read limit j = option_and_then (unsigned_below limit) (whole_read j)

-- A bool.
abbrev pub boolean_read : Json → Option ℕ
boolean_read null = None
boolean_read (boolean b) = Some (if b then 1 else 0)
boolean_read (number s) = None
boolean_read (string s) = None
boolean_read (array js) = None
boolean_read (object ms) = None

-- ---- enums

-- The number of the value that has a name.
abbrev pub value_named : List (List ℕ × ℕ) → List ℕ → Option ℕ
value_named [] s = None
value_named (v ∷ vs) s = if bytes_eq s v.0 then Some v.1 else value_named vs s

-- A value of an enum, as its low 32 bits: by its name, or by its number.
abbrev pub enum_read : List (List ℕ × ℕ) → Json → Option ℕ
enum_read values j = option_or (option_and_then (value_named values) (as_str j))
    (option_and_then (signed_bits (2 ^ 31)) (whole_read j))

-- ---- texts and bytes

-- A text that is UTF-8.
abbrev pub utf8_text : List ℕ → Option (List ℕ)
utf8_text s = if is_utf8 s then Some s else None

-- A text.
abbrev pub text_read : Json → Option (List ℕ)
text_read j = option_and_then utf8_text (as_str j)

-- The bytes that a text of base64 encodes: in the standard alphabet or that of URLs, with its padding or without.
unfoldable pub base64_bytes : List ℕ → Option (List ℕ)
base64_bytes s = option_or (result_ok (decode_of standard_pad_indifferent s))
    (result_ok (decode_of url_safe_pad_indifferent s))

-- The text of an object with the one member `text`.
abbrev pub only_text : Members → Option (List ℕ)
only_text no_members = None
only_text (member k j no_members) = if bytes_eq k (codes "text") then text_read j else None
only_text (member k j (member l i ms)) = None

-- The text of a value that is such an object.
abbrev pub marked_text : Json → Option (List ℕ)
marked_text null = None
marked_text (boolean b) = None
marked_text (number s) = None
marked_text (string s) = None
marked_text (array js) = None
marked_text (object ms) = only_text ms

-- Bytes: a string in base64, or an object with the one member `text`.
abbrev pub bytes_read : Json → Option (List ℕ)
bytes_read j = elim (as_str j) [
  | None ↦ marked_text j
  | Some s ↦ base64_bytes s
]
