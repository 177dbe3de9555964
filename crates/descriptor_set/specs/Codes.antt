-- The codes of types that a comment of a .proto file says, byte by byte: `Type: 0x0400 + 2`, `Type 0x0402`,
-- `message code = 1026`, `Type: 0x0400 | 2`. The second number does not say its base.
use Rattle.std.specs.Prelude.{ℕ, ◌≤◌, IfSome, ◌+◌, ◌*◌, min, Bool, true, false, ◌||◌, ◌==◌, nat_lt}
use Rattle.std.specs.Prelude.{if◌then◌else◌, List, [], ◌∷◌, Option, Some, None, codes, take, drop}
use Rattle.std.specs.Char.{digit_value, is_ascii_alphanumeric, is_ascii_whitespace, to_ascii_lowercase}
use Rattle.std.specs.Int.Bits.{bit_or}
use Rattle.std.specs.List.{prefix_len}
use Rattle.std.specs.Option.{option_map, option_or}
use Rattle.descriptor_set.specs.declared.codes.SaidCode.{SaidCode}

-- Letters, digits and underscores: a word is a run of these.
abbrev pub is_word : ℕ → Bool
is_word b = is_ascii_alphanumeric b || b == 95

-- A text without the spaces before it.
abbrev pub after_spaces : List ℕ → List ℕ
after_spaces [] = []
after_spaces (b ∷ rest) = if is_ascii_whitespace b then after_spaces rest else b ∷ rest

-- Whether a text begins with a space.
abbrev pub has_space : List ℕ → Bool
has_space [] = false
has_space (b ∷ rest) = is_ascii_whitespace b

-- What is after a prefix, which is in lower case, if a text begins with it in upper or lower case.
abbrev pub after_prefix : List ℕ → List ℕ → Option (List ℕ)
after_prefix [] text = Some text
after_prefix (p ∷ prefix) [] = None
after_prefix (p ∷ prefix) (b ∷ text) = if to_ascii_lowercase b == p then after_prefix prefix text else None

-- The first of two texts that is there.
abbrev pub or_text : Option (List ℕ) → List ℕ → List ℕ
or_text None text = text
or_text (Some found) text = found

-- The number of digits of a base after those of a number, at most 65,536, if they are digits of that base.
abbrev pub digits_after : ℕ → ℕ → List ℕ → Option ℕ
digits_after base number [] = Some number
digits_after base number (digit ∷ digits) =
    if nat_lt (digit_value digit) base then digits_after base (min (number * base + digit_value digit) 65536) digits
    else None

-- The number of one or more digits.
abbrev pub number_of : ℕ → List ℕ → Option ℕ
number_of base [] = None
number_of base (digit ∷ digits) = digits_after base 0 (digit ∷ digits)

-- The number of hexadecimal digits after `0x`.
abbrev pub marked_after : Option (List ℕ) → Option ℕ
marked_after None = None
marked_after (Some digits) = number_of 16 digits

abbrev pub marked_number : List ℕ → Option ℕ
marked_number word = marked_after (after_prefix (codes "0x") word)

-- The first number of a code. Behind no sign only one with `0x` is one.
abbrev pub first_number : Bool → List ℕ → Option ℕ
first_number true word = option_or (marked_number word) (number_of 10 word)
first_number false word = marked_number word

-- A number that cannot overflow in a sum with another one.
pub record IsSmall (number : SaidCode) : Type 0 where
  pub decimal : IfSome number.decimal (λ found. found ≤ 65536)
  pub hexadecimal : number.hexadecimal ≤ 65536

-- A number that says its base, or needs none.
abbrev pub plain_code : ℕ → SaidCode
plain_code number = record { decimal = Some number; hexadecimal = number }

-- What a second number without a base may be.
abbrev pub unmarked_number : Option ℕ → Option ℕ → Option SaidCode
unmarked_number decimal None = None
unmarked_number decimal (Some number) = Some (record { decimal = decimal; hexadecimal = number })

-- What a second number may be.
abbrev pub second_number : List ℕ → Option SaidCode
second_number word =
    option_or (option_map plain_code (marked_number word)) (unmarked_number (number_of 10 word) (number_of 16 word))

-- Two numbers whose bits are joined, or their sum.
abbrev pub joined : Bool → ℕ → ℕ → ℕ
joined true first second = bit_or first second
joined false first second = first + second

-- A code of a first number, and of a second one if there is one.
abbrev pub with_second : Bool → ℕ → Option SaidCode → SaidCode
with_second is_joined first None = plain_code first
with_second is_joined first (Some second) =
    record {
      decimal = option_map (joined is_joined first) second.decimal;
      hexadecimal = joined is_joined first second.hexadecimal;
    }

-- The word that a text begins with, and what is after it.
abbrev pub first_word : List ℕ → List ℕ
first_word text = take (prefix_len is_word text) text

abbrev pub after_word : List ℕ → List ℕ
after_word text = drop (prefix_len is_word text) text

-- The code of a first number and of what is after it and its spaces.
abbrev pub code_with : ℕ → List ℕ → SaidCode
code_with first [] = plain_code first
code_with first (sign ∷ rest) =
    if sign == 43 || sign == 124 then with_second (sign == 124) first (second_number (first_word (after_spaces rest)))
    else plain_code first

abbrev pub code_of : Option ℕ → List ℕ → Option SaidCode
code_of None rest = None
code_of (Some first) rest = Some (code_with first (after_spaces rest))

-- The code that a text begins with, behind a sign or not.
abbrev pub code_at : Bool → List ℕ → Option SaidCode
code_at is_signed text = code_of (first_number is_signed (first_word text)) (after_word text)

-- A text without what opens a number in it.
abbrev pub opened : List ℕ → List ℕ
opened text = or_text (option_or (after_prefix (codes "`") text) (after_prefix (codes "<code>") text)) text

-- The code in a text without the spaces before it.
abbrev pub code_behind : Bool → List ℕ → Option SaidCode
code_behind is_spaced [] = None
code_behind is_spaced (b ∷ rest) =
    if b == 58 || b == 61 then code_at true (opened (after_spaces rest))
    else (if is_spaced then code_at false (opened (b ∷ rest)) else None)

-- The code in what is after the word `type` or `code`.
abbrev pub code_after : Option (List ℕ) → Option SaidCode
code_after None = None
code_after (Some text) = code_behind (has_space text) (after_spaces text)

-- The code that the first word of a text says.
abbrev pub said_at : List ℕ → Option SaidCode
said_at text = option_or (code_after (after_prefix (codes "type") text)) (code_after (after_prefix (codes "code") text))

-- Codes, after one that may be there.
abbrev pub with_code : Option SaidCode → List SaidCode → List SaidCode
with_code None said = said
with_code (Some code) said = code ∷ said

-- The codes that the words of a text say, which may begin within a word.
abbrev pub codes_from : Bool → List ℕ → List SaidCode
codes_from within [] = []
codes_from within (b ∷ rest) = with_code (if within then None else said_at (b ∷ rest)) (codes_from (is_word b) rest)

-- The codes that a comment says.
abbrev pub said_codes : List ℕ → List SaidCode
said_codes text = codes_from false text
