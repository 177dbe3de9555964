-- What a text in hexadecimal digits or in base64 means, character by character.
use Rattle.std.specs.Prelude.{ℕ, ◌+◌, ◌-◌, ◌*◌, ◌/◌, ◌%◌, ◌^◌, min, Bool, ◌&&◌, ◌||◌, ◌==◌}
use Rattle.std.specs.Prelude.{if◌then◌else◌, List, [], ◌∷◌, ◌++◌, Option, Some, None, codes, decimal}
use Rattle.std.specs.Int.{is_in_range}
use Rattle.hex.specs.Hex.{hex_digit_value}
use Rattle.encoded_input.specs.declared.encoding.Encoding.{Encoding}
use Rattle.encoded_input.specs.declared.encoding.Encoding.TheVariants as encoding
use Rattle.encoded_input.specs.declared.fault.Fault.{Fault}
use Rattle.encoded_input.specs.declared.fault.Fault.TheVariants as fault
use Rattle.encoded_input.specs.declared.place.Place.{Place}
use Rattle.encoded_input.specs.declared.place.Place.TheVariants.{Hex, Zero, Backslash, High, Low, First, Second, Third}
use Rattle.encoded_input.specs.declared.place.Place.TheVariants.{Fourth, Padding, End, Failed}
use Rattle.encoded_input.specs.declared.place.Step.{Step}
use Rattle.encoded_input.specs.declared.position.Position.{Position}

-- The text of a fault.
abbrev pub fault_text : Fault → List ℕ
fault_text (fault.Character offset) = codes "offset " ++ decimal offset ++ codes ": this character is not a digit"
fault_text (fault.End offset) = codes "offset " ++ decimal offset ++ codes ": the text ends within a byte"

-- Spaces, tabulators and ends of lines.
abbrev pub is_blank : ℕ → Bool
is_blank c = ((c == 32 || c == 9) || c == 10) || c == 13

-- The value of a digit of base64: of the standard alphabet (RFC 4648, section 4), or of that for URLs (section 5).
abbrev pub base64_digit_value : ℕ → Option ℕ
base64_digit_value c =
    if is_in_range 65 90 c then Some (c - 65)
    else if is_in_range 97 122 c then Some (c - 71)
    else if is_in_range 48 57 c then Some (c + 4)
    else if c == 43 || c == 45 then Some 62
    else if c == 47 || c == 95 then Some 63
    else None

-- The value of a character where a digit may come.
abbrev pub digit_at : Place → ℕ → Option ℕ
digit_at Hex c = hex_digit_value c
digit_at Zero c = hex_digit_value c
digit_at High c = hex_digit_value c
digit_at (Low high) c = hex_digit_value c
digit_at First c = base64_digit_value c
digit_at (Second bits) c = base64_digit_value c
digit_at (Third bits) c = base64_digit_value c
digit_at (Fourth bits) c = base64_digit_value c
digit_at place c = None

-- A place, where no byte is complete.
abbrev pub at : Place → Step
at place = record { place = place; byte = None }

-- The same after a byte.
abbrev pub given : Place → ℕ → Step
given place byte = record { place = place; byte = Some byte }

-- What a character leads to that may not come. The first fault stays.
abbrev pub failed : Place → ℕ → Step
failed (Failed first) offset = at (Failed first)
failed place offset = at (Failed (fault.Character offset))

-- What a digit leads to: two of hexadecimal have the bits of a byte, and four of base64 those of three.
abbrev pub after_digit : Place → ℕ → ℕ → Step
after_digit Hex offset value = at (Low value)
after_digit High offset value = at (Low value)
after_digit Zero offset value = given High value
after_digit (Low high) offset value = given High ((high * 16 + value) % 256)
after_digit First offset value = at (Second value)
after_digit (Second bits) offset value = given (Third (value % 16)) ((bits * 4 + value / 16) % 256)
after_digit (Third bits) offset value = given (Fourth (value % 4)) ((bits * 16 + value / 4) % 256)
after_digit (Fourth bits) offset value = given First ((bits * 64 + value) % 256)
after_digit place offset value = failed place offset

-- What a digit leads to, or a character that is none.
abbrev pub after_value : Place → ℕ → Option ℕ → Step
after_value place offset None = failed place offset
after_value place offset (Some value) = after_digit place offset value

-- What a blank leads to: it is passed over, except within a prefix. After a first zero no prefix comes any more.
abbrev pub after_blank : Place → ℕ → Step
after_blank Zero offset = at (Low 0)
after_blank Backslash offset = failed Backslash offset
after_blank place offset = at place

-- Whether a character is the second one of a prefix.
abbrev pub is_x : ℕ → Bool
is_x c = c == 120 || c == 88

-- Where a sign leads, a character of a prefix or padding. A first zero may be of a prefix. Padding comes only after
-- bits that are zeros.
abbrev pub after_sign : Place → ℕ → Option Place
after_sign Hex c = if c == 92 then Some Backslash else if c == 48 then Some Zero else None
after_sign Zero c = if is_x c then Some High else None
after_sign Backslash c = if is_x c then Some High else None
after_sign (Third bits) c = if bits == 0 && c == 61 then Some Padding else None
after_sign (Fourth bits) c = if bits == 0 && c == 61 then Some End else None
after_sign Padding c = if c == 61 then Some End else None
after_sign place c = None

-- What a character of a text leads to, other than a blank: a sign, which leads to this place, or a digit.
abbrev pub after_text : Place → ℕ → ℕ → Option Place → Step
after_text place offset c (Some next) = at next
after_text place offset c None = after_value place offset (digit_at place c)

-- What the character at an offset leads to.
abbrev pub step_of : Place → ℕ → ℕ → Step
step_of place offset c =
    if is_blank c then after_blank place offset else after_text place offset c (after_sign place c)

-- What is wrong with a text that ends at a place and offset: it had a fault, a byte is begun, or the bits after the
-- last one are not zeros of base64.
abbrev pub fault_at : Place → ℕ → Option Fault
fault_at (Failed first) offset = Some first
fault_at Hex offset = None
fault_at High offset = None
fault_at First offset = None
fault_at End offset = None
fault_at (Third bits) offset = if bits == 0 then None else Some (fault.End offset)
fault_at (Fourth bits) offset = if bits == 0 then None else Some (fault.End offset)
fault_at place offset = Some (fault.End offset)

-- The fault that a text had before a place.
abbrev pub fault_before : Place → Option Fault
fault_before (Failed first) = Some first
fault_before place = None

-- Where a text of an encoding begins.
abbrev pub first_place : Encoding → Place
first_place encoding.Hex = Hex
first_place encoding.Base64 = First

-- The offset after a character. It stays at the greatest number of 64 bits.
abbrev pub next_offset : ℕ → ℕ
next_offset offset = min (offset + 1) (2 ^ 64 - 1)

-- The position after a character.
abbrev pub next_position : Position → ℕ → Position
next_position position c =
    record { place = (step_of position.place position.offset c).place; offset = next_offset position.offset }

-- The byte that a character completes.
abbrev pub next_byte : Position → ℕ → Option ℕ
next_byte position c = (step_of position.place position.offset c).byte

-- Some bytes, after the one that is complete.
abbrev pub with_byte : Option ℕ → List ℕ → List ℕ
with_byte None bytes = bytes
with_byte (Some byte) bytes = byte ∷ bytes

-- The position after a text.
unfoldable pub position_after : Position → List ℕ → Position
position_after position [] = position
position_after position (c ∷ text) = position_after (next_position position c) text

-- The bytes that a text means from a position on, before the first fault.
unfoldable pub decoded : Position → List ℕ → List ℕ
decoded position [] = []
decoded position (c ∷ text) = with_byte (next_byte position c) (decoded (next_position position c) text)

-- What is wrong with a text that ends here.
abbrev pub end_fault : Position → Option Fault
end_fault position = fault_at position.place position.offset

-- What is wrong with a text from a position on: the first fault, if it has one.
abbrev pub text_fault : Position → List ℕ → Option Fault
text_fault position text = end_fault (position_after position text)

-- The fault that a text had before a position.
abbrev pub past_fault : Position → Option Fault
past_fault position = fault_before position.place

-- The position after a text has ended with or without a fault.
abbrev pub ended : Position → Option Fault → Position
ended position None = position
ended position (Some first) = record { place = Failed first; offset = position.offset }
