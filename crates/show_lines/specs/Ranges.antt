-- The range of numbers that a text in lower case says.
use Rattle.std.specs.Prelude.{ℕ, ◌+◌, ◌-◌, ◌*◌, ◌/◌, ◌^◌, Bool, true, false, ◌&&◌, ◌==◌, nat_lt, if◌then◌else◌, eqb}
use Rattle.std.specs.Prelude.{codes, List, [], ◌∷◌, length, take, drop, Option, Some, None, option_map, unwrap_or}
use Rattle.std.specs.Option.{option_and_then}
use Rattle.std.specs.List.{starts_with, ends_with, position_or_len, before_first, after_first}
use Rattle.std.specs.Char.{is_ascii_digit}
use denote.Ref.{Bor}
use Rattle.show_lines.specs.declared.range.Amount.{Amount}
use Rattle.show_lines.specs.declared.range.Digits.{Digits}
use Rattle.show_lines.specs.declared.range.Range.{Range}

-- ---- digits, with a point and with commas

-- No digits: no parts, and one has one part.
abbrev pub no_digits : Digits
no_digits = record { parts = 0; one = 1; has_point = false; has_digit = false }

-- Digits with one more, unless a number then has more than 128 bits. After the point one has ten times as many parts.
abbrev pub with_digit : Digits → ℕ → Option Digits
with_digit digits digit =
    let parts : ℕ = digits.parts * 10 + digit in
    let one : ℕ = if digits.has_point then digits.one * 10 else digits.one in
    if nat_lt parts (2 ^ 128) && nat_lt one (2 ^ 128)
    then Some (record { parts = parts; one = one; has_point = digits.has_point; has_digit = true })
    else None

-- Digits with one more byte: a comma (44) changes nothing, and a point (46) comes at most once.
abbrev pub with_byte : Digits → ℕ → Option Digits
with_byte digits byte =
    if byte == 44 then Some digits else (
    if byte == 46
    then (if digits.has_point then None else Some (record
    { parts = digits.parts; one = digits.one; has_point = true; has_digit = digits.has_digit }))
    else (if is_ascii_digit byte then with_digit digits (byte - 48) else None)
    )

-- Digits with more bytes, one after the other.
abbrev pub with_bytes : Digits → List ℕ → Option Digits
with_bytes digits [] = Some digits
with_bytes digits (byte ∷ bytes) = option_and_then (λ (next : Digits). with_bytes next bytes) (with_byte digits byte)

-- ---- numbers

-- The nearest whole numbers, down and up, of a number of parts, by how many parts one has; of up to 128 bits.
abbrev pub whole_of : ℕ → ℕ → Option Amount
whole_of parts one =
    if nat_lt (parts + (one - 1)) (2 ^ 128)
    then Some (record { floor = parts / one; ceiling = (parts + (one - 1)) / one })
    else None

-- The number that digits are in a unit; there is at least one.
abbrev pub scaled_digits : ℕ → Digits → Option Amount
scaled_digits unit digits = if digits.has_digit then whole_of (digits.parts * unit) digits.one else None

-- The number that the digits of a text are in a unit.
abbrev pub number_in : ℕ → List ℕ → Option Amount
number_in unit text = option_and_then (scaled_digits unit) (with_bytes no_digits text)

-- The units of bytes, and how many bytes each is.
abbrev pub units : List (List ℕ × ℕ)
units =
    (codes "kib", 2 ^ 10) ∷ (codes "mib", 2 ^ 20) ∷ (codes "gib", 2 ^ 30) ∷ (codes "kb", 10 ^ 3)
    ∷ (codes "mb", 10 ^ 6) ∷ (codes "gb", 10 ^ 9) ∷ (codes "b", 1) ∷ []

-- A unit, as the program's table has it.
abbrev pub unit_of : Bor (List ℕ) × ℕ → List ℕ × ℕ
unit_of unit = (unit.0.now, unit.1)

-- A text without the first of these units that it ends with, and the size of that.
abbrev pub without_unit : List (List ℕ × ℕ) → List ℕ → List ℕ × Option ℕ
without_unit [] text = (text, None)
without_unit (unit ∷ others) text =
    if ends_with eqb text unit.0
    then (take (length text - length unit.0) text, Some unit.1)
    else without_unit others text

-- The number that a text says, with a unit or without one.
abbrev pub number_said : List ℕ → Option Amount
number_said text = number_in (unwrap_or (without_unit units text).1 1) (without_unit units text).0

-- ---- ranges

-- The numbers from one on.
abbrev pub up_from : ℕ → Range
up_from first = record { first = first; last = 2 ^ 128 - 1 }

-- The numbers up to one.
abbrev pub down_from : ℕ → Range
down_from last = record { first = 0; last = last }

-- The numbers above one.
abbrev pub above : Amount → Option Range
above amount = if nat_lt (amount.floor + 1) (2 ^ 128) then Some (up_from (amount.floor + 1)) else None

-- The numbers below one; none below 0.
abbrev pub below : Amount → Range
below amount = if amount.ceiling == 0 then record { first = 1; last = 0 } else down_from (amount.ceiling - 1)

-- The numbers from one to another, which has the unit of the first if it has none of its own.
abbrev pub between : List ℕ → List ℕ → Option Range
between first last =
    let unit : ℕ = unwrap_or (without_unit units first).1 1 in
    option_and_then
    (λ (least : Amount). option_map (λ (most : Amount). record { first = least.ceiling; last = most.floor })
    (number_in (unwrap_or (without_unit units last).1 unit) (without_unit units last).0))
    (number_in unit (without_unit units first).0)

abbrev pub is_dash : ℕ → Bool
is_dash byte = byte == 45

-- The range of one number: empty if that has a fraction.
abbrev pub exactly : List ℕ → Option Range
exactly text = option_map (λ (amount : Amount). record { first = amount.ceiling; last = amount.floor }) (number_said
    text)

-- A text without the sign that it may begin with.
abbrev pub without_sign : List ℕ → List ℕ
without_sign text = if starts_with eqb text (codes "=") then drop 1 text else text

-- The range of two numbers with a dash between them, or of one number.
abbrev pub plain_range : List ℕ → Option Range
plain_range text =
    if nat_lt (position_or_len is_dash text) (length text)
    then between (before_first is_dash text) (after_first is_dash text)
    else exactly (without_sign text)

-- The range up to a number or below it, or a plain one.
abbrev pub bounded_range : List ℕ → Option Range
bounded_range text =
    if starts_with eqb text (codes "<=") then option_map (λ (amount : Amount). down_from amount.floor) (number_said
    (drop 2 text)) else (
    if starts_with eqb text (codes "<") then option_map below (number_said (drop 1 text)) else plain_range text
    )

-- The range from a number on or above it, or one of those.
abbrev pub range_said : List ℕ → Option Range
range_said text =
    if starts_with eqb text (codes ">=") then option_map (λ (amount : Amount). up_from amount.ceiling) (number_said
    (drop 2 text)) else (
    if starts_with eqb text (codes ">") then option_and_then above (number_said (drop 1 text)) else bounded_range text
    )
