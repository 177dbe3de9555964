-- Long values, shown around their difference.
use Rattle.std.specs.Prelude.{ℕ, ◌+◌, ◌-◌, ◌*◌, Bool, ◌||◌, ◌&&◌, List, ◌++◌, length, take, drop, codes, decimal}
use Rattle.std.specs.Prelude.{if◌then◌else◌, nat_eq, nat_lt}
use Rattle.std.specs.List.{starts_with, ends_with}
use Rattle.std.specs.Str.Lossy.{utf8_lossy}
use Rattle.diff_lines.specs.Shown.{shown_value}
use Rattle.diff_lines.specs.Parted.{char_start, from_char}

-- Whether one of two values has more than 80 bytes, and so is not shown whole.
abbrev pub is_long : List ℕ → List ℕ → Bool
is_long recorded replayed = nat_lt 80 (length recorded) || nat_lt 80 (length replayed)

-- Bytes of a value, escaped as on a terminal or as they are.
abbrev pub shown_bytes : Bool → List ℕ → List ℕ
shown_bytes is_escaped bytes = shown_value is_escaped (utf8_lossy bytes)

-- The beginning of a part of a value: all, or if it has more than these bytes the first of them, without a part of a
-- character, and two dots.
abbrev pub beginning : Bool → ℕ → List ℕ → List ℕ
beginning is_escaped most part = if nat_lt most (length part)
    then shown_bytes is_escaped (take (char_start part most) part) ++ codes ".."
    else shown_bytes is_escaped part

-- The end of a part of a value: all, or if it has more than 20 bytes two dots and the last of them, without a part of a
-- character.
abbrev pub ending : Bool → List ℕ → List ℕ
ending is_escaped part = if nat_lt 20 (length part)
    then codes ".." ++ shown_bytes is_escaped (from_char (drop (length part - 20) part))
    else shown_bytes is_escaped part

-- A value around its difference from another one: what both begin with, what only it has, and what both end
-- with.
abbrev pub excerpt : Bool → List ℕ → List ℕ → List ℕ → List ℕ
excerpt is_escaped front own back =
    ending is_escaped front ++ (codes "[" ++ (beginning is_escaped 40 own ++ (codes "]" ++
    beginning is_escaped 20 back)))

-- How many quotes are at each end of two values that begin and end so.
abbrev pub quotes : List ℕ → List ℕ → ℕ
quotes front back =
    if starts_with nat_eq front (codes "'") && ends_with nat_eq back (codes "'") then 1 else 0

-- The lengths of two values: one, if they are equal.
abbrev pub lengths_text : ℕ → ℕ → List ℕ
lengths_text recorded replayed =
    if nat_eq recorded replayed then decimal recorded else decimal recorded ++ (codes " and " ++ decimal replayed)

-- Where two values differ and how long they are, by their quotes, what both begin with, and their whole lengths.
abbrev pub position_text : ℕ → ℕ → ℕ → ℕ → List ℕ
position_text quotes front recorded replayed =
    codes ": at byte " ++ (decimal (front - quotes) ++ (codes " of " ++
    lengths_text (recorded - 2 * quotes) (replayed - 2 * quotes)))
