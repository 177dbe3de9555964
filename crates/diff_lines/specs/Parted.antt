-- Two texts, and what they have in common at their beginnings and ends, in whole characters.
use Rattle.std.specs.Prelude.{ℕ, zero, suc, ◌+◌, ◌-◌, Bool, false, List, [], ◌∷◌, length, take, drop, reverse, nat_eq}
use Rattle.std.specs.Prelude.{if◌then◌else◌, Option, Some, None, slice_get}
use Rattle.std.specs.Int.{is_in_range}

-- Whether a byte of a text is within a character, and not the first of one.
abbrev pub is_inner : ℕ → Bool
is_inner byte = is_in_range 0x80 0xBF byte

-- The same of a byte, if there is one.
abbrev pub is_some_inner : Option ℕ → Bool
is_some_inner None = false
is_some_inner (Some byte) = is_inner byte

-- Whether a text has a byte at this place that is within a character, and not the first of one.
abbrev pub is_inner_at : List ℕ → ℕ → Bool
is_inner_at text place = is_some_inner (slice_get text place)

-- Where the character begins that has the byte at this place of a text, or the place itself, if the text ends there.
abbrev pub char_start : List ℕ → ℕ → ℕ
char_start text zero = 0
char_start text (suc place) = if is_inner_at text (suc place) then char_start text place else suc place

-- The bytes of a text from the first one on that begins a character.
abbrev pub from_char : List ℕ → List ℕ
from_char [] = []
from_char (byte ∷ bytes) = if is_inner byte then from_char bytes else byte ∷ bytes

-- How many bytes two texts have in common at their beginnings.
abbrev pub common : List ℕ → List ℕ → ℕ
common [] others = 0
common (byte ∷ bytes) [] = 0
common (byte ∷ bytes) (other ∷ others) = if nat_eq byte other then 1 + common bytes others else 0

-- What two texts have in common at their ends, from the first character on that is whole.
abbrev pub common_back : List ℕ → List ℕ → List ℕ
common_back one other = from_char (drop (length one - common (reverse one) (reverse other)) one)

-- Where the first character begins in which two texts differ.
abbrev pub difference_at : List ℕ → List ℕ → ℕ
difference_at one other = char_start one (common one other)

-- What two texts begin with.
abbrev pub front : List ℕ → List ℕ → List ℕ
front one other = take (difference_at one other) one

-- What two texts end with, after what they begin with.
abbrev pub back : List ℕ → List ℕ → List ℕ
back one other = common_back (drop (difference_at one other) one) (drop (difference_at one other) other)

-- What a text has between what these two begin and end with.
abbrev pub between : List ℕ → List ℕ → List ℕ → List ℕ
between one other text =
    take (length (drop (difference_at one other) text) - length (back one other)) (drop (difference_at one other) text)
