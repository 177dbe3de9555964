-- What the options say whose value is an index.
use Rattle.std.specs.Prelude.{◌≡◌, ◌≤◌, ◌+◌, ◌-◌, ◌^◌, ℕ, List, Option, Some, None, MatchOption, codes, min}
use Rattle.clap.specs.Matches.{first_value}
use Rattle.clap.specs.declared.parser.matches.Found.{Found}
use Rattle.command_line.specs.MaxMessage.{IsNumber}
use Rattle.stream_parts.specs.declared.range.Range.{Range}

-- The value of an option is this index; if it has none, there is no index.
abbrev pub IsIndexOf : Option (List ℕ) → Option ℕ → Type 0
IsIndexOf None index = index ≡ None
IsIndexOf (Some text) index = MatchOption index ⊥ (IsNumber text)

-- The value of an option is this index; if it has none, the index is this default.
abbrev pub IsIndexOr : ℕ → Option (List ℕ) → ℕ → Type 0
IsIndexOr default None index = index ≡ default
IsIndexOr default (Some text) index = IsNumber text index

-- The value of an option is the last index before this one; if it has none, so are all indices.
abbrev pub IsEndOf : Option (List ℕ) → ℕ → Type 0
IsEndOf None until = until ≡ 2 ^ 64 - 1
IsEndOf (Some text) until = (last : ℕ) × IsNumber text last × (until ≡ min (last + 1) (2 ^ 64 - 1))

-- The range is from the index of one option to that of the other one, or to the end.
abbrev pub IsRangeOf : Found → Range → Type 0
IsRangeOf found range =
    IsIndexOr 0 (first_value found (codes "from")) range.from × IsEndOf (first_value found (codes "to")) range.until
    × (range.from ≤ range.until)
