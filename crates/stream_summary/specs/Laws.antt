-- What the counts and the longest payloads of a summary are, of all items.
use Rattle.std.specs.Prelude.{◌≡◌, ◌≤◌, ◌⊎◌, ℕ, ◌+◌, Bool, List, [], ◌∷◌, ◌++◌, length, nat_le, if◌then◌else◌}
use Rattle.shared_core_base.specs.declared.version.Version.{Version}
use Rattle.shared_core_stream.specs.declared.encoding.item.Item.{Item}
use Rattle.shared_core_stream.specs.Limits.{payload_length}
use Rattle.stream_lines.specs.Printing.{item_size}
use Rattle.show_lines.specs.Lines.{item_name}
use Rattle.stream_summary.specs.Counts.{count_with, no_items}
use Rattle.stream_summary.specs.Largest.{nothing_long, Long, Longest}
use Rattle.stream_summary.specs.declared.count.Count.{Count}

-- How many items pass a test, and how many bytes they have.
abbrev pub count_of : (Item → Bool) → List Item → Count
count_of test [] = no_items
count_of test (item ∷ items) = count_with (test item) (item_size item) (count_of test items)

-- How many items have a payload that is longer than this.
abbrev pub count_longer : ℕ → List Item → ℕ
count_longer size [] = 0
count_longer size (item ∷ items) = (if nat_le (payload_length item) size then 0 else 1) + count_longer size items

-- This is the payload of one of the items, named as lines name the item; or no item.
abbrev pub IsOneOf : Version → List Item → Long → Type 0
IsOneOf version items long = (long ≡ nothing_long)
    ⊎ ((before : List Item) × (item : Item) × (after : List Item) × (items ≡ before ++ item ∷ after)
    × (long ≡ record { size = payload_length item; text = item_name version (length before) item }))

-- These are the three longest payloads of items: each is of one of them, the longer ones come first, and no more items
-- have a longer payload than come before it.
pub record AreLongest (version : Version) (items : List Item) (longest : Longest) : Type 0 where
  pub first : IsOneOf version items longest.first
  pub second : IsOneOf version items longest.second
  pub third : IsOneOf version items longest.third
  pub first_two : longest.second.size ≤ longest.first.size
  pub last_two : longest.third.size ≤ longest.second.size
  pub none_longer : count_longer longest.first.size items ≤ 0
  pub one_longer : count_longer longest.second.size items ≤ 1
  pub two_longer : count_longer longest.third.size items ≤ 2
