-- What a visitor of a stream has seen when the reading ends.
use Rattle.std.specs.Prelude.{◌≡◌, ◌<◌, ◌≤◌, ◌^◌, ℕ, List, [], ◌∷◌, ◌++◌, length, Result, Ok, Err}
use Rattle.std.specs.Prelude.{Option, Some, None}
use Rattle.std.specs.Io.KnownBytes.{IsAtEnd}
use Rattle.shared_core_base.specs.declared.version.Version.{Version}
use Rattle.shared_core_stream.specs.declared.encoding.item.Item.{Item}
use Rattle.shared_core_stream.specs.Items.{IsItemsThen, SplitsInto}
use Rattle.stream_lines.specs.declared.error.PrintError.{PrintError}
use Rattle.stream_lines.specs.declared.error.PrintError.TheVariants.{Input, Output, OutOfMemory, TooLong}
use Rattle.stream_lines.specs.declared.error.PrintError.TheVariants.{MessageTooLong}
use Rattle.stream_lines.specs.Printing.{items_size, AllWithin, AreWithin, EndsTooLong, IsLongIn}

-- There are so few items that their counts fit.
abbrev pub IsSmall : List Item → Type 0
IsSmall items = (length items < 2 ^ 64) × (items_size items < 2 ^ 127)

-- What the reading of a stream says: at its end, that all items were seen, each within the limit, and how many bytes
-- are after them; or that one of the items is too long for the visitor, or which message is longer than the limit.
abbrev pub AreVisited : (List Item → Type 0) → (Item → Type 0) → Version → ℕ → Result ℕ PrintError → List ℕ →
    Option (List ℕ) → Type 0
AreVisited seen is_long version limit (Ok count) read left =
    IsAtEnd left × ((items : List Item) × (rest : List ℕ) × SplitsInto version read items rest
    × AreWithin version limit items rest × seen items × (count ≡ length rest))
AreVisited seen is_long version limit (Err (MessageTooLong error)) read left =
    (items : List Item) × EndsTooLong version limit read items error
AreVisited seen is_long version limit (Err TooLong) read left = IsLongIn is_long version read
AreVisited seen is_long version limit (Err Output) read left = ⊥
AreVisited seen is_long version limit (Err Input) read left = Unit {0}
AreVisited seen is_long version limit (Err OutOfMemory) read left = Unit {0}

-- What the reading of a stream for the item of an index says: that item, which comes after as many as the index is; or
-- at the end, that there are no more than that many; or which message before it, or in its place, is longer than the
-- limit.
abbrev pub IsItemAt : Version → ℕ → ℕ → Result (Option Item) PrintError → List ℕ → Option (List ℕ) → Type 0
IsItemAt version limit index (Ok (Some item)) read left =
    (items : List Item) × (rest : List ℕ) × IsItemsThen version read (items ++ item ∷ []) rest
    × AllWithin limit (items ++ item ∷ []) × (length items ≡ index)
IsItemAt version limit index (Ok None) read left =
    IsAtEnd left × ((items : List Item) × (rest : List ℕ) × SplitsInto version read items rest
    × AreWithin version limit items rest × (length items ≤ index))
IsItemAt version limit index (Err (MessageTooLong error)) read left =
    (items : List Item) × EndsTooLong version limit read items error × (length items ≤ index)
IsItemAt version limit index (Err TooLong) read left = ⊥
IsItemAt version limit index (Err Output) read left = ⊥
IsItemAt version limit index (Err Input) read left = Unit {0}
IsItemAt version limit index (Err OutOfMemory) read left = Unit {0}
