-- Where the commands of a range are among the items of a stream, and which items a part keeps.
use Rattle.std.specs.Prelude.{◌≡◌, ℕ, ◌+◌, ◌-◌, ◌^◌, ◌<◌, zero, suc, Bool, true, false, ◌==◌, ◌&&◌, nat_lt, nat_le}
use Rattle.std.specs.Prelude.{is_some, if◌then◌else◌, List, [], ◌∷◌, length, drop, count_by}
use Rattle.std.specs.Prelude.{Option, Some, None, Result, Ok, Err}
use Rattle.std.specs.Option.{option_map_or}
use Rattle.std.specs.Io.KnownBytes.{IsAtEnd}
use Rattle.shared_core_base.specs.declared.header.MessageType.{MessageType}
use Rattle.shared_core_base.specs.declared.header.MessageType.TheVariants as types
use Rattle.shared_core_base.specs.declared.version.Version.{Version}
use Rattle.shared_core_base.specs.CommandType.{command_type_of}
use Rattle.shared_core_base.specs.MessageType.{code_of}
use Rattle.shared_core_stream.specs.declared.encoding.item.Item.{Item}
use Rattle.shared_core_stream.specs.declared.encoding.item.Item.TheVariants.{Message, Unknown, Skipped}
use Rattle.shared_core_stream.specs.declared.encoding.raw_message.RawMessage.{RawMessage}
use Rattle.shared_core_stream.specs.Items.{SplitsInto}
use Rattle.stream_lines.specs.Printing.{item_size, items_size, AreWithin, EndsTooLong}
use Rattle.stream_parts.specs.declared.copy.Part.{Part}
use Rattle.stream_parts.specs.declared.error.LocateError.{LocateError}
use Rattle.stream_parts.specs.declared.error.LocateError.TheVariants.{Input, OutOfMemory, MessageTooLong}
use Rattle.stream_parts.specs.declared.located.Located.{Located}
use Rattle.stream_parts.specs.declared.located.Totals.{Totals}
use Rattle.stream_parts.specs.declared.range.Range.{Range}

-- Whether an item is a command: a message whose type has a command type.
abbrev pub is_command : Item → Bool
is_command (Message message) = is_some (command_type_of message.header.ty)
is_command (Unknown code) = false
is_command (Skipped code payload) = false

-- Whether an item is an entry of a journal: a command, a notification or a custom entry, as its code says.
abbrev pub is_entry : Item → Bool
is_entry (Message message) = nat_le 0x0400 (code_of message.header.ty)
is_entry (Unknown code) = false
is_entry (Skipped code payload) = false

-- Whether a type is that of the start message.
abbrev pub is_start : MessageType → Bool
is_start types.Start = true
is_start ty = false

-- The start message that an item is, if it is one.
abbrev pub start_of_item : Item → Option RawMessage
start_of_item (Message message) = if is_start message.header.ty then Some message else None
start_of_item (Unknown code) = None
start_of_item (Skipped code payload) = None

-- The start message of items: the first one, if it is one.
abbrev pub start_of : List Item → Option RawMessage
start_of [] = None
start_of (item ∷ items) = start_of_item item

-- The items before the command of an index, counted from 0; all, if there are no more commands than that.
abbrev pub before_command : ℕ → List Item → List Item
before_command index [] = []
before_command zero (item ∷ items) = if is_command item then [] else item ∷ before_command zero items
before_command (suc index) (item ∷ items) =
    item ∷ before_command (if is_command item then index else suc index) items

-- The items of a range: from its first command to before the first command after it.
abbrev pub range_items : Range → List Item → List Item
range_items range items = drop (length (before_command range.from items)) (before_command range.until items)

-- Items without the start message before them, if there is one.
abbrev pub without_start : List Item → List Item
without_start items = drop (if is_some (start_of items) then 1 else 0) items

-- What items amount to.
abbrev pub totals_of : List Item → Totals
totals_of items = record {
  commands = count_by is_command items;
  entries = count_by is_entry items;
  size = items_size items;
}

-- What items amount to that amount to this, with one item more.
abbrev pub totals_with : Totals → Item → Totals
totals_with totals item = record {
  commands = totals.commands + (if is_command item then 1 else 0);
  entries = totals.entries + (if is_entry item then 1 else 0);
  size = totals.size + item_size item;
}

-- Where a range is in a stream that has these items, and after them this many bytes.
abbrev pub located_in : Range → List Item → ℕ → Located
located_in range items rest = record {
  start = start_of (before_command 0 items);
  front = totals_of (before_command 0 items);
  from = totals_of (before_command range.from items);
  until = totals_of (before_command range.until items);
  all = totals_of items;
  rest = rest;
}

-- Whether a stream of this many commands lacks one of a range: the last one, or, of a range to the end of the stream
-- that does not begin at its front, the first one.
abbrev pub lacks : Range → ℕ → Bool
lacks range commands =
    if range.until == 2 ^ 64 - 1
    then (nat_lt 0 range.from && nat_le commands range.from)
    else nat_lt commands range.until

-- The number of entries that are kept.
abbrev pub kept_entries : Located → ℕ
kept_entries located = located.front.entries + (located.until.entries - located.from.entries)

-- The number of bytes of the start message; 0 if there is none.
abbrev pub start_size : Located → ℕ
start_size located = option_map_or (λ (message : RawMessage). 8 + length message.payload) located.start 0

-- The bytes that are kept: those before the first command, without the start message, and those of the range.
abbrev pub part_of : Located → Part
part_of located = record {
  after = start_size located;
  front = located.front.size;
  from = located.from.size;
  until = located.until.size;
}

-- There are so few items that their counts fit.
abbrev pub IsSmall : List Item → Type 0
IsSmall items = (length items < 2 ^ 64 - 1) × (items_size items < 2 ^ 127)

-- What the reading of a stream found: at its end, where the range is, no message being longer than the limit; or the
-- first message that is longer.
abbrev pub IsLocated : Version → ℕ → Range → Result Located LocateError → List ℕ → Option (List ℕ) → Type 0
IsLocated version limit range (Ok located) read left =
    IsAtEnd left × ((items : List Item) × (rest : List ℕ) × SplitsInto version read items rest
    × AreWithin version limit items rest × (located ≡ located_in range items (length rest)))
IsLocated version limit range (Err (MessageTooLong error)) read left =
    (items : List Item) × EndsTooLong version limit read items error
IsLocated version limit range (Err Input) read left = Unit {0}
IsLocated version limit range (Err OutOfMemory) read left = Unit {0}
