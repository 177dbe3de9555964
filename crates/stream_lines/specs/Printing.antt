-- What is written when the printing of a stream ends: one line for each of its items, and last one for the bytes that
-- are in none.
use Rattle.std.specs.Prelude.{◌≡◌, ◌⊎◌, ◌≤◌, ℕ, ◌+◌, All, Some, List, [], ◌∷◌, ◌++◌, length, drop, codes}
use Rattle.std.specs.Prelude.{Result, Ok, Err, Option, None}
use Rattle.std.specs.Option.{option_map, option_or}
use Rattle.std.specs.Io.KnownBytes.{IsAtEnd}
use Rattle.shared_core_base.specs.declared.version.Version.{Version}
use Rattle.shared_core_stream.specs.declared.encoding.item.Item.{Item}
use Rattle.shared_core_stream.specs.declared.encoding.limit_error.MessageTooLong.{MessageTooLong as Longer}
use Rattle.shared_core_stream.specs.Errors.{message_too_long_text}
use Rattle.shared_core_stream.specs.Items.{front_word, IsItemsThen, SplitsInto}
use Rattle.shared_core_stream.specs.Limits.{offset_after, payload_length, too_long_at}
use Rattle.stream_lines.specs.declared.report.Report.{Report}
use Rattle.stream_lines.specs.declared.report.Trouble.{Trouble}
use Rattle.stream_lines.specs.declared.error.PrintError.{PrintError}
use Rattle.stream_lines.specs.declared.error.PrintError.TheVariants.{Input, Output, OutOfMemory, TooLong}
use Rattle.stream_lines.specs.declared.error.PrintError.TheVariants.{MessageTooLong}

-- The number of bytes of an item.
abbrev pub item_size : Item → ℕ
item_size item = 8 + payload_length item

-- The number of bytes of some items.
abbrev pub items_size : List Item → ℕ
items_size [] = 0
items_size (item ∷ items) = item_size item + items_size items

-- The lines of items that the bytes begin with, the first of which begins at an offset: each by its offset, the word of
-- its header and the item.
abbrev pub lines : (ℕ → ℕ → Item → List ℕ) → ℕ → List ℕ → List Item → List ℕ
lines line at bytes [] = []
lines line at bytes (item ∷ items) =
    line at (front_word bytes) item ++ lines line (at + item_size item) (drop (item_size item) bytes) items

-- All that is written for a stream of these items and these remaining bytes: the lines of the items, and the last line.
abbrev pub all_lines : (ℕ → ℕ → Item → List ℕ) → (ℕ → List ℕ → List ℕ) → List ℕ → List Item → List ℕ → List ℕ
all_lines line last stream items rest = lines line 0 stream items ++ last (items_size items) rest

-- The error of an item, with the offset at which the item begins.
abbrev pub trouble_at : (Item → Option Trouble) → ℕ → Item → Option (ℕ × Trouble)
trouble_at trouble at item = option_map (λ what. (at, what)) (trouble item)

-- The first error of items, the first of which begins at an offset.
abbrev pub first_trouble : (Item → Option Trouble) → ℕ → List Item → Option (ℕ × Trouble)
first_trouble trouble at [] = None
first_trouble trouble at (item ∷ items) = option_or (trouble_at trouble at item)
    (first_trouble trouble (at + item_size item) items)

-- The report on a stream of these items and these remaining bytes.
pub record IsReport (trouble : Item → Option Trouble) (items : List Item) (rest : List ℕ) (report : Report) : Type 0
  where
    pub first : report.trouble ≡ first_trouble trouble 0 items
    pub end : report.end ≡ items_size items
    pub count : report.rest ≡ length rest

-- The list is a prefix of the whole.
abbrev pub Begins : {A : Type 0} → List A → List A → Type 0
Begins front whole = (more : List _) × (whole ≡ front ++ more)

-- One of the items that the bytes begin with is too long for a line.
abbrev pub IsLongIn : (Item → Type 0) → Version → List ℕ → Type 0
IsLongIn is_long version bytes = (front : List Item) × (item : Item) × (rest : List ℕ) × IsItemsThen version bytes
    (front ++ item ∷ []) rest × is_long item

-- The error is that a line cannot be made: a failed allocation, or an item that is too long.
abbrev pub IsLack : Type 0 → PrintError → Type 0
IsLack is_long OutOfMemory = Unit {0}
IsLack is_long TooLong = is_long
IsLack is_long error = ⊥

-- The message that the bytes after some items begin with, if it is longer than the limit.
abbrev pub too_long_after : Version → ℕ → List Item → List ℕ → Option Longer
too_long_after version limit items rest = too_long_at version limit (offset_after 0 (items_size items)) rest

-- Each of the items is within the limit.
abbrev pub AllWithin : ℕ → List Item → Type 0
AllWithin limit items = All (λ item. payload_length item ≤ limit) items

-- Each of the items is within the limit, and no longer message is after them.
abbrev pub AreWithin : Version → ℕ → List Item → List ℕ → Type 0
AreWithin version limit items rest = AllWithin limit items × (too_long_after version limit items rest ≡ None)

-- These items, each within the limit, are at the front of the stream, and after them is a message that is longer.
abbrev pub EndsTooLong : Version → ℕ → List ℕ → List Item → Longer → Type 0
EndsTooLong version limit stream items error =
    (rest : List ℕ) × IsItemsThen version stream items rest × AllWithin limit items
    × (too_long_after version limit items rest ≡ Some error)

-- The first items, each of which is within the limit.
abbrev pub AreFirst : ℕ → List Item → List Item → Type 0
AreFirst limit done items = Begins done items × AllWithin limit done

-- What is written for each result, for a stream of these items and these remaining bytes, and what the reader has left:
-- all lines and the report, at the input's end; the lines of all items; a prefix of the lines of the first items or, at
-- the input's end, of all lines; the lines of the first items; those of the items before one that is too long; or those
-- of the items before the first message that is longer than the limit. No line is of such a message or of what is after
-- it: where all items have their lines there is none, and otherwise the first items are before it.
abbrev pub IsWrittenFor : Version → ℕ → (ℕ → ℕ → Item → List ℕ) → (ℕ → List ℕ → List ℕ) → (Item → Type 0) →
    (Item → Option Trouble) → Result Report PrintError → List ℕ → List Item → List ℕ → List ℕ → Option (List ℕ) →
    Type 0
IsWrittenFor version limit line last is_long trouble (Ok report) stream items rest written left =
    IsAtEnd left × (written ≡ all_lines line last stream items rest) × IsReport trouble items rest report
    × AreWithin version limit items rest
IsWrittenFor version limit line last is_long trouble (Err Input) stream items rest written left =
    (written ≡ lines line 0 stream items) × AreWithin version limit items rest
IsWrittenFor version limit line last is_long trouble (Err Output) stream items rest written left =
    ((done : List Item) × AreFirst limit done items × Begins written (lines line 0 stream done))
    ⊎ (IsAtEnd left × Begins written (all_lines line last stream items rest) × AreWithin version limit items rest)
IsWrittenFor version limit line last is_long trouble (Err OutOfMemory) stream items rest written left =
    (done : List Item) × AreFirst limit done items × (written ≡ lines line 0 stream done)
IsWrittenFor version limit line last is_long trouble (Err TooLong) stream items rest written left =
    (done : List Item) × (front : List Item) × (item : Item) × Begins (done ++ (front ++ item ∷ [])) items × is_long
    item × AllWithin limit done × (written ≡ lines line 0 stream done)
IsWrittenFor version limit line last is_long trouble (Err (MessageTooLong error)) stream items rest written left =
    (done : List Item) × EndsTooLong version limit stream done error × (written ≡ lines line 0 stream done)

-- The bytes that were read split into these items and these remaining bytes, as every stream does in one way, and what
-- is written is as the result says.
pub record ArePrinted (line : ℕ → ℕ → Item → List ℕ) (last : ℕ → List ℕ → List ℕ) (is_long : Item → Type 0)
    (trouble : Item → Option Trouble) (version : Version) (limit : ℕ) (result : Result Report PrintError)
    (read written : List ℕ) (left : Option (List ℕ)) : Type 0 where
  pub items : List Item
  pub rest : List ℕ
  pub split : SplitsInto version read items rest
  pub written_for : IsWrittenFor version limit line last is_long trouble result read items rest written left

-- The text of an error.
abbrev pub error_text : PrintError → List ℕ
error_text Input = codes "input failed"
error_text Output = codes "output failed"
error_text OutOfMemory = codes "out of memory"
error_text TooLong = codes "an item is too long for a line"
error_text (MessageTooLong message) = message_too_long_text message
