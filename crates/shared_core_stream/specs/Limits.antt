-- Streams of which only messages within a limit are taken.
use Rattle.std.specs.Prelude.{◌≡◌, ℕ, ◌+◌, ◌-◌, ◌^◌, ◌≤◌, nat_lt, min, if◌then◌else◌, List, [], length, All}
use Rattle.std.specs.Prelude.{Option, Some, None, Result, Ok, Err}
use Rattle.std.specs.Option.{option_or}
use Rattle.shared_core_base.specs.declared.version.Version.{Version}
use Rattle.shared_core_base.specs.MessageHeader.{word_code}
use Rattle.shared_core_stream.specs.Items.{IsItemsThen, PayloadIsNext, TakesItem, NoItemBegins}
use Rattle.shared_core_stream.specs.Items.{body_length, front_word}
use Rattle.shared_core_stream.specs.Unread.{Unread}
use Rattle.shared_core_stream.specs.declared.encoding.item.Item.{Item}
use Rattle.shared_core_stream.specs.declared.encoding.item.Item.TheVariants.{Message, Unknown, Skipped}
use Rattle.shared_core_stream.specs.declared.encoding.limit_error.MessageTooLong.{MessageTooLong}
use Rattle.shared_core_stream.specs.declared.encoding.error.ItemError.{ItemError}
use Rattle.shared_core_stream.specs.declared.encoding.error.ItemError.TheVariants as error

-- The number of bytes of an item after its first eight.
abbrev pub payload_length : Item → ℕ
payload_length (Message message) = length message.payload
payload_length (Unknown code) = 0
payload_length (Skipped code payload) = length payload

-- The message that a word announces at an offset, if it is longer than the limit.
unfoldable pub too_long_by : Version → ℕ → ℕ → ℕ → Option MessageTooLong
too_long_by version limit offset word =
    if nat_lt limit (body_length version word)
    then Some (record { code = word_code word; length = body_length version word; limit = limit; offset = offset })
    else None

-- The message that the bytes at an offset begin with, if it is longer than the limit. Its payload need not be complete.
abbrev pub too_long_at : Version → ℕ → ℕ → List ℕ → Option MessageTooLong
too_long_at version limit offset bytes =
    if nat_lt (length bytes) 8 then None else too_long_by version limit offset (front_word bytes)

-- An offset after a number of bytes more, or 2^64 - 1 from there on.
abbrev pub offset_after : ℕ → ℕ → ℕ
offset_after offset count = min (offset + count) (2 ^ 64 - 1)

-- An item within the limit is at the front of the old bytes, and the new bytes are those after it.
abbrev pub TakesWithin : Version → ℕ → List ℕ → Item → List ℕ → Type 0
TakesWithin version limit old item new = TakesItem version old item new × (payload_length item ≤ limit)

-- The stream is these items, each within the limit, and a rest that no further one is at the front of.
pub record SplitsWithin (version : Version) (limit : ℕ) (stream : List ℕ) (items : List Item) (rest : List ℕ)
    : Type 0 where
  pub items_then : IsItemsThen version stream items rest
  pub within : All (λ item. payload_length item ≤ limit) items
  pub no_more : (item : Item) (others : List ℕ) → TakesWithin version limit rest item others → ⊥

-- The message that is rejected: that which has been, otherwise that at the front of the pending bytes, if it is too
-- long.
abbrev pub rejection : Unread → Option MessageTooLong
rejection state = option_or state.rejected (too_long_at state.version state.limit state.offset state.bytes)

-- The decoder after a message was rejected: it holds nothing.
abbrev pub after_rejection : Unread → MessageTooLong → Unread
after_rejection state error = record state { bytes = []; rejected = Some error }

-- The decoder after an item was taken, if these bytes are left.
abbrev pub after_item : Unread → List ℕ → Unread
after_item state bytes =
    record state { bytes = bytes; offset = offset_after state.offset (length state.bytes - length bytes) }

-- The next item was asked for. If a message was rejected, or the one at the front is too long, the error is `TooLong`,
-- and nothing is held any more. Otherwise: `None` if and only if no complete item is at the front, and nothing changes;
-- the item at the front, which is taken; or an allocation failed for an item with a payload, and nothing changes.
abbrev pub ReturnsWithin : Unread → Result (Option Item) ItemError → Unread → Type 0
ReturnsWithin old (Err error.TooLong) new =
    (message : MessageTooLong) × (rejection old ≡ Some message) × (new ≡ after_rejection old message)
ReturnsWithin old (Err error.OutOfMemory) new =
    (rejection old ≡ None) × PayloadIsNext old.version old.bytes × (new ≡ old)
ReturnsWithin old (Ok None) new =
    (rejection old ≡ None) × NoItemBegins old.version old.bytes × (new ≡ old) × (length old.bytes ≤ old.limit + 7)
ReturnsWithin old (Ok (Some item)) new =
    (rejection old ≡ None) × TakesWithin old.version old.limit old.bytes item new.bytes
    × (new ≡ after_item old new.bytes)
