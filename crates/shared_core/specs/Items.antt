-- What `consume_next` returns, over the items of a stream.
use Rattle.std.specs.Prelude.{◌≡◌, ℕ, ◌+◌, ◌≤◌, List, length, Option, Some, None, Result, Ok, Err}
use Rattle.shared_core_base.specs.declared.version.Version.{Version}
use Rattle.shared_core_stream.specs.declared.encoding.item.Item.TheVariants.{Message, Unknown, Skipped}
use Rattle.shared_core_stream.specs.declared.encoding.raw_message.RawMessage.{RawMessage}
-- Re-exported, so that a caller cites the definitions of items by this crate's name.
pub use Rattle.shared_core_stream.specs.Items.{skips_unknown_messages, front_word, body_length, item_of}
pub use Rattle.shared_core_stream.specs.Items.{IsItem, AreItems, TakesItem, NoItemBegins, IsItemsThen, SplitsInto}
pub use Rattle.shared_core_stream.specs.Items.{BeginsWithWritten, HasPayload, PayloadIsNext, PushFails}
use Rattle.shared_core.specs.declared.encoding.error.DecodingError.{DecodingError}
use Rattle.shared_core.specs.declared.encoding.error.DecodingError.TheVariants.{UnknownMessageType, SkippedMessage}
use Rattle.shared_core.specs.declared.encoding.error.DecodingError.TheVariants.{OutOfMemory}

-- What a result says of the bytes before the call, and which bytes are left: the next message is taken; no item is
-- whole; an unknown code's eight bytes are taken; a skipped message is taken; or an allocation failed for a whole
-- message or a skipped one, and all bytes are left.
abbrev pub ReturnsNext : Version → List ℕ → Result (Option RawMessage) DecodingError → List ℕ → Type 0
ReturnsNext version old (Ok (Some message)) new = TakesItem version old (Message message) new
ReturnsNext version old (Ok None) new = NoItemBegins version old × (new ≡ old)
ReturnsNext version old (Err (UnknownMessageType unknown)) new = TakesItem version old (Unknown unknown.0) new
ReturnsNext version old (Err (SkippedMessage code payload)) new = TakesItem version old (Skipped code payload) new
ReturnsNext version old (Err OutOfMemory) new = (new ≡ old) × PayloadIsNext version old
ReturnsNext version old (Err other) new = ⊥

-- Each result leaves at least eight bytes fewer, except that no item is whole or that an allocation failed.
abbrev pub TakesEight : List ℕ → Result (Option RawMessage) DecodingError → List ℕ → Type 0
TakesEight old (Ok None) new = Unit {0}
TakesEight old (Err OutOfMemory) new = Unit {0}
TakesEight old returned new = length new + 8 ≤ length old
