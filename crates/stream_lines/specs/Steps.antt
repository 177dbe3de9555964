-- What each step of the loop that prints adds.
use Rattle.std.specs.Prelude.{◌≡◌, ℕ, ◌+◌, ◌≤◌, All, List, ◌++◌, Option, Some, None}
use Rattle.std.specs.Option.{option_or}
use Rattle.shared_core_base.specs.declared.version.Version.{Version}
use Rattle.shared_core_stream.specs.declared.encoding.item.Item.{Item}
use Rattle.shared_core_stream.specs.declared.encoding.limit_error.MessageTooLong.{MessageTooLong as Longer}
use Rattle.shared_core_stream.specs.Items.{IsItemsThen, NoItemBegins}
use Rattle.shared_core_stream.specs.Limits.{offset_after, payload_length, too_long_at}
use Rattle.shared_core_stream.specs.Unread.{Unread}
use Rattle.stream_lines.specs.Printing.{first_trouble, items_size, lines}
use Rattle.stream_lines.specs.declared.report.Trouble.{Trouble}

-- Items at the front of the bytes, the first of which begins at an offset, each within the limit, were added to the
-- text, to the offset and to the first error; these bytes are left.
pub record Added (line : ℕ → ℕ → Item → List ℕ) (trouble : Item → Option Trouble) (version : Version) (limit : ℕ)
    (at : ℕ) (before : Option (ℕ × Trouble)) (text : List ℕ) (bytes : List ℕ) (offset : ℕ)
    (found : Option (ℕ × Trouble)) (longer rest : List ℕ) : Type 0 where
  pub more : List Item
  pub next : IsItemsThen version bytes more rest
  pub within : All (λ item. payload_length item ≤ limit) more
  pub printed : longer ≡ text ++ lines line at bytes more
  pub place : offset ≡ at + items_size more
  pub noted : found ≡ option_or before (first_trouble trouble at more)

-- What is held of a stream after the items up to an offset, if it is these bytes.
abbrev pub holding : Version → ℕ → ℕ → List ℕ → Unread
holding version limit offset bytes = record {
  version = version;
  bytes = bytes;
  limit = limit;
  offset = offset_after 0 offset;
  rejected = None;
}

-- No complete item is at the front of these bytes, nor a message that is longer than the limit, and they are held.
abbrev pub AreLeft : Version → ℕ → ℕ → List ℕ → Unread → Type 0
AreLeft version limit offset rest state =
    NoItemBegins version rest × (too_long_at version limit (offset_after 0 offset) rest ≡ None)
    × (state ≡ holding version limit offset rest)

-- What is after the items that were held, by what was returned: bytes that are left, or a message that is longer than
-- the limit.
abbrev pub IsAfter : Version → ℕ → Option Longer → ℕ → List ℕ → Unread → Type 0
IsAfter version limit None offset rest state = AreLeft version limit offset rest state
IsAfter version limit (Some message) offset rest state =
    too_long_at version limit (offset_after 0 offset) rest ≡ Some message
