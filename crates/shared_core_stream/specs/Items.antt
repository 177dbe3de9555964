-- The items of a stream: which bytes encode an item, and how a stream splits into items and a rest.
--
-- A version decides how many bytes belong to a header, so each of these relations takes it. Only `body_length` and
-- `item_of` depend on it, by whether it skips unknown messages. Versions 5 to 8 read headers alike.
use Rattle.std.specs.Prelude.{◌≡◌, ℕ, ◌+◌, ◌^◌, ◌<◌, ◌≤◌, if◌then◌else◌, List, [], ◌∷◌, ◌++◌, length, take, drop, None}
use Rattle.std.specs.Option.{option_map_or}
use Rattle.std.specs.Int.{w64, from_be_bytes}
use Rattle.shared_core_base.specs.declared.version.Version.{Version}
use Rattle.shared_core_base.specs.MessageHeader.{header_of, word_code, word_length}
pub use Rattle.shared_core_base.specs.Version.{skips_unknown_messages}
use Rattle.shared_core_stream.specs.Unread.{Unread}
use Rattle.shared_core_stream.specs.declared.encoding.item.Item.{Item}
use Rattle.shared_core_stream.specs.declared.encoding.item.Item.TheVariants.{Message, Unknown, Skipped}
use Rattle.shared_core_stream.specs.declared.encoding.error.PushError.{PushError}
use Rattle.shared_core_stream.specs.declared.encoding.error.PushError.TheVariants.{OutOfMemory as NoMemory, TooLong}

-- The number that the first eight bytes encode, the first byte highest.
unfoldable pub front_word : List ℕ → ℕ
front_word bytes = from_be_bytes w64 (take 8 bytes)

-- The number of bytes of an item after its first eight: the length in its header; for an unassigned code, the length in
-- its word if the version skips such a message, otherwise 0.
unfoldable pub body_length : Version → ℕ → ℕ
body_length version word =
    option_map_or (λ header. header.length) (header_of word)
    (if skips_unknown_messages version then word_length word else 0)

-- The item that a word and the bytes after it are: a message with its payload; or an unassigned code, with its payload
-- if the version skips such a message, otherwise without one.
unfoldable pub item_of : Version → ℕ → List ℕ → Item
item_of version word body =
    option_map_or (λ header. Message (record { header = header; payload = body })) (header_of word)
    (if skips_unknown_messages version then Skipped (word_code word) body else Unknown (word_code word))

-- The bytes encode the item: eight whose word determines the item, and after them as many as that word has it.
pub record IsItem (version : Version) (bytes : List ℕ) (item : Item) : Type 0 where
  pub whole : length bytes ≡ 8 + body_length version (front_word bytes)
  pub means : item ≡ item_of version (front_word bytes) (drop 8 bytes)

-- The bytes are encodings of these items, one after the other.
abbrev pub AreItems : Version → List ℕ → List Item → Type 0
AreItems version bytes [] = bytes ≡ []
AreItems version bytes (item ∷ items) =
    (first : List ℕ) × (others : List ℕ) × IsItem version first item × AreItems version others items ×
    (bytes ≡ first ++ others)

-- An item is at the front of the old bytes, and the new bytes are those after it.
abbrev pub TakesItem : Version → List ℕ → Item → List ℕ → Type 0
TakesItem version old item new = (first : List ℕ) × IsItem version first item × (old ≡ first ++ new)

-- No complete item is at the front of the bytes.
abbrev pub NoItemBegins : Version → List ℕ → Type 0
NoItemBegins version bytes = (item : Item) (rest : List ℕ) → TakesItem version bytes item rest → ⊥

-- The stream is encodings of these items, and after them these bytes.
pub record IsItemsThen (version : Version) (stream : List ℕ) (items : List Item) (rest : List ℕ) : Type 0 where
  pub front : List ℕ
  pub encoded : AreItems version front items
  pub whole : stream ≡ front ++ rest

-- The stream splits into these items and a rest that no item begins.
pub record SplitsInto (version : Version) (stream : List ℕ) (items : List Item) (rest : List ℕ) : Type 0 where
  pub items_then : IsItemsThen version stream items rest
  pub no_more : NoItemBegins version rest

-- Whatever items were written at the front of the stream, and whatever follows them, the list begins with them.
abbrev pub BeginsWithWritten : Version → List ℕ → List Item → Type 0
BeginsWithWritten version stream items =
    (written : List Item) (rest : List ℕ) → IsItemsThen version stream written rest → (others : List Item) ×
    (items ≡ written ++ others)

-- The item has a payload, which may be empty.
abbrev pub HasPayload : Item → Type 0
HasPayload (Unknown code) = ⊥
HasPayload item = Unit {0}

-- A complete item with a payload is next.
abbrev pub PayloadIsNext : Version → List ℕ → Type 0
PayloadIsNext version bytes = (item : Item) × (rest : List ℕ) × TakesItem version bytes item rest × HasPayload item

-- A rejected chunk is returned unchanged. It is too long if and only if the bytes would be 2 ^ 64 or more, or a message
-- was rejected before.
abbrev pub PushFails : Unread → List ℕ → PushError → Type 0
PushFails old chunk (NoMemory back) =
    (back ≡ chunk) × (old.rejected ≡ None) × (length old.bytes + length chunk < 2 ^ 64)
PushFails old chunk (TooLong back) =
    (back ≡ chunk) × (old.rejected ≡ None → 2 ^ 64 ≤ length old.bytes + length chunk)
