-- The result of the call on the items of a stream.
use Rattle.std.specs.Prelude.{◌≡◌, ℕ, ◌+◌, ◌-◌, ◌<◌, ◌≤◌, List, [], ◌∷◌, ◌++◌, drop, length, Some, None, Result}
use Rattle.std.specs.Prelude.{Ok, Err}
use Rattle.shared_core_base.specs.declared.version.Version.{Version}
use Rattle.shared_core_base.specs.MessageHeader.{ack_bit}
use Rattle.shared_core_base.specs.MessageType.{code_of}
use Rattle.shared_core_stream.specs.declared.encoding.item.Item.{Item}
use Rattle.shared_core_stream.specs.declared.encoding.item.Item.TheVariants.{Message, Unknown as UnknownCode, Skipped}
use Rattle.shared_core_stream.specs.Items.{front_word, IsItem, NoItemBegins}
use Rattle.shared_core_stream.specs.Borrowed.{item_borrowed, missing_bytes}
use Rattle.shared_core_stream.specs.Limits.{too_long_at}
use Rattle.shared_core_stream.specs.declared.encoding.item_ref.ItemRef.{ItemRef}
use Rattle.shared_core_stream.specs.declared.encoding.limit_error.MessageTooLong.{MessageTooLong}
use Rattle.journal_c_api.specs.declared.items.ItemEntry.{ItemEntry}
use Rattle.journal_c_api.specs.declared.outcome.CallError.{CallError}
use Rattle.journal_c_api.specs.declared.outcome.CallError.TheVariants.{NoRoom, TooLong, UnknownVersion}
use Rattle.journal_c_api.specs.Outcomes.{supported_version, written_over}

-- Which of the three kinds an item is.
abbrev pub item_kind : Item → ℕ
item_kind (Message message) = 0
item_kind (UnknownCode code) = 1
item_kind (Skipped code payload) = 2

-- The code of an item's type, or the one that denotes none.
abbrev pub item_code : Item → ℕ
item_code (Message message) = code_of message.header.ty
item_code (UnknownCode code) = code
item_code (Skipped code payload) = code

-- Whether the header of an item requests an acknowledgement, as a number.
abbrev pub item_ack : Item → ℕ
item_ack (Message message) = ack_bit message.header.requested_ack
item_ack other = 0

-- The payload of an item; of an unknown code only the header is skipped.
abbrev pub item_payload : Item → List ℕ
item_payload (Message message) = message.payload
item_payload (UnknownCode code) = []
item_payload (Skipped code payload) = payload

-- The six numbers of an item of this word that takes this many bytes, the last of which are its payload.
abbrev pub item_numbers : ℕ → ℕ → Item → List ℕ
item_numbers word size item =
    item_kind item ∷ word ∷ item_code item ∷ item_ack item ∷ size ∷ (size - length (item_payload item)) ∷ []

-- An item is at the front of the bytes, and its numbers are written at the front of the slice.
abbrev pub WritesItem : Version → List ℕ → List ℕ → List ℕ → Type 0
WritesItem version bytes old new =
    (item : Item) × (first : List ℕ) × (rest : List ℕ) × IsItem version first item × (bytes ≡ first ++ rest)
    × (new ≡ written_over (item_numbers (front_word bytes) (length first) item) old)

-- The number of missing bytes of the item that the bytes begin with: with fewer bytes appended, no complete item is at
-- the front. If none are missing, the numbers of the item are written; otherwise the slice is unchanged.
pub record FindsItem (version : Version) (bytes old new : List ℕ) (missing : ℕ) : Type 0 where
  pub counted : missing ≡ missing_bytes version bytes
  pub needed : (more : List ℕ) → length more < missing → NoItemBegins version (bytes ++ more)
  pub found : missing ≡ 0 → WritesItem version bytes old new
  pub kept : 0 < missing → new ≡ old

-- The result of journal_next, and what it writes: UnknownVersion if the number denotes no version, otherwise NoRoom if
-- the slice has fewer than six numbers; after either the slice is unchanged.
abbrev pub WritesNext : ℕ → List ℕ → List ℕ → List ℕ → Result ℕ CallError → Type 0
WritesNext number bytes old new (Ok missing) =
    (version : Version) × (supported_version number ≡ Some version) × (6 ≤ length old) × FindsItem version bytes old new
    missing
WritesNext number bytes old new (Err UnknownVersion) = (supported_version number ≡ None) × (new ≡ old)
WritesNext number bytes old new (Err NoRoom) =
    (version : Version) × (supported_version number ≡ Some version) × (length old < 6) × (new ≡ old)
WritesNext number bytes old new (Err error) = ⊥

-- The result of journal_next_within, and what it writes: as journal_next, unless the message that the bytes begin with
-- is longer than the limit; then TooLong, and the slice is unchanged.
abbrev pub WritesNextWithin : ℕ → ℕ → List ℕ → List ℕ → List ℕ → Result ℕ CallError → Type 0
WritesNextWithin number limit bytes old new (Ok missing) =
    (version : Version) × (supported_version number ≡ Some version) × (6 ≤ length old)
    × (too_long_at version limit 0 bytes ≡ None) × FindsItem version bytes old new missing
WritesNextWithin number limit bytes old new (Err TooLong) =
    (version : Version) × (error : MessageTooLong) × (supported_version number ≡ Some version) × (6 ≤ length old)
    × (too_long_at version limit 0 bytes ≡ Some error) × (new ≡ old)
WritesNextWithin number limit bytes old new (Err error) = WritesNext number bytes old new (Err error)

-- The entry of an item of this word that takes this many bytes: the numbers of above.
abbrev pub entry_of : ℕ → ℕ → Item → ItemEntry
entry_of word size item = record {
  kind = item_kind item;
  word = word;
  code = item_code item;
  requested_ack = item_ack item;
  size = size;
  payload = size - length (item_payload item);
}

-- The entry of an item that is borrowed: of its word, its payload, and the eight bytes before that.
abbrev pub borrowed_entry : ItemRef → ItemEntry
borrowed_entry item = record {
  kind = item_kind (item_borrowed item);
  word = item.word;
  code = item_code (item_borrowed item);
  requested_ack = item_ack (item_borrowed item);
  size = 8 + length item.payload.now;
  payload = 8;
}

-- The bytes begin with the items of these entries, one after another, each within the limit; the rest comes after them.
abbrev pub AreListed : Version → ℕ → List ℕ → List ItemEntry → List ℕ → Type 0
AreListed version limit bytes [] rest = bytes ≡ rest
AreListed version limit bytes (entry ∷ entries) rest =
    (item : Item) × (first : List ℕ) × (after : List ℕ) × IsItem version first item × (bytes ≡ first ++ after)
    × (too_long_at version limit 0 bytes ≡ None) × (entry ≡ entry_of (front_word bytes) (length first) item)
    × AreListed version limit after entries rest

-- The result of journal_items, and what it writes: the entries of the first items at the front of the table, as many as
-- there are or it has room for. If the first message is longer than the limit, TooLong; after an error the table is
-- unchanged.
abbrev pub WritesItems : ℕ → ℕ → List ℕ → List ItemEntry → List ItemEntry → Result ℕ CallError → Type 0
WritesItems number limit bytes old new (Ok count) =
    (version : Version) × (entries : List ItemEntry) × (rest : List ℕ) × (supported_version number ≡ Some version)
    × (too_long_at version limit 0 bytes ≡ None) × (length entries ≡ count) × (count ≤ length old)
    × (new ≡ entries ++ drop count old) × AreListed version limit bytes entries rest
    × (count < length old → too_long_at version limit 0 rest ≡ None → NoItemBegins version rest)
WritesItems number limit bytes old new (Err UnknownVersion) = (supported_version number ≡ None) × (new ≡ old)
WritesItems number limit bytes old new (Err TooLong) =
    (version : Version) × (error : MessageTooLong) × (supported_version number ≡ Some version)
    × (too_long_at version limit 0 bytes ≡ Some error) × (new ≡ old)
WritesItems number limit bytes old new (Err error) = ⊥
