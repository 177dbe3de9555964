-- Items that are borrowed from the bytes of a slice, and what the first eight bytes of an item announce.
use Rattle.std.specs.Prelude.{◌≡◌, ℕ, ◌+◌, ◌-◌, ◌<◌, nat_lt, List, ◌++◌, length, take, Option, Some, None}
use Rattle.std.specs.Prelude.{if◌then◌else◌}
use Rattle.shared_core_base.specs.declared.version.Version.{Version}
use Rattle.shared_core_stream.specs.Items.{NoItemBegins, TakesItem, body_length, front_word, item_of}
use Rattle.shared_core_stream.specs.Limits.{too_long_at}
use Rattle.shared_core_stream.specs.declared.encoding.announced.Announced.{Announced}
use Rattle.shared_core_stream.specs.declared.encoding.announced.Announced.TheVariants as announced
use Rattle.shared_core_stream.specs.declared.encoding.item.Item.{Item}
use Rattle.shared_core_stream.specs.declared.encoding.item.Item.TheVariants.{Message, Unknown, Skipped}
use Rattle.shared_core_stream.specs.declared.encoding.item_ref.ItemKind.{ItemKind}
use Rattle.shared_core_stream.specs.declared.encoding.item_ref.ItemKind.TheVariants as kind
use Rattle.shared_core_stream.specs.declared.encoding.item_ref.ItemRef.{ItemRef}
use Rattle.shared_core_stream.specs.declared.encoding.item_refs.ItemRefs.{ItemRefs}
use Rattle.shared_core_stream.specs.declared.encoding.limit_error.MessageTooLong.{MessageTooLong}

-- The item of a kind that has this payload.
abbrev pub item_with : ItemKind → List ℕ → Item
item_with (kind.Message header) payload = Message (record { header = header; payload = payload })
item_with (kind.Unknown code) payload = Unknown code
item_with (kind.Skipped code) payload = Skipped code payload

-- The item that is borrowed.
abbrev pub item_borrowed : ItemRef → Item
item_borrowed item = item_with item.kind item.payload.now

-- The kind that is announced.
abbrev pub kind_announced : Announced → ItemKind
kind_announced (announced.Message header) = kind.Message header
kind_announced (announced.Unknown unknown) = kind.Unknown unknown.0
kind_announced (announced.Skipped unknown length) = kind.Skipped unknown.0

-- The length of the payload that is announced.
abbrev pub announced_length : Announced → ℕ
announced_length (announced.Message header) = header.length
announced_length (announced.Unknown unknown) = 0
announced_length (announced.Skipped unknown length) = length

-- A word announces this: how many bytes belong to it after the eight, and which item it is with them.
pub record Announces (version : Version) (word : ℕ) (announced : Announced) : Type 0 where
  pub length_is : announced_length announced ≡ body_length version word
  pub item_is : (body : List ℕ) → item_with (kind_announced announced) body ≡ item_of version word body

-- The borrowed item is at the front of the bytes: eight, whose word it has, its payload, and the rest after it.
pub record IsAtFront (version : Version) (bytes : List ℕ) (item : ItemRef) (rest : List ℕ) : Type 0 where
  pub word_is : item.word ≡ front_word bytes
  pub lies : bytes ≡ take 8 bytes ++ (item.payload.now ++ rest)
  pub taken : TakesItem version bytes (item_borrowed item) rest

-- The least number of missing bytes: of a header that is not whole, otherwise of the payload that it announces; 0 if
-- the bytes begin with a complete item.
abbrev pub missing_bytes : Version → List ℕ → ℕ
missing_bytes version bytes =
    if nat_lt (length bytes) 8 then 8 - length bytes else (8 + body_length version (front_word bytes)) - length bytes

-- This many bytes are missing, at least one: with fewer bytes appended, no complete item is at the front.
pub record IsMissing (version : Version) (bytes : List ℕ) (missing : ℕ) : Type 0 where
  pub counted : missing ≡ missing_bytes version bytes
  pub some : 0 < missing
  pub needed : (more : List ℕ) → length more < missing → NoItemBegins version (bytes ++ more)

-- The message that the bytes begin with that an iterator has not returned, if it is longer than the limit.
abbrev pub too_long_for : ItemRefs → Option MessageTooLong
too_long_for items = too_long_at items.version items.limit (items.count - length items.rest.now) items.rest.now

-- `next` changed old to new, of the same version, the same limit and the same bytes. `None`: the message at the front
-- of the bytes that were left is longer than the limit, or no complete item is left; nothing changes. An item: it is at
-- the front of those bytes, within the limit, and the bytes after it are left.
abbrev pub GivesBorrowed : ItemRefs → Option ItemRef → ItemRefs → Type 0
GivesBorrowed old None new =
    (new ≡ old) × (too_long_for old ≡ None → NoItemBegins old.version old.rest.now)
GivesBorrowed old (Some item) new =
    (new.version ≡ old.version) × (new.limit ≡ old.limit) × (new.count ≡ old.count) × (too_long_for old ≡ None)
    × IsAtFront old.version old.rest.now item new.rest.now
