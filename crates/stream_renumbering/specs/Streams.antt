-- A stream at other field numbers: the same items, whose payloads have the numbers of a table.
use Rattle.std.specs.Prelude.{◌≡◌, ℕ, ◌≤◌, ◌^◌, List, ◌++◌, length, take, Vec, if◌then◌else◌}
use Rattle.std.specs.Prelude.{Option, Some, None, Result, Ok, Err}
use Rattle.std.specs.Int.{w32, w64, to_be_bytes}
use Rattle.shared_core_base.specs.declared.version.Version.{Version}
use Rattle.shared_core_message.specs.Schemas.{schema_at}
use Rattle.shared_core_renumber.specs.declared.entries.Renumbering.{Renumbering}
use Rattle.shared_core_renumber.specs.Allowed.{payload_allows}
use Rattle.shared_core_renumber.specs.Written.{payload_bytes}
use Rattle.shared_core_stream.specs.declared.encoding.item.Item.{Item}
use Rattle.shared_core_stream.specs.declared.encoding.item.Item.TheVariants.{Message, Unknown, Skipped}
use Rattle.shared_core_stream.specs.declared.encoding.raw_message.RawMessage.{RawMessage}
use Rattle.stream_lines.specs.declared.error.PrintError.{PrintError}
use Rattle.stream_lines.specs.declared.report.Report.{Report}
use Rattle.stream_lines.specs.declared.report.Trouble.{Trouble}
use Rattle.stream_lines.specs.declared.report.Trouble.TheVariants.{Malformed}
use Rattle.stream_lines.specs.Printing.{ArePrinted, IsLack}

-- The payload of a schema at the other numbers; as it is without a schema, or if it has no other numbers.
abbrev pub payload_for : List Renumbering → Option ℕ → List ℕ → List ℕ
payload_for es None payload = payload
payload_for es (Some s) payload = if payload_allows es 100 s payload then payload_bytes es 100 s payload else payload

-- The payload of a message at the other numbers.
abbrev pub message_payload : List Renumbering → Version → RawMessage → List ℕ
message_payload es version m = payload_for es (schema_at version m.header.ty) m.payload

-- A message under the first half of a header's word: its length, and its payload.
abbrev pub message_bytes : ℕ → List ℕ → List ℕ
message_bytes word payload = take 4 (to_be_bytes w64 word) ++ (to_be_bytes w32 (length payload) ++ payload)

-- An item at the other numbers, which had this word as its header.
abbrev pub item_bytes : List Renumbering → Version → ℕ → Item → List ℕ
item_bytes es version word (Message m) = message_bytes word (message_payload es version m)
item_bytes es version word (Unknown code) = to_be_bytes w64 word
item_bytes es version word (Skipped code payload) = to_be_bytes w64 word ++ payload

-- The payload of an item is too long for a header.
abbrev pub IsLong : List Renumbering → Version → Item → Type 0
IsLong es version (Message m) = 2 ^ 32 ≤ length (message_payload es version m)
IsLong es version item = ⊥

-- A message whose payload has no other numbers is malformed.
abbrev pub trouble_for : List Renumbering → Option ℕ → RawMessage → Option Trouble
trouble_for es None m = None
trouble_for es (Some s) m = if payload_allows es 100 s m.payload then None else Some (Malformed m.header.ty)

-- What is wrong with an item.
abbrev pub item_trouble : List Renumbering → Version → Item → Option Trouble
item_trouble es version (Message m) = trouble_for es (schema_at version m.header.ty) m
item_trouble es version item = None

-- The payload of a message at the other numbers. TooLong only if it is too long for a header. An allocation may fail.
abbrev pub IsPayload : {Z : Type 0} → List Renumbering → Version → RawMessage → Result (Vec ℕ Z) PrintError → Type 0
IsPayload es version m (Ok bytes) = bytes.items ≡ message_payload es version m
IsPayload es version m (Err error) = IsLack (2 ^ 32 ≤ length (message_payload es version m)) error

-- Of the bytes that were read, the items are written at the other numbers, as far as the result says, with this limit
-- on the length of a payload.
abbrev pub IsStream : List Renumbering → Version → ℕ → Result Report PrintError → List ℕ → List ℕ → Option (List ℕ)
    → Type 0
IsStream es version limit result read written left =
    ArePrinted (λ at. item_bytes es version) (λ at rest. rest) (IsLong es version) (item_trouble es version) version
    limit result read written left
