-- A stream whose contents are replaced: the same headers, and the payloads redacted.
use Rattle.std.specs.Prelude.{◌≡◌, ◌<◌, ℕ, ◌-◌, List, [], ◌++◌, length, take, get_or, nat_lt, if◌then◌else◌}
use Rattle.std.specs.Prelude.{Result, Option, None}
use Rattle.std.specs.Int.{w64, to_be_bytes}
use Rattle.shared_core_base.specs.declared.version.Version.{Version}
use Rattle.shared_core_stream.specs.declared.encoding.item.Item.{Item}
use Rattle.shared_core_stream.specs.declared.encoding.item.Item.TheVariants.{Message, Unknown, Skipped}
use Rattle.stream_lines.specs.declared.report.Report.{Report}
use Rattle.stream_lines.specs.declared.error.PrintError.{PrintError}
use Rattle.stream_lines.specs.Printing.{all_lines, ArePrinted}
use Rattle.stream_redaction.specs.declared.key.Key.{Key}
use Rattle.stream_redaction.specs.Redaction.{redacted_payload}
use Rattle.stream_redaction.specs.Replacement.{replacement, zeros}

-- What the bytes of an item after its header become.
abbrev pub redacted_body : Key → Version → Item → List ℕ
redacted_body key version (Message message) = redacted_payload key version message.header.ty message.payload
redacted_body key version (Unknown code) = []
redacted_body key version (Skipped code payload) = replacement key payload

-- What an item becomes whose header is this word.
abbrev pub redacted_item : Key → Version → ℕ → Item → List ℕ
redacted_item key version word item = to_be_bytes w64 word ++ redacted_body key version item

-- What trailing bytes become: zeros, after the header if it is whole.
abbrev pub redacted_rest : List ℕ → List ℕ
redacted_rest rest =
    if nat_lt (length rest) 8 then zeros (length rest) else take 8 rest ++ zeros (length rest - 8)

-- The item that an item becomes: of the same kind and the same header or code, with the payload redacted.
abbrev pub item_redacted : Key → Version → Item → Item
item_redacted key version (Message message) = Message (record {
  header = message.header;
  payload = redacted_payload key version message.header.ty message.payload;
})
item_redacted key version (Unknown code) = Unknown code
item_redacted key version (Skipped code payload) = Skipped code (replacement key payload)

-- The items are of one kind and of the same header or code, and their payloads are equally long.
abbrev pub IsAlike : Item → Item → Type 0
IsAlike (Message message) (Message other) =
    (other.header ≡ message.header) × (length other.payload ≡ length message.payload)
IsAlike (Unknown code) (Unknown other) = other ≡ code
IsAlike (Skipped code payload) (Skipped other bytes) = (other ≡ code) × (length bytes ≡ length payload)
IsAlike item other = ⊥

-- Each number is one byte.
abbrev pub AreBytes : List ℕ → Type 0
AreBytes bytes = (i : ℕ) → get_or bytes i 0 < 256

-- All that is written for a stream of these items and these trailing bytes.
abbrev pub stream_redacted : Key → Version → List ℕ → List Item → List ℕ → List ℕ
stream_redacted key version = all_lines (λ at. redacted_item key version) (λ at. redacted_rest)

-- Of the bytes that were read, the items are written redacted, as far as the result says, with this limit on the length
-- of a payload.
abbrev pub IsRedacted : Key → Version → ℕ → Result Report PrintError → List ℕ → List ℕ → Option (List ℕ) → Type 0
IsRedacted key version limit result read written left =
    ArePrinted (λ at. redacted_item key version) (λ at. redacted_rest) (λ item. ⊥) (λ item. None) version limit
    result read written left
