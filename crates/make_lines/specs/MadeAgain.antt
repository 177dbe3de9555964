-- What is made of the lines of a dump.
use Rattle.std.specs.Prelude.{◌≡◌, ◌<◌, ◌^◌, ℕ, true, false, nat_lt, List, [], ◌∷◌, ◌++◌, length, take, drop}
use Rattle.std.specs.Prelude.{if◌then◌else◌, Option, Some, None, option_map, Ok}
use Rattle.std.specs.Int.{w32, to_be_bytes}
use Rattle.std.specs.Str.{IsUtf8}
use Rattle.base64.specs.GeneralPurpose.{IsBytes}
use Rattle.json.specs.Tree.{json_tokens}
use Rattle.json.specs.Print.{print}
use Rattle.shared_core_base.specs.declared.version.Version.{Version}
use Rattle.shared_core_wire.specs.Acceptance.{accepts_payload}
use Rattle.shared_core_wire.specs.Canonical.{canonical_payload}
use Rattle.shared_core_wire.specs.Overlay.{meaning}
use Rattle.shared_core_json.specs.Fields.{name_of}
use Rattle.shared_core_json_reader.specs.Rows.{EnumValues, enum_values}
use Rattle.shared_core_json_reader.specs.Readable.{IsReadable}
use Rattle.shared_core_stream.specs.declared.encoding.item.Item.{Item}
use Rattle.shared_core_stream.specs.declared.encoding.item.Item.TheVariants.{Message, Unknown, Skipped}
use Rattle.dump_lines.specs.declared.options.Options.{Options}
use Rattle.shared_core_stream.specs.Items.{front_word, IsItem, SplitsInto}
use Rattle.stream_lines.specs.Printing.{item_size, all_lines}
use Rattle.dump_lines.specs.Lines.{item_json_in, line_of_in, rest_line}
use Rattle.dump_lines.specs.Reading.{Reading, protocol}
use Rattle.make_lines.specs.Making.{making, messages_of}
use Rattle.make_lines.specs.Lines.{line_made}
use Rattle.stream_lines.specs.declared.report.Report.{Report}
use Rattle.dump_lines.specs.Dump.{IsDumpedIn}
use Rattle.make_lines.specs.Made.{both, made, AreLines, IsMade}

-- The payload of a schema as it is made again: of a well-formed one the canonical payload of what it means, of any
-- other one, or without a schema, the payload itself.
abbrev pub payload_again_in : Reading → Option ℕ → List ℕ → List ℕ
payload_again_in reading None payload = payload
payload_again_in reading (Some s) payload = if accepts_payload reading.table 100 s payload then
    canonical_payload reading.table s (meaning reading.table 100 s payload) else payload

-- The first four bytes of a header, which are the code and the flags, then the length of a payload, and the payload;
-- nothing if it is too long for a header.
abbrev pub with_payload : List ℕ → List ℕ → Option (List ℕ)
with_payload front payload = option_map (λ h. h ++ payload) (if nat_lt (length payload) 4294967296 then Some
    (front ++ to_be_bytes w32 (length payload)) else None)

-- The bytes that are made of the line of an item that the bytes begin with, if there are any: an item that is only a
-- header is the same; any other item has its own code and flags, and its payload as it is made again.
abbrev pub item_again_in : Reading → Version → List ℕ → Item → Option (List ℕ)
item_again_in reading version bytes (Message message) = with_payload (take 4 bytes)
    (payload_again_in reading (reading.schema_at version message.header.ty) message.payload)
item_again_in reading version bytes (Unknown code) = Some (take 8 bytes)
item_again_in reading version bytes (Skipped code payload) = with_payload (take 4 bytes) payload

-- The bytes that are made of the lines of the items that a stream begins with, and of that of these remaining bytes, if
-- each line means something.
abbrev pub stream_again_in : Reading → Version → List ℕ → List Item → List ℕ → Option (List ℕ)
stream_again_in reading version stream [] rest = Some rest
stream_again_in reading version stream (item ∷ items) rest = both (item_again_in reading version stream item)
    (stream_again_in reading version (drop (item_size item) stream) items rest)

-- The payload is made again as it is.
abbrev pub IsKeptIn : Reading → Version → Item → Type 0
IsKeptIn reading version (Message message) = payload_again_in reading (reading.schema_at version message.header.ty)
    message.payload ≡ message.payload
IsKeptIn reading version (Unknown code) = Unit {0}
IsKeptIn reading version (Skipped code payload) = Unit {0}

-- The payloads of all items are made again as they are.
abbrev pub AreKeptIn : Reading → Version → List Item → Type 0
AreKeptIn reading version [] = Unit {0}
AreKeptIn reading version (item ∷ items) = IsKeptIn reading version item × AreKeptIn reading version items

-- The dump has exactly one line per item, with its payload, and the line of the trailing bytes.
pub record IsWhole (options : Options) : Type 0 where
  pub all : length options.codes.now ≡ 0
  pub payloads : options.payloads ≡ true
  pub one_line : options.pretty ≡ false
  pub rest : options.rest ≡ true

-- The line of an item means the item, with its payload as it is made again. (A slice is of bytes.)
abbrev pub ItemIsMadeAgainIn : Reading → EnumValues → Options → Type 0
ItemIsMadeAgainIn reading values options = (at : ℕ) (bytes : List ℕ) (item : Item) → IsWhole options → at < 2 ^ 128
    → IsBytes bytes →
    IsItem options.version bytes item
    → line_made (making (messages_of reading values) options.version)
    (print (json_tokens (item_json_in reading options at (front_word bytes) item)))
    ≡ item_again_in reading options.version bytes item

-- What the lines of a dump mean, one after the other, is the stream with its payloads as they are made again.
abbrev pub DumpIsMadeAgainIn : Reading → EnumValues → Options → Type 0
DumpIsMadeAgainIn reading values options = (stream rest : List ℕ) (items : List Item) (lines : List (List ℕ))
    (last : List ℕ) → IsWhole
    options → IsBytes stream → length stream < 2 ^ 128
    → SplitsInto options.version stream items rest → AreLines
    (all_lines (line_of_in reading options) (rest_line options) stream items rest) lines last
    → made (line_made (making (messages_of reading values) options.version)) (lines ++ last ∷ [])
    ≡ stream_again_in reading options.version stream items rest

-- If all payloads are made again as they are, this is the stream itself.
abbrev pub KeepsStreamsIn : Reading → Version → Type 0
KeepsStreamsIn reading version = (stream rest : List ℕ) (items : List Item) → IsBytes stream
    → SplitsInto version stream items
    rest → AreKeptIn reading version items
    → stream_again_in reading version stream items rest ≡ Some stream

-- Let a dump of a stream end well, and the making of a stream of that dump. What is made is the stream with its
-- payloads as they are made again; if all are made again as they are, it is the stream itself.
abbrev pub ThereAndBackIn : Reading → EnumValues → Options → Type 0
ThereAndBackIn reading values options = (report : Report) (stream dump bytes : List ℕ) (left after : Option (List ℕ))
    → IsWhole options →
    IsBytes stream → length stream < 2 ^ 128
    → (dumped : IsDumpedIn reading options (Ok report) stream dump left)
    → IsMade (making (messages_of reading values) options.version) (Ok tt) dump bytes after
    → (stream_again_in reading options.version stream dumped.items dumped.rest ≡ Some bytes) ×
    (AreKeptIn reading options.version dumped.items → bytes ≡ stream)

-- ---- for the messages of the protocol

-- The payload of a schema as it is made again.
abbrev pub payload_again : Option ℕ → List ℕ → List ℕ
payload_again = payload_again_in protocol

-- The line of an item means the item.
abbrev pub ItemIsMadeAgain : Options → Type 0
ItemIsMadeAgain = ItemIsMadeAgainIn protocol enum_values

-- What the lines of a dump mean is the stream.
abbrev pub DumpIsMadeAgain : Options → Type 0
DumpIsMadeAgain = DumpIsMadeAgainIn protocol enum_values

-- If all payloads are made again as they are, this is the stream itself.
abbrev pub KeepsStreams : Version → Type 0
KeepsStreams = KeepsStreamsIn protocol

-- A dump is made again.
abbrev pub ThereAndBack : Options → Type 0
ThereAndBack = ThereAndBackIn protocol enum_values

-- ---- for another table

-- A dump by a table can be made again with these names of values: JSON can be read by the table and its names, which
-- are UTF-8.
pub record IsMadeAgainBy (reading : Reading) (values : EnumValues) : Type 0 where
  pub readable : IsReadable (messages_of reading values).format
  pub utf8 : (s n : ℕ) → IsUtf8 (name_of (reading.names s) n)

-- The same as `ThereAndBack` by such a table.
abbrev pub OtherThereAndBack : Options → Type 0
OtherThereAndBack options = (reading : Reading) (values : EnumValues) → IsMadeAgainBy reading values → ThereAndBackIn
    reading values options
