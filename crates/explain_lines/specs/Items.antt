-- The lines of the items of a stream.
use Rattle.std.specs.Prelude.{ℕ, ◌-◌, ◌/◌, Bool, true, false, ◌&&◌, nat_le, nat_lt, List, [], ◌∷◌, ◌++◌, length, take}
use Rattle.std.specs.Prelude.{drop, codes, if◌then◌else◌, Option, Some, None, Result}
use Rattle.std.specs.Fmt.{digits}
use Rattle.std.specs.Int.{w64, to_be_bytes}
use Rattle.shared_core_base.specs.declared.header.MessageType.{MessageType}
use Rattle.shared_core_base.specs.MessageType.{debug_name_of, type_of}
use Rattle.shared_core_message.specs.Schemas.{schema_at}
use Rattle.shared_core_stream.specs.declared.encoding.item.Item.{Item}
use Rattle.shared_core_stream.specs.declared.encoding.item.Item.TheVariants.{Message, Unknown, Skipped}
use Rattle.shared_core_stream.specs.Items.{front_word}
use Rattle.stream_lines.specs.declared.report.Report.{Report}
use Rattle.stream_lines.specs.declared.error.PrintError.{PrintError}
use Rattle.stream_lines.specs.Printing.{item_size, ArePrinted}
use Rattle.explain_lines.specs.Explanation.{payload_lines, raw}
use Rattle.explain_lines.specs.Lines.{Line, lines_text}
use Rattle.explain_lines.specs.Texts.{header_text}
use Rattle.explain_lines.specs.declared.options.Options.{Options}

-- The title of an item: its type, or the code of an unknown one.
abbrev pub type_text : Item → List ℕ
type_text (Message message) = debug_name_of message.header.ty
type_text (Unknown code) = codes "unknown 0x" ++ digits 16 false code
type_text (Skipped code payload) = codes "skipped 0x" ++ digits 16 false code

-- The line of the title.
unfoldable pub title : Item → List ℕ
title item = type_text item ++ codes "\n"

-- Whether an item requests an acknowledgement.
abbrev pub asks_ack : Option Bool → Bool
asks_ack (Some true) = true
asks_ack flag = false

-- The line of a header.
abbrev pub header_line : ℕ → Bool → Line
header_line word asks = record { path = []; bytes = to_be_bytes w64 word; says = header_text word asks }

-- The schema by which the payload of a type is explained; without one it is explained as it can be read.
abbrev pub schema_for : Options → Option MessageType → Option ℕ
schema_for options None = if options.raw then Some raw else None
schema_for options (Some ty) = if options.raw then Some raw else schema_at options.version ty

-- The lines of an item whose header is a word.
abbrev pub item_lines : Options → ℕ → Item → List Line
item_lines options word (Message message) =
    header_line word (asks_ack message.header.requested_ack)
    ∷ payload_lines (schema_for options (Some message.header.ty)) message.payload
item_lines options word (Unknown code) = header_line word false ∷ []
item_lines options word (Skipped code payload) =
    header_line word false ∷ payload_lines (schema_for options None) payload

-- The bytes of an item whose header is a word.
abbrev pub item_bytes : ℕ → Item → List ℕ
item_bytes word (Message message) = to_be_bytes w64 word ++ message.payload
item_bytes word (Unknown code) = to_be_bytes w64 word
item_bytes word (Skipped code payload) = to_be_bytes w64 word ++ payload

-- Whether bytes that begin at an offset have a place, if there is one.
abbrev pub have_place : ℕ → ℕ → Option ℕ → Bool
have_place at size None = true
have_place at size (Some place) = nat_le at place && nat_lt (place - at) size

-- The text of an item at an offset: its title and its lines.
abbrev pub item_text : Options → ℕ → ℕ → Item → List ℕ
item_text options at word item =
    if have_place at (item_size item) options.at
    then title item ++ lines_text at (item_lines options word item) else []

-- The lines of the trailing bytes: of a part of a header, or of a header and a part of a payload.
abbrev pub rest_lines : Options → List ℕ → List Line
rest_lines options rest =
    if nat_lt (length rest) 8
    then record { path = []; bytes = rest; says = codes "a part of a header" } ∷ []
    else record { path = []; bytes = take 8 rest; says = header_text (front_word rest) false }
    ∷ payload_lines (schema_for options (type_of (front_word rest / 281474976710656))) (drop 8 rest)

-- The text of the trailing bytes at an offset.
abbrev pub rest_text : Options → ℕ → List ℕ → List ℕ
rest_text options at rest =
    if nat_lt 0 (length rest) && have_place at (length rest) options.at
    then codes "rest\n" ++ lines_text at (rest_lines options rest) else []

-- For the bytes that were read, the lines of their items are written, as far as the result says, with the limit of the
-- options on the length of a payload; no item is too long for its lines, and none has an error.
abbrev pub IsExplained : Options → Result Report PrintError → List ℕ → List ℕ → Option (List ℕ) → Type 0
IsExplained options result read written left =
    ArePrinted (item_text options) (rest_text options) (λ item. ⊥) (λ item. None) options.version options.limit result
    read written left
