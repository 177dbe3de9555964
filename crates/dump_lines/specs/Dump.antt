-- What is written when a dump ends.
use Rattle.std.specs.Prelude.{◌≡◌, ℕ, true, if◌then◌else◌, List, Result, Option, Some, None}
use Rattle.shared_core_base.specs.MessageType.{code_of}
use Rattle.shared_core_stream.specs.declared.encoding.item.Item.{Item}
use Rattle.shared_core_stream.specs.declared.encoding.item.Item.TheVariants.{Message, Unknown, Skipped}
use Rattle.stream_lines.specs.declared.error.PrintError.{PrintError}
use Rattle.stream_lines.specs.declared.report.Report.{Report}
use Rattle.stream_lines.specs.declared.report.Trouble.{Trouble}
use Rattle.stream_lines.specs.declared.report.Trouble.TheVariants.{UnknownCode, Malformed}
use Rattle.stream_lines.specs.Printing.{ArePrinted}
use Rattle.dump_lines.specs.declared.options.Options.{Options}
use Rattle.dump_lines.specs.Canonical.{IsLongForIn}
use Rattle.dump_lines.specs.Lines.{is_selected, item_code, line_of_in, rest_line}
use Rattle.dump_lines.specs.Reading.{Reading, is_well_formed_for, protocol}

-- Payloads are printed, the item is a message, and the canonical payload of what its payload means is too long to be
-- written.
abbrev pub HasLongPayload : Reading → Options → Item → Type 0
HasLongPayload reading options (Message message) = (options.payloads ≡ true) × IsLongForIn reading
    (reading.schema_at options.version message.header.ty) message.payload
HasLongPayload reading options item = ⊥

-- The item is selected, and has such a payload.
abbrev pub IsLong : Reading → Options → Item → Type 0
IsLong reading options item =
    (is_selected options.codes.now (item_code item) ≡ true) × HasLongPayload reading options item

-- What is wrong with an item: an unassigned code, or of a selected message a payload that is not well-formed.
abbrev pub wrong_of : Reading → Options → Item → Option Trouble
wrong_of reading options (Message message) =
    if is_selected options.codes.now (code_of message.header.ty)
    then (if is_well_formed_for reading (reading.schema_at options.version message.header.ty) message.payload then None
    else Some (Malformed message.header.ty))
    else None
wrong_of reading options (Unknown code) = Some (UnknownCode code)
wrong_of reading options (Skipped code payload) = Some (UnknownCode code)

-- What the report has of an item: what is wrong with it, if the options are strict.
abbrev pub trouble_of : Reading → Options → Item → Option Trouble
trouble_of reading options item = if options.strict then wrong_of reading options item else None

-- For the bytes that were read, the lines of their items are written, as far as the result says.
abbrev pub IsDumpedIn : Reading → Options → Result Report PrintError → List ℕ → List ℕ → Option (List ℕ) → Type 0
IsDumpedIn reading options result read written left =
    ArePrinted (line_of_in reading options) (rest_line options) (IsLong reading options) (trouble_of reading options)
    options.version options.limit result read written left

-- The same for the messages of the protocol.
abbrev pub IsDumped : Options → Result Report PrintError → List ℕ → List ℕ → Option (List ℕ) → Type 0
IsDumped = IsDumpedIn protocol
