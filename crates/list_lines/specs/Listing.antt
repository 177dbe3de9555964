-- The listing of a stream of frames: one line per item, and last the count of the trailing bytes.
use Rattle.std.specs.Prelude.{ℕ, Bool, true, false, List, [], ◌∷◌, ◌++◌, length, codes, decimal, Result}
use Rattle.std.specs.Prelude.{Option, Some, None, ◌==◌, if◌then◌else◌}
use Rattle.std.specs.Fmt.{digits}
use Rattle.shared_core_base.specs.declared.version.Version.{Version}
use Rattle.shared_core_base.specs.declared.header.MessageType.{MessageType}
use Rattle.shared_core_base.specs.declared.header.MessageType.TheVariants.{CustomEntry}
use Rattle.shared_core_base.specs.MessageType.{debug_name_of}
use Rattle.shared_core_stream.specs.declared.encoding.item.Item.{Item}
use Rattle.shared_core_stream.specs.declared.encoding.item.Item.TheVariants.{Message, Unknown, Skipped}
use Rattle.stream_lines.specs.declared.report.Report.{Report}
use Rattle.stream_lines.specs.declared.error.PrintError.{PrintError}
use Rattle.stream_lines.specs.Printing.{ArePrinted}
use Rattle.list_lines.specs.declared.options.OtherName.{OtherName}

-- The first name that is given for a code.
abbrev pub name_at : List OtherName → ℕ → Option (List ℕ)
name_at [] code = None
name_at (first ∷ rest) code = if first.code == code then Some first.name.now else name_at rest code

-- The name that is given for a type: only for a custom entry.
abbrev pub other_name : List OtherName → MessageType → Option (List ℕ)
other_name names (CustomEntry code) = name_at names code
other_name names ty = None

-- A name, or else a text.
abbrev pub name_or : Option (List ℕ) → List ℕ → List ℕ
name_or (Some name) text = name
name_or None text = text

-- The name that is given for a code, or else the code in lower-case hexadecimal.
abbrev pub code_text : List OtherName → ℕ → List ℕ
code_text names code = name_or (name_at names code) (codes "0x" ++ digits 16 false code)

-- What follows a message's length: a mark if its header requests an acknowledgement.
abbrev pub ack_text : Option Bool → List ℕ
ack_text (Some true) = codes " ack"
ack_text flag = []

-- An item's line: a message's type by the name that is given for it or else its debug name, its payload's length and
-- the mark; or an unknown code or its name, and for a skipped message its payload's length after it.
abbrev pub line_of : List OtherName → Item → List ℕ
line_of names (Message message) =
    name_or (other_name names message.header.ty) (debug_name_of message.header.ty) ++ (codes " " ++
    (decimal (length message.payload) ++ (ack_text message.header.requested_ack ++ codes "\n")))
line_of names (Unknown code) = codes "unknown " ++ (code_text names code ++ codes "\n")
line_of names (Skipped code payload) =
    codes "skipped " ++ (code_text names code ++ (codes " " ++ (decimal (length payload) ++ codes "\n")))

-- The last line: the number of trailing bytes.
abbrev pub rest_line : ℕ → List ℕ
rest_line count = codes "rest " ++ (decimal count ++ codes "\n")

-- For the bytes that were read, the lines of their items are written with these names, as far as the result says, with
-- this limit on the length of a payload; no item is too long for its line, and none has an error.
abbrev pub IsListed : List OtherName → Version → ℕ → Result Report PrintError → List ℕ → List ℕ → Option (List ℕ)
    → Type 0
IsListed names version limit result read written left =
    ArePrinted (λ at word. line_of names) (λ at rest. rest_line (length rest)) (λ item. ⊥) (λ item. None) version limit
    result read written left
