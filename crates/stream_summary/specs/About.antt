-- What a description says of an item that starts, ends or fails an invocation.
use Rattle.std.specs.Prelude.{ℕ, Bool, true, false, List, [], ◌++◌, codes, if◌then◌else◌}
use Rattle.shared_core_base.specs.declared.header.MessageType.{MessageType}
use Rattle.shared_core_base.specs.declared.header.MessageType.TheVariants.{Start, Suspension, Error, End, OutputCommand}
use Rattle.shared_core_base.specs.declared.version.Version.{Version}
use Rattle.shared_core_message.specs.Schemas.{schema_at}
use Rattle.shared_core_stream.specs.declared.encoding.item.Item.{Item}
use Rattle.shared_core_stream.specs.declared.encoding.item.Item.TheVariants.{Message}
use Rattle.shared_core_stream.specs.declared.encoding.raw_message.RawMessage.{RawMessage}
use Rattle.show_lines.specs.Contents.{payload_held}
use Rattle.stream_summary.specs.Labels.{held_labels}

-- The fields of a message with their names.
abbrev pub message_labels : Version → RawMessage → List ℕ
message_labels version message = held_labels (payload_held (schema_at version message.header.ty) message.payload)

-- How an invocation stands after a message of a type.
abbrev pub state_word : MessageType → List ℕ
state_word Suspension = codes "suspended"
state_word Error = codes "failed"
state_word End = codes "ended"
state_word OutputCommand = codes "returned"
state_word ty = codes "open"

-- Whether the fields of a message say why the invocation stands so.
abbrev pub says_why : MessageType → Bool
says_why Suspension = true
says_why Error = true
says_why ty = false

-- Whether messages of a type start an invocation.
abbrev pub is_start : MessageType → Bool
is_start Start = true
is_start ty = false

-- The line of how an invocation stands after an item.
abbrev pub state_line : Version → Item → List ℕ
state_line version (Message message) = codes "state: " ++ (state_word message.header.ty
    ++ ((if says_why message.header.ty then message_labels version message else []) ++ codes "\n"))
state_line version item = codes "state: open\n"

-- The line of the invocation after an item, by the line before it: the fields of the last start message.
abbrev pub start_line : Version → Item → List ℕ → List ℕ
start_line version (Message message) line =
    if is_start message.header.ty then codes "invocation:" ++ (message_labels version message ++ codes "\n") else line
start_line version item line = line

-- The line of the last failure after an item, by the line before it: the text by which lines name the item, and what it
-- completes or is completed by.
abbrev pub failure_line : Bool → List ℕ → List ℕ → List ℕ → List ℕ
failure_line failed name joined line =
    if failed then codes "last failure: " ++ (name ++ (joined ++ codes "\n")) else line
