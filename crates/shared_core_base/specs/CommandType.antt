-- The types of commands, the message types that they denote, and the texts that both print.
use Rattle.std.specs.Prelude.{◌≡◌, ℕ, List, Some, None, Result, Ok, Err}
use Rattle.shared_core_base.specs.declared.header.MessageType.{MessageType}
use Rattle.shared_core_base.specs.declared.command_type.CommandType.{CommandType}
use Rattle.shared_core_base.specs.MessageType.{debug_name_of}
pub use Rattle.shared_core_base.specs.CommandTable.{command_text_of, message_type_of, command_type_of}

-- Converting a message type returns its command type, or the type itself if it has none.
abbrev pub ConvertsToCommand : MessageType → Result CommandType MessageType → Type 0
ConvertsToCommand ty (Ok found) = command_type_of ty ≡ Some found
ConvertsToCommand ty (Err rejected) = (command_type_of ty ≡ None) × (rejected ≡ ty)

-- The text that a message type prints: its command's text if it has a command type, otherwise its debug name.
abbrev pub message_type_text : MessageType → List ℕ
message_type_text ty = elim (command_type_of ty) [ Some found ↦ command_text_of found | None ↦ debug_name_of ty ]
