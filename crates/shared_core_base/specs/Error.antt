-- The errors of an invocation: codes, parts and texts.
use Rattle.std.specs.Prelude.{◌≡◌, ℕ, ℤ, pos, ◌^◌, List, ◌++◌, Option, Some, None, option_map, codes, if◌then◌else◌}
use Rattle.std.specs.Prelude.{nat_lt}
use Rattle.std.specs.Fmt.{decimal}
use Rattle.std.specs.Cow.{cow_str_bytes}
use Rattle.std.specs.String.{string_bytes}
use Rattle.std.specs.declared.time.Duration.{Duration}
use Rattle.shared_core_base.specs.CommandType.{message_type_text}
use Rattle.shared_core_base.specs.declared.header.MessageType.{MessageType}
use Rattle.shared_core_base.specs.declared.error.CommandMetadata.{CommandMetadata}
use Rattle.shared_core_base.specs.declared.error.NotificationMetadata.{NotificationMetadata}
use Rattle.shared_core_base.specs.declared.error.NotificationMetadata.TheVariants as notification
use Rattle.shared_core_base.specs.declared.error.Error.{Error}
use Rattle.shared_core_base.specs.declared.error.ErrorBehavior.{ErrorBehavior}
use Rattle.shared_core_base.specs.declared.error.ErrorBehavior.TheVariants.{Retry, Pause}

-- The code that a number denotes: itself where it has 16 bits, otherwise the code of an internal error.
abbrev pub code_of_number : ℕ → ℕ
code_of_number number = if nat_lt number (2 ^ 16) then number else 500

-- The number by which the protocol names a behavior.
abbrev pub behavior_number : ErrorBehavior → ℤ
behavior_number Retry = pos 0
behavior_number Pause = pos 1

-- The text of a command's metadata: its type, and in brackets its name, or its index where it has no name.
abbrev pub command_metadata_text : CommandMetadata → List ℕ
command_metadata_text command = elim command.name [
  | Some name ↦ message_type_text command.ty ++ (codes " [" ++ (cow_str_bytes name ++ codes "]"))
  | None ↦ message_type_text command.ty ++ (codes " [" ++ (decimal command.index ++ codes "]"))
]

-- The text of a notification's metadata.
abbrev pub notification_metadata_text : NotificationMetadata → List ℕ
notification_metadata_text (notification.RelatedToCommand command) = command_metadata_text command
notification_metadata_text (notification.Awakeable id) = codes "Awakeable " ++ string_bytes id
notification_metadata_text notification.Cancellation = codes "Cancellation"

-- The line of the command that an error names, if it names one.
abbrev pub related_command_text : Option CommandMetadata → List ℕ
related_command_text (Some command) = codes "\nRelated command: " ++ command_metadata_text command
related_command_text None = codes ""

-- The text of an error: its code in parentheses, its message, and the line of the command that it names.
abbrev pub error_text : Error → List ℕ
error_text error = codes "(" ++ (decimal error.code ++ (codes ") " ++
    (cow_str_bytes error.message ++ related_command_text error.related_command)))

-- The contents of a command's metadata, apart from where its name is in memory.
pub record CommandParts : Type 0 where
  pub index : ℕ
  pub ty : MessageType
  pub name : Option (List ℕ)

-- The parts of a command's metadata.
abbrev pub command_parts : CommandMetadata → CommandParts
command_parts command = record { index = command.index; ty = command.ty; name = option_map cow_str_bytes command.name }

-- The contents of a notification's metadata, apart from where its texts are in memory.
pub data NotificationParts : Type 0 where
  RelatedToCommand : CommandParts → NotificationParts
  Awakeable : List ℕ → NotificationParts
  Cancellation : NotificationParts

-- The parts of a notification's metadata.
abbrev pub notification_parts : NotificationMetadata → NotificationParts
notification_parts (notification.RelatedToCommand command) = RelatedToCommand (command_parts command)
notification_parts (notification.Awakeable id) = Awakeable (string_bytes id)
notification_parts notification.Cancellation = Cancellation

-- The contents of an error, apart from where its texts are in memory.
pub record ErrorParts : Type 0 where
  pub code : ℕ
  pub message : List ℕ
  pub related_command : Option CommandParts
  pub next_retry_delay : Option Duration
  pub behavior : ErrorBehavior

-- The parts of an error.
abbrev pub error_parts : Error → ErrorParts
error_parts error = record {
  code = error.code;
  message = cow_str_bytes error.message;
  related_command = option_map command_parts error.related_command;
  next_retry_delay = error.next_retry_delay;
  behavior = error.behavior;
}

-- The parts of an error that has only a code and a message: it names no command, has no delay and is retried.
abbrev pub plain_error : ℕ → List ℕ → ErrorParts
plain_error code message = record {
  code = code;
  message = message;
  related_command = None;
  next_retry_delay = None;
  behavior = Retry;
}

-- The parts of the error by which an invocation is suspended.
abbrev pub suspended_parts : ErrorParts
suspended_parts = plain_error 599 (codes "Suspended invocation")

-- The error has only the code and the text; if the text is not specified, only the code and some text.
abbrev pub IsErrorOf : ℕ → Option (List ℕ) → Error → Type 0
IsErrorOf code (Some text) error = error_parts error ≡ plain_error code text
IsErrorOf code None error = error_parts error ≡ plain_error code (cow_str_bytes error.message)
