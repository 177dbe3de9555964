-- The result where a record is found by a type or by a schema that is known at run time.
use Rattle.std.specs.Prelude.{ℕ, nat_lt, length, Option, Some, None, if◌then◌else◌}
use Rattle.shared_core_base.specs.declared.command_type.CommandType.{CommandType}
use Rattle.shared_core_base.specs.declared.header.MessageType.{MessageType}
use Rattle.shared_core_base.specs.declared.header.MessageType.TheVariants.{Suspension, ProposeRunCompletion}
use Rattle.shared_core_base.specs.declared.version.Version.{Version}
use Rattle.shared_core_base.specs.CommandType.{command_type_of}
use Rattle.shared_core_wire.specs.Value.{Parts}
use Rattle.shared_core_codec.specs.Table.{schemas}
use Rattle.shared_core_message.specs.Frames.{WireForm, plain_form}
use Rattle.shared_core_message.specs.Messages.{message_schema}
use Rattle.shared_core_runtime.specs.Versions.{suspension_form, proposal_form}

-- If there is a schema, its record is visited and this holds of the result; otherwise nothing is visited.
abbrev pub IsVisited : {O : Type 0} → (ℕ → O → Type 0) → Option ℕ → Option O → Type 0
IsVisited results (Some schema) (Some output) = results schema output
IsVisited results (Some schema) None = ⊥
IsVisited results None (Some output) = ⊥
IsVisited results None None = Unit {0}

-- A schema, if it is an index of the table.
abbrev pub known_schema : ℕ → Option ℕ
known_schema schema = if nat_lt schema (length schemas) then Some schema else None

-- The schema of a type's payloads, where the type has this command type.
abbrev pub schema_of_command : Option CommandType → MessageType → Option ℕ
schema_of_command (Some command) ty = message_schema ty
schema_of_command None ty = None

-- The schema of a type's payloads, if its messages are commands.
abbrev pub command_schema : MessageType → Option ℕ
command_schema ty = schema_of_command (command_type_of ty) ty

-- What a value of a type, with the type's own schema, is written as at a version.
abbrev pub written_form : MessageType → ℕ → Version → Parts → WireForm
written_form Suspension schema version v = suspension_form v version
written_form ProposeRunCompletion schema version v = proposal_form v version
written_form ty schema version v = plain_form schema v
