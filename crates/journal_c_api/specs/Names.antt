-- The result of the calls on names and numbers.
use Rattle.std.specs.Prelude.{◌≡◌, ◌≢◌, ℕ, List, option_map, Option, Some, None, Result, Ok, Err}
use Rattle.std.specs.Option.{ok_or}
use Rattle.shared_core_base.specs.declared.version.Version.{Version}
use Rattle.shared_core_base.specs.declared.header.MessageType.{MessageType}
use Rattle.shared_core_base.specs.MessageType.{IsNamed, code_of, debug_name_of, type_of, variant_name_of}
use Rattle.shared_core_message.specs.Schemas.{schema_at}
use Rattle.journal_c_api.specs.declared.outcome.CallError.{CallError}
use Rattle.journal_c_api.specs.declared.outcome.CallError.TheVariants.{UnknownVersion, UnknownType}
use Rattle.journal_c_api.specs.Outcomes.{supported_version}

-- The schema of a type's payloads at a version; UnknownVersion if there is no version, otherwise UnknownType if there
-- is no type or no schema.
abbrev pub schema_outcome : Option Version → Option MessageType → Result ℕ CallError
schema_outcome (Some version) (Some ty) = ok_or (schema_at version ty) UnknownType
schema_outcome (Some version) None = Err UnknownType
schema_outcome None ty = Err UnknownVersion

-- The result of journal_schema.
abbrev pub ReturnsSchema : ℕ → ℕ → Result ℕ CallError → Type 0
ReturnsSchema number code outcome = outcome ≡ schema_outcome (supported_version number) (type_of code)

-- The result of journal_type_name: the debug name of the type that the code denotes.
abbrev pub ReturnsTypeName : ℕ → Result (List ℕ) CallError → Type 0
ReturnsTypeName code outcome = outcome ≡ ok_or (option_map debug_name_of (type_of code)) UnknownType

-- The result of journal_type_code: the code of the named type that has this name, and UnknownType if none has it.
abbrev pub ReturnsTypeCode : List ℕ → Result ℕ CallError → Type 0
ReturnsTypeCode name (Ok code) = (ty : MessageType) × IsNamed ty × (variant_name_of ty ≡ name) × (code ≡ code_of ty)
ReturnsTypeCode name (Err UnknownType) = (ty : MessageType) → IsNamed ty → variant_name_of ty ≢ name
ReturnsTypeCode name (Err error) = ⊥
