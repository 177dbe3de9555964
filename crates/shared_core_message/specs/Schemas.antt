-- The schema of a type's payloads, which a version decides.
use Rattle.std.specs.Prelude.{ℕ, Bool, true, nat_lt, List, Option, Some, None, if◌then◌else◌}
use Rattle.shared_core_base.specs.declared.header.MessageType.{MessageType}
use Rattle.shared_core_base.specs.declared.header.MessageType.TheVariants.{Suspension}
use Rattle.shared_core_base.specs.declared.version.Version.{Version}
use Rattle.shared_core_base.specs.Version.{version_number}
use Rattle.shared_core_wire.specs.Acceptance.{accepts_payload}
use Rattle.shared_core_codec.specs.Table.{table, suspension, suspension_v6}
use Rattle.shared_core_message.specs.Messages.{message_schema}

-- The schema of a type's payloads at a version: a suspension has another one before V7; a custom entry has none.
abbrev pub schema_at : Version → MessageType → Option ℕ
schema_at version Suspension = Some (if nat_lt (version_number version) 7 then suspension_v6 else suspension)
schema_at version ty = message_schema ty

-- Whether a payload is well-formed for a schema; without a schema it is opaque, and always is.
abbrev pub is_well_formed_for : Option ℕ → List ℕ → Bool
is_well_formed_for None payload = true
is_well_formed_for (Some s) payload = accepts_payload table 100 s payload

-- Whether a payload is well-formed for a type at a version; that of a custom entry always is.
abbrev pub is_well_formed_at : Version → MessageType → List ℕ → Bool
is_well_formed_at version ty payload = is_well_formed_for (schema_at version ty) payload
