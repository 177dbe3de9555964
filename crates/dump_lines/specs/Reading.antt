-- How the payloads of a stream are read.
use Rattle.std.specs.Prelude.{ℕ, ◌^◌, Bool, true, ◌&&◌, nat_lt, List, length, Option, Some, None}
use Rattle.shared_core_base.specs.declared.header.MessageType.{MessageType}
use Rattle.shared_core_base.specs.declared.version.Version.{Version}
use Rattle.shared_core_wire.specs.Schema.{Table}
use Rattle.shared_core_wire.specs.Acceptance.{accepts_payload}
use Rattle.shared_core_codec.specs.Canonicity.{is_canonical_payload_in}
use Rattle.shared_core_codec.specs.Table.{table as protocol_table}
use Rattle.shared_core_message.specs.Schemas.{schema_at as protocol_schema_at}
use Rattle.shared_core_json.specs.Fields.{Names, names_of}

-- The table of the schemas, the names of their fields, and which schema a type's payloads have at a version.
pub record Reading : Type 0 where
  pub table : Table
  pub names : Names
  pub schema_at : Version → MessageType → Option ℕ

-- That of the protocol's messages.
abbrev pub protocol : Reading
protocol = record {
  table = protocol_table;
  names = names_of;
  schema_at = protocol_schema_at;
}

-- Whether a payload is canonical, and not too long for a header.
abbrev pub is_canonical_in : Table → ℕ → List ℕ → Bool
is_canonical_in table s payload = nat_lt (length payload) (2 ^ 32) && is_canonical_payload_in table 100 s payload

-- Whether a payload is well-formed for a schema; without a schema it is opaque, and always is.
abbrev pub is_well_formed_for : Reading → Option ℕ → List ℕ → Bool
is_well_formed_for reading None payload = true
is_well_formed_for reading (Some s) payload = accepts_payload reading.table 100 s payload
