-- Another table of schemas for the messages of the protocol.
use Rattle.std.specs.Prelude.{ℕ, List, Option, Some, None, slice_get}
use Rattle.shared_core_base.specs.declared.header.MessageType.{MessageType}
use Rattle.shared_core_base.specs.declared.version.Version.{Version}
use Rattle.shared_core_wire.specs.Schema.{Table}
use Rattle.shared_core_message.specs.Schemas.{schema_at}
use Rattle.shared_core_json.specs.Fields.{Names}
use Rattle.dump_lines.specs.Reading.{Reading}

-- What is given for a schema of the protocol; none for one past the end of the list.
abbrev pub given : Option (Option ℕ) → Option ℕ
given None = None
given (Some schema) = schema

-- The schema of the table for a schema of the protocol, if it has one.
abbrev pub schema_in : List (Option ℕ) → Option ℕ → Option ℕ
schema_in schemas None = None
schema_in schemas (Some s) = given (slice_get schemas s)

-- Reading by such a table.
abbrev pub reading_by : Table → Names → List (Option ℕ) → Reading
reading_by table names schemas = record {
  table = table;
  names = names;
  schema_at = λ version ty. schema_in schemas (schema_at version ty);
}
