-- How lines are read: at a version of the protocol, by a table of schemas.
use Rattle.std.specs.Prelude.{ℕ, List, Option}
use Rattle.shared_core_base.specs.declared.header.MessageType.{MessageType}
use Rattle.shared_core_base.specs.declared.version.Version.{Version}
use Rattle.shared_core_message.specs.Schemas.{schema_at}
use Rattle.shared_core_json_reader.specs.Rows.{Format, EnumValues}
use Rattle.shared_core_json_reader.specs.Rows.{protocol as protocol_format}
use Rattle.dump_lines.specs.Other.{schema_in}
use Rattle.dump_lines.specs.Reading.{Reading}

-- What messages are read by: the format of their JSON, and which schema a type's payloads have at a version.
pub record Messages : Type 0 where
  pub format : Format
  pub schema_at : Version → MessageType → Option ℕ

-- That of the protocol's messages.
abbrev pub protocol : Messages
protocol = record { format = protocol_format; schema_at = schema_at }

-- Reading by another table, which has these schemas for those of the protocol.
abbrev pub messages_by : Format → List (Option ℕ) → Messages
messages_by format schemas = record {
  format = format;
  schema_at = λ version ty. schema_in schemas (schema_at version ty);
}

-- Reading by the table and the names that a dump is written by, with these names of the values of enums.
abbrev pub messages_of : Reading → EnumValues → Messages
messages_of reading values = record {
  format = record { table = reading.table; names = reading.names; values = values };
  schema_at = reading.schema_at;
}

-- A version, and what messages are read by.
pub record Making : Type 0 where
  pub version : Version
  pub messages : Messages

-- Reading at a version.
abbrev pub making : Messages → Version → Making
making messages version = record { version = version; messages = messages }

-- The schema of a type's payloads.
abbrev pub schema_of : Making → MessageType → Option ℕ
schema_of by ty = by.messages.schema_at by.version ty
