-- A payload whose contents are replaced: the same records, numbers, keys and lengths, and the texts and bytes of all
-- levels replaced.
use Rattle.std.specs.Prelude.{ℕ, zero, suc, ◌-◌, Bool, List, [], ◌∷◌, ◌++◌, length, take, drop, if◌then◌else◌}
use Rattle.std.specs.Prelude.{Option, Some, None, Result, Ok, Err}
use Rattle.std.specs.Option.{option_map_or}
use Rattle.shared_core_base.specs.declared.header.MessageType.{MessageType}
use Rattle.shared_core_base.specs.declared.version.Version.{Version}
use Rattle.shared_core_wire.specs.Acceptance.{accepts_payload}
use Rattle.shared_core_wire.specs.Grammar.{RecordValue, Varint, Fixed64, Length, Group, Fixed32, FieldRecord}
use Rattle.shared_core_wire.specs.Reader.{varint_at}
use Rattle.shared_core_wire.specs.ReadRecords.{PlacedRecord, read_records}
use Rattle.shared_core_wire.specs.Schema.{Kind, Row, U32, U64, Boolean, Enumeration, Text, ByteString, Message}
use Rattle.shared_core_wire.specs.declared.error.WireError.{WireError}
use Rattle.shared_core_codec.specs.ProgramRows.{field_numbered}
use Rattle.shared_core_codec.specs.Table.{table}
use Rattle.shared_core_message.specs.Schemas.{schema_at}
use Rattle.stream_redaction.specs.declared.key.Key.{Key}
use Rattle.stream_redaction.specs.Replacement.{replacement, zeros}

-- What the bytes of a nested message with these rows become.
abbrev pub Nested : Type 0
Nested = List Row → List ℕ → List ℕ

-- What length-delimited bytes become in a field of a kind: a message is redacted itself, a packed run of numbers stays,
-- and all else is replaced.
abbrev pub content_of_kind : Key → Nested → Kind → List ℕ → List ℕ
content_of_kind key nested U32 bytes = bytes
content_of_kind key nested U64 bytes = bytes
content_of_kind key nested Boolean bytes = bytes
content_of_kind key nested Enumeration bytes = bytes
content_of_kind key nested (Message s) bytes = nested (table s) bytes
content_of_kind key nested Text bytes = replacement key bytes
content_of_kind key nested ByteString bytes = replacement key bytes

-- The same by the field that has the record's number, if there is one.
abbrev pub content_of_field : Key → Nested → Option (Kind × Bool) → List ℕ → List ℕ
content_of_field key nested None bytes = replacement key bytes
content_of_field key nested (Some field) bytes = content_of_kind key nested field.0 bytes

-- What the value of a record with this field becomes. The records of a group have no fields.
abbrev pub redacted_value : Key → Nested → Option (Kind × Bool) → RecordValue → RecordValue
redacted_value key nested field (Varint n) = Varint n
redacted_value key nested field (Fixed64 bytes) = Fixed64 bytes
redacted_value key nested field (Length bytes) = Length (content_of_field key nested field bytes)
redacted_value key nested field (Group bytes) = Group (nested [] bytes)
redacted_value key nested field (Fixed32 bytes) = Fixed32 bytes

-- What a record becomes, among these rows.
abbrev pub redacted_record : Key → Nested → List Row → FieldRecord → FieldRecord
redacted_record key nested rows r =
    record { number = r.number; value = redacted_value key nested (field_numbered rows r.number) r.value }

-- The bytes after a varint.
unfoldable pub after_varint : List ℕ → List ℕ
after_varint bytes = option_map_or (λ x. x.1) (varint_at bytes) []

-- The bytes of a group's record, with other bytes between its start and its end than these.
abbrev pub with_group : List ℕ → List ℕ → List ℕ → List ℕ
with_group other content bytes =
    take (length bytes - length (after_varint bytes)) bytes ++ (other ++ drop (length content) (after_varint bytes))

-- What the bytes of a record become: only its content is replaced, so that a key or a length that is longer than
-- necessary stays so.
abbrev pub redacted_bytes : Key → Nested → Option (Kind × Bool) → RecordValue → List ℕ → List ℕ
redacted_bytes key nested field (Varint n) bytes = bytes
redacted_bytes key nested field (Fixed64 content) bytes = bytes
redacted_bytes key nested field (Length content) bytes =
    take (length bytes - length content) bytes ++ content_of_field key nested field content
redacted_bytes key nested field (Group content) bytes = with_group (nested [] content) content bytes
redacted_bytes key nested field (Fixed32 content) bytes = bytes

-- What bytes become that these items were read of, among these rows: what each record becomes, and zeros for bytes that
-- no record is at the front of.
abbrev pub redacted_items : Key → Nested → List Row → List ℕ → List (Result PlacedRecord WireError) → List ℕ
redacted_items key nested rows bytes [] = []
redacted_items key nested rows bytes (Ok r ∷ items) =
    redacted_bytes key nested (field_numbered rows r.field_record.number) r.field_record.value
    (take (r.to - r.from) bytes)
    ++ redacted_items key nested rows (drop (r.to - r.from) bytes) items
redacted_items key nested rows bytes (Err e ∷ items) = zeros (length bytes)

-- What the bytes of a nested message or of a group become, where the record that holds them allows `left` levels of
-- nesting; zeros, if it allows none.
unfoldable pub redacted_nested : Key → ℕ → Nested
redacted_nested key zero rows bytes = zeros (length bytes)
redacted_nested key (suc left) rows bytes =
    redacted_items key (redacted_nested key left) rows bytes (read_records left bytes)

-- What bytes become whose records are among these rows and allow `left` levels of nesting.
abbrev pub redacted_records : Key → ℕ → List Row → List ℕ → List ℕ
redacted_records key left rows bytes =
    redacted_items key (redacted_nested key left) rows bytes (read_records left bytes)

-- What a payload of a schema becomes: if it is not well-formed, zeros, which are not well-formed either. Without a
-- schema it is replaced whole.
abbrev pub redacted_for : Key → Option ℕ → List ℕ → List ℕ
redacted_for key None payload = replacement key payload
redacted_for key (Some s) payload =
    if accepts_payload table 100 s payload
    then redacted_records key 100 (table s) payload
    else zeros (length payload)

-- What the payload of a type becomes at a version.
abbrev pub redacted_payload : Key → Version → MessageType → List ℕ → List ℕ
redacted_payload key version ty payload = redacted_for key (schema_at version ty) payload
