-- What the fields of the program are.
use Rattle.std.specs.Prelude.{◌≡◌, ℕ, ◌+◌, ◌-◌, ◌≤◌, List, [], ◌∷◌, map, take, drop, length, Option, Some, None, Result}
use Rattle.std.specs.Prelude.{Ok, Err}
use Rattle.shared_core_wire.specs.Grammar.{RecordValue, Length, content}
use Rattle.shared_core_wire.specs.Reader.{record_at}
use Rattle.shared_core_wire.specs.ReadRecords.{PlacedRecord, records_past}
use Rattle.shared_core_wire.specs.Schema.{Table, Kind, Row, U32, U64, Boolean, Enumeration, Text, ByteString, Message}
use Rattle.shared_core_wire.specs.Value.{Part, Parts, Number, Bytes, Nested, Elements}
use Rattle.shared_core_wire.specs.Overlay.{meaning}
use Rattle.shared_core_wire.specs.declared.error.WireError.{WireError}
use Rattle.shared_core_codec.specs.Table.{table as protocol}
use Rattle.shared_core_codec.specs.Canonicity.{next_field}
use Rattle.shared_core_codec.specs.FieldParts.{boolean_part, enum_part, parts_of}
use Rattle.shared_core_codec.specs.ProgramRows.{kind_view}
use Rattle.shared_core_fields.specs.Runs.{held_numbers}
use Rattle.shared_core_fields.specs.Fields.{FieldPart, record_part_in}
use Rattle.shared_core_fields.specs.declared.fields.CanonicalPayload.{CanonicalPayload}
use Rattle.shared_core_fields.specs.declared.fields.FieldValue.{FieldValue}
use Rattle.shared_core_fields.specs.declared.fields.FieldValue.TheVariants as v
use Rattle.shared_core_fields.specs.declared.fields.Field.{Field}
use Rattle.shared_core_fields.specs.declared.fields.Fields.{Fields}

-- The bytes of a payload of the program are those of another one, and so are its table and schema.
abbrev pub IsSamePayload : {T S : _} → CanonicalPayload T S → CanonicalPayload T S → Type 0
IsSamePayload p q = (q.schemas ≡ p.schemas) × (q.schema ≡ p.schema) × (q.bytes ≡ p.bytes)

-- What a payload of the program means.
abbrev pub message_meaning : {T S : _} → CanonicalPayload T S → Parts
message_meaning {T} {S} m = meaning (S.table_of m.schemas) 100 m.schema m.bytes.now

-- The part that a value of the program is.
abbrev pub value_part : {T S : _} → FieldValue (CanonicalPayload T S) → Part
value_part (v.U32 n) = Number n
value_part (v.U64 n) = Number n
value_part (v.Boolean b) = boolean_part b
value_part (v.Enumeration z) = enum_part z
value_part (v.Text text) = Bytes text.now
value_part (v.ByteString bytes) = Bytes bytes.now
value_part (v.Message m) = Nested (message_meaning m)
value_part (v.Numbers run) = Elements (parts_of Number (held_numbers (kind_view run.kind) run.bytes.now))

-- The kind of a value of the program.
abbrev pub value_kind : {T S : _} → FieldValue (CanonicalPayload T S) → Kind
value_kind (v.U32 n) = U32
value_kind (v.U64 n) = U64
value_kind (v.Boolean b) = Boolean
value_kind (v.Enumeration z) = Enumeration
value_kind (v.Text text) = Text
value_kind (v.ByteString bytes) = ByteString
value_kind (v.Message m) = Message m.schema
value_kind (v.Numbers run) = kind_view run.kind

-- The field that a field of the program is.
abbrev pub field_part : {T S : _} → Field (CanonicalPayload T S) → FieldPart
field_part f = (f.number, (value_kind f.value, f.is_repeated), value_part f.value)

-- The bytes that a value of the program borrows from the payload.
abbrev pub value_bytes : {T S : _} → FieldValue (CanonicalPayload T S) → List ℕ
value_bytes (v.Text text) = text.now
value_bytes (v.ByteString bytes) = bytes.now
value_bytes (v.Message m) = m.bytes.now
value_bytes (v.Numbers run) = run.bytes.now
value_bytes value = []

-- The table of a message of a kind, if it is one.
abbrev pub message_schemas : {T : Type 0} → T → Kind → Option T
message_schemas schemas (Message s) = Some schemas
message_schemas schemas k = None

-- The table of the message that a value of the program is, if it is one.
abbrev pub value_schemas : {T S : _} → FieldValue (CanonicalPayload T S) → Option T
value_schemas (v.Message m) = Some m.schemas
value_schemas value = None

-- ---- where the bytes are

-- A field, its bytes, and where they begin in the payload.
pub record PlacedField : Type 0 where
  pub field : FieldPart
  pub bytes : List ℕ
  pub offset : ℕ

-- These bytes are those of the payload at an offset.
abbrev pub IsAt : List ℕ → ℕ → List ℕ → Type 0
IsAt payload offset bytes =
    (offset + length bytes ≤ length payload) × (take (length bytes) (drop offset payload) ≡ bytes)

-- The bytes of each field are those of the payload at its offset.
abbrev pub EachIsAt : List ℕ → List PlacedField → Type 0
EachIsAt payload [] = Unit {0}
EachIsAt payload (f ∷ fs) = IsAt payload f.offset f.bytes × EachIsAt payload fs

-- Where the content of a record that ends at an offset begins; 0, if it is not length-delimited.
abbrev pub content_offset : RecordValue → ℕ → ℕ
content_offset (Length bytes) end = end - length bytes
content_offset w end = 0

-- The field of a record.
abbrev pub placed_record : FieldPart → PlacedRecord → PlacedField
placed_record f r = record {
  field = f;
  bytes = content r.field_record.value;
  offset =
      content_offset r.field_record.value r.to;
}

-- The field that a field of the program is, and where.
abbrev pub placed_field : {T S : _} → Field (CanonicalPayload T S) → PlacedField
placed_field f = record { field = field_part f; bytes = value_bytes f.value; offset = f.offset }

-- A field with where it is, and the table of the message that it holds, if it holds one.
pub record GivenField (T : Type 0) : Type 0 where
  pub placed : PlacedField
  pub schemas : Option T

-- The field of a payload of a table.
abbrev pub given : {T : Type 0} → T → PlacedField → GivenField T
given schemas f = record { placed = f; schemas = message_schemas schemas f.field.1.0 }

-- The same of the program.
abbrev pub given_field : {T S : _} → Field (CanonicalPayload T S) → GivenField T
given_field f = record { placed = placed_field f; schemas = value_schemas f.value }

-- A field with where it is, without a table.
abbrev pub placed_of : {T : Type 0} → GivenField T → PlacedField
placed_of f = f.placed

-- A message in a field is of this table.
abbrev pub IsOf : {T : Type 0} → T → Option T → Type 0
IsOf schemas None = Unit {0}
IsOf schemas (Some t) = t ≡ schemas

-- Each message in a field is of this table.
abbrev pub EachIsOf : {T : Type 0} → T → List (GivenField T) → Type 0
EachIsOf schemas [] = Unit {0}
EachIsOf schemas (f ∷ fs) = IsOf schemas f.schemas × EachIsOf schemas fs

-- A field without where it is.
abbrev pub unplaced : PlacedField → FieldPart
unplaced f = f.field

-- ---- iterators

-- The fields of the items of a payload of a table, where these rows are left.
abbrev pub item_fields_in : Table → List Row → List (Result PlacedRecord WireError) → List PlacedField
item_fields_in table rows [] = []
item_fields_in table rows (Ok r ∷ items) = elim (next_field rows r.field_record.number) [
  | None ↦ []
  | Some next ↦
      placed_record (r.field_record.number, next.field, record_part_in table next.field r.field_record.value) r
      ∷ item_fields_in table next.rows items
]
item_fields_in table rows (Err e ∷ items) = []

-- The same for the schemas of the protocol.
abbrev pub item_fields : List Row → List (Result PlacedRecord WireError) → List PlacedField
item_fields = item_fields_in protocol

-- What an iterator over fields has still to return, with where the bytes are, and with the tables of messages.
unfoldable pub given_left : {T R S V W : _} → Fields T R S V W → List (GivenField T)
given_left {T} {R} {S} {V} {W} f = map (given f.schemas)
    (item_fields_in (W.table_of f.schemas) (map V.view f.rows.now) (records_past (record_at 0) f.end 0 f.rest.now))

-- The same without tables.
abbrev pub places_left : {T R S V W : _} → Fields T R S V W → List PlacedField
places_left f = map placed_of (given_left f)

-- The same without where they are.
abbrev pub fields_left : {T R S V W : _} → Fields T R S V W → List FieldPart
fields_left f = map unplaced (places_left f)
