-- What a line has of the contents of a message.
use Rattle.std.specs.Prelude.{ℕ, Bool, true, false, ◌||◌, List, [], ◌∷◌, ◌++◌, codes, decimal, nat_eq, nat_lt}
use Rattle.std.specs.Prelude.{Option, Some, None, if◌then◌else◌, flat_map, ◌==◌}
use Rattle.std.specs.Fmt.{digits}
use Rattle.shared_core_base.specs.MessageType.{code_of, debug_name_of}
use Rattle.shared_core_base.specs.declared.header.MessageType.{MessageType}
use Rattle.shared_core_base.specs.declared.version.Version.{Version}
use Rattle.shared_core_wire.specs.Acceptance.{accepts_payload}
use Rattle.shared_core_wire.specs.Schema.{U32, U64, Text, ByteString, Message}
use Rattle.shared_core_wire.specs.Value.{Parts, Number, Bytes, Nested}
use Rattle.shared_core_codec.specs.Payloads.{payload_meaning}
use Rattle.shared_core_codec.specs.Table as schema
use Rattle.shared_core_fields.specs.Fields.{FieldPart, message_fields}
use Rattle.shared_core_json.specs.Fields.{names_of, name_of}
use Rattle.shared_core_message.specs.Schemas.{schema_at}
use Rattle.shared_core_stream.specs.declared.encoding.item.Item.{Item}
use Rattle.shared_core_stream.specs.declared.encoding.item.Item.TheVariants as item
use Rattle.show_lines.specs.Excerpt.{excerpt}
use Rattle.show_lines.specs.declared.facts.Role.{Role}
use Rattle.show_lines.specs.declared.facts.Role.TheVariants.{Command, Notification, Other}
use Rattle.show_lines.specs.declared.held.Held.{Held}
use Rattle.show_lines.specs.declared.held.Held.TheVariants as held

-- What a message is for: by its code a command, a notification, or something else.
abbrev pub role_of : MessageType → Role
role_of ty =
    if nat_lt (code_of ty) 0x400 then Other else (if nat_lt (code_of ty) 0x8000 then Command else
    (if nat_lt (code_of ty) 0xFC00 then Notification else Other))

-- ---- what an item holds

-- Bytes whose meaning is not known, a payload that is not well-formed, or what a payload of a schema means.
pub data Holding : Type 0 where
  OpaqueBytes : List ℕ → Holding
  Malformed : List ℕ → Holding
  Means : ℕ → Parts → Holding

-- What the program has of it.
abbrev pub held_view : Held → Holding
held_view (held.Opaque bytes) = OpaqueBytes bytes.now
held_view (held.Malformed bytes) = Malformed bytes.now
held_view (held.Fields payload) = Means payload.schema (payload_meaning payload.schema payload.bytes.now)

-- What a payload is, by its schema; a custom entry has none.
abbrev pub payload_held : Option ℕ → List ℕ → Holding
payload_held None payload = OpaqueBytes payload
payload_held (Some s) payload =
    if accepts_payload schema.table 100 s payload then Means s (payload_meaning s payload) else Malformed payload

-- What an item holds: nothing, if its code is unknown and its payload is not read.
abbrev pub item_held : Version → Item → Option Holding
item_held version (item.Message message) = Some (payload_held (schema_at version message.header.ty) message.payload)
item_held version (item.Unknown code) = None
item_held version (item.Skipped code payload) = Some (OpaqueBytes payload)

-- The type of an item: the name of one, or what its code is.
abbrev pub type_text : Item → List ℕ
type_text (item.Message message) = debug_name_of message.header.ty
type_text (item.Unknown code) = codes "unknown 0x" ++ digits 16 false code
type_text (item.Skipped code payload) = codes "skipped 0x" ++ digits 16 false code

-- ---- what is in a payload

-- The fields of a value of a schema.
abbrev pub value_fields : ℕ → Parts → List FieldPart
value_fields s value = message_fields (schema.table s) value

-- Whether a field has the id by which a command and its completion belong together: of a command the tenth, for the id
-- of an invocation, and the eleventh, for its result; of a notification the first.
abbrev pub is_id : Role → ℕ → Bool
is_id Command n = nat_eq n 10 || nat_eq n 11
is_id Notification n = nat_eq n 1
is_id Other n = false

-- A text, after a space.
abbrev pub shown_text : List ℕ → List ℕ
shown_text bytes = codes " " ++ excerpt bytes

-- Bytes, after a space and in quotes.
abbrev pub shown_bytes : List ℕ → List ℕ
shown_bytes bytes = codes " \"" ++ (excerpt bytes ++ codes "\"")

-- A number, after a space and the name of its field.
abbrev pub shown_number : ℕ → ℕ → ℕ → List ℕ
shown_number s n number = codes " " ++ (name_of (names_of s) n ++ (codes "=" ++ decimal number))

-- A field that is not a message, of a schema: a text, bytes or a number; nothing of an id, of a repeated field or of
-- another kind.
abbrev pub scalar_text : Role → ℕ → FieldPart → List ℕ
scalar_text role s (n, (Text, false), Bytes text) = shown_text text
scalar_text role s (n, (ByteString, false), Bytes bytes) = shown_bytes bytes
scalar_text role s (n, (U32, false), Number number) = if is_id role n then [] else shown_number s n number
scalar_text role s (n, (U64, false), Number number) = shown_number s n number
scalar_text role s field = []

-- The fields of a nested message, except those that are messages; `failed` is before those of a failure.
abbrev pub nested_text : ℕ → Parts → List ℕ
nested_text s value =
    (if s == schema.failure then codes " failed" else codes "") ++ flat_map (scalar_text Other s) (value_fields s value)

-- A field of a message.
abbrev pub field_text : Role → ℕ → FieldPart → List ℕ
field_text role s (n, (Message t, false), Nested value) = nested_text t value
field_text role s field = scalar_text role s field

-- The fields of a message.
abbrev pub fields_text : Role → ℕ → List FieldPart → List ℕ
fields_text role s fields = flat_map (field_text role s) fields

-- What a line has of what a message holds: of a custom entry its bytes, and of other messages their fields.
abbrev pub held_text : Role → Holding → List ℕ
held_text role (OpaqueBytes bytes) = shown_bytes bytes
held_text role (Malformed bytes) = codes " malformed"
held_text role (Means s value) = fields_text role s (value_fields s value)

-- The number of a field that is one of 32 bits.
abbrev pub number_part : FieldPart → Option ℕ
number_part (n, (U32, repeated), Number number) = Some number
number_part field = None

-- The number of the first field with this number.
abbrev pub number_in : ℕ → List FieldPart → Option ℕ
number_in n [] = None
number_in n (field ∷ fields) = if field.0 == n then number_part field else number_in n fields

-- Whether a field is a failure.
abbrev pub is_failure : FieldPart → Bool
is_failure (n, (Message s, repeated), part) = s == schema.failure
is_failure field = false

-- Whether one of the fields is a failure.
abbrev pub has_failure : List FieldPart → Bool
has_failure [] = false
has_failure (field ∷ fields) = if is_failure field then true else has_failure fields

-- Whether a message of a schema with these fields is a failure: an error message is one, and what has a failure.
abbrev pub fails_as : ℕ → List FieldPart → Bool
fails_as s fields = (s == schema.error) || has_failure fields
