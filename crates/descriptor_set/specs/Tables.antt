-- The table of schemas of a set: what its fields are there, and the rows of its messages.
use Rattle.std.specs.Prelude.{ℕ, ◌+◌, ◌^◌, ◌==◌, Bool, true, false, ◌&&◌, if◌then◌else◌, nat_lt}
use Rattle.std.specs.Prelude.{List, [], ◌∷◌, ◌++◌, map, Option, Some, None, slice_get}
use Rattle.std.specs.List.{cons_option, list_any}
use Rattle.std.specs.Option.{option_or}
use Rattle.std.specs.String.{string_bytes}
use Rattle.shared_core_wire.specs.Schema as schema
use Rattle.shared_core_codec.specs.ProgramRows.{field_view}
use Rattle.shared_core_codec.specs.declared.rows.Kind.TheVariants as kind
use Rattle.shared_core_json.specs.declared.digits.Digits.{Digits}
use Rattle.shared_core_json.specs.declared.digits.Digits.TheVariants as digits
use Rattle.descriptor_set.specs.declared.field.FieldDescriptor.{FieldDescriptor}
use Rattle.descriptor_set.specs.declared.field.FieldKind.{FieldKind}
use Rattle.descriptor_set.specs.declared.field.FieldKind.TheVariants as field
use Rattle.descriptor_set.specs.declared.field.Presence.{Presence}
use Rattle.descriptor_set.specs.declared.field.Presence.TheVariants as presence
use Rattle.descriptor_set.specs.declared.form.Form.{Form}
use Rattle.descriptor_set.specs.declared.form.Form.TheVariants as form
use Rattle.descriptor_set.specs.declared.form.NoForm.TheVariants as why
use Rattle.descriptor_set.specs.declared.set.DescriptorSet.{DescriptorSet}
use Rattle.descriptor_set.specs.declared.set.MessageDescriptor.{MessageDescriptor}
use Rattle.descriptor_set.specs.declared.table.PassedOver.{PassedOver}
use Rattle.descriptor_set.specs.declared.table_rows.Formed.{Formed}
use Rattle.descriptor_set.specs.Found.{index_of}

-- ---- forms

-- The full names of messages.
abbrev pub message_names : List MessageDescriptor → List (List ℕ)
message_names messages = map (λ message. string_bytes message.name) messages

-- Whether a field is repeated, and whether the message that may be there is the entry of a map.
abbrev pub is_repeated : Presence → Bool
is_repeated presence.Repeated = true
is_repeated other = false

abbrev pub is_entry : Option MessageDescriptor → Bool
is_entry None = false
is_entry (Some message) = message.is_map_entry

-- What a field of this presence is, whose message has an index: no map, and its index fits 32 bits.
abbrev pub found_form : DescriptorSet → Presence → ℕ → Form
found_form set presence index =
    if is_repeated presence && is_entry (slice_get set.messages.items index) then form.None why.Map
    else (if nat_lt index (2 ^ 32) then form.Kind (kind.Message index) else form.Unknown)

-- The same of an index that may be there.
abbrev pub form_at : DescriptorSet → Presence → Option ℕ → Form
form_at set presence None = form.Unknown
form_at set presence (Some index) = found_form set presence index

-- What a message field is: its message is the one of the name of its type.
abbrev pub message_form : DescriptorSet → FieldDescriptor → Form
message_form set f = form_at set f.presence (index_of (message_names set.messages.items) (string_bytes f.type_name))

-- What a field of a kind is, where a message is this: a number with a sign is of the kind of its bytes, and an int32 is
-- written as an enum is.
abbrev pub kind_form : FieldKind → Form → Form
kind_form field.Uint32 message = form.Kind kind.U32
kind_form field.Sint32 message = form.Kind kind.U32
kind_form field.Uint64 message = form.Kind kind.U64
kind_form field.Int64 message = form.Kind kind.U64
kind_form field.Sint64 message = form.Kind kind.U64
kind_form field.Boolean message = form.Kind kind.Boolean
kind_form field.Enumeration message = form.Kind kind.Enumeration
kind_form field.Int32 message = form.Kind kind.Enumeration
kind_form field.Text message = form.Kind kind.Text
kind_form field.ByteString message = form.Kind kind.ByteString
kind_form field.Message message = message
kind_form other message = form.None why.Kind

-- What a field of a set is in its table.
abbrev pub form_of : DescriptorSet → FieldDescriptor → Form
form_of set f = kind_form f.kind (message_form set f)

-- How the numbers of a field of a kind are written in JSON.
abbrev pub digits_of : FieldKind → Digits
digits_of field.Int64 = digits.Signed
digits_of field.Sint32 = digits.ZigZag
digits_of field.Sint64 = digits.ZigZag
digits_of other = digits.Unsigned

-- ---- rows

-- A field of this form that a table has, if it has one.
abbrev pub formed_by : FieldDescriptor → Form → Option Formed
formed_by f (form.Kind k) = Some (record { presence = f.presence; field = record { number = f.number; kind = k } })
formed_by f (form.None why) = None
formed_by f form.Unknown = None

-- The fields that the table has, of some fields.
abbrev pub formed_in : DescriptorSet → List FieldDescriptor → List Formed
formed_in set [] = []
formed_in set (f ∷ fields) = cons_option (formed_by f (form_of set f)) (formed_in set fields)

-- A field, if a form is that of a message which the set does not have.
abbrev pub unknown_by : FieldDescriptor → Form → Option FieldDescriptor
unknown_by f (form.Kind k) = None
unknown_by f (form.None why) = None
unknown_by f form.Unknown = Some f

-- The first of some fields that is such a message.
abbrev pub unknown_in : DescriptorSet → List FieldDescriptor → Option FieldDescriptor
unknown_in set [] = None
unknown_in set (f ∷ fields) = option_or (unknown_by f (form_of set f)) (unknown_in set fields)

-- The index of the oneof of a field, if it is in one.
abbrev pub oneof_of : Presence → Option ℕ
oneof_of (presence.Member oneof) = Some oneof
oneof_of presence.Plain = None
oneof_of presence.Optional = None
oneof_of presence.Repeated = None

-- Whether a oneof that may be there is a given one, and whether it is among these.
abbrev pub is_oneof : ℕ → Option ℕ → Bool
is_oneof oneof None = false
is_oneof oneof (Some other) = other == oneof

abbrev pub is_among : List ℕ → Option ℕ → Bool
is_among seen None = false
is_among seen (Some oneof) = list_any (λ other. other == oneof) seen

-- The oneofs that have had a row, and one more.
abbrev pub with_oneof : List ℕ → Option ℕ → List ℕ
with_oneof seen None = seen
with_oneof seen (Some oneof) = seen ++ oneof ∷ []

-- The members of a oneof among some fields.
abbrev pub members_of : ℕ → List Formed → List (ℕ × schema.Kind)
members_of oneof [] = []
members_of oneof (f ∷ fields) =
    if is_oneof oneof (oneof_of f.presence) then field_view f.field ∷ members_of oneof fields
    else members_of oneof fields

-- The row of a field that is followed by others: a oneof has all its members.
abbrev pub row_at : Presence → ℕ × schema.Kind → List Formed → schema.Row
row_at presence.Plain f rest = schema.Plain f.0 f.1
row_at presence.Optional f rest = schema.Optional f.0 f.1
row_at presence.Repeated f rest = schema.Repeated f.0 f.1
row_at (presence.Member oneof) f rest = schema.OneOf (f ∷ members_of oneof rest)

-- The rows of some fields: a oneof is a row at its first member. Some have had their row.
abbrev pub rows_from : List ℕ → List Formed → List schema.Row
rows_from seen [] = []
rows_from seen (f ∷ rest) =
    if is_among seen (oneof_of f.presence) then rows_from seen rest
    else row_at f.presence (field_view f.field) rest ∷ rows_from (with_oneof seen (oneof_of f.presence)) rest

-- The rows of a message.
abbrev pub field_rows : DescriptorSet → MessageDescriptor → List schema.Row
field_rows set message = rows_from [] (formed_in set message.fields.items)

-- The rows of each message of a set.
abbrev pub schemas_of : DescriptorSet → List (List schema.Row)
schemas_of set = map (field_rows set) set.messages.items

-- ---- fields without a row

-- The field of an index of a message, if its form has the reason for which a table has no row for it.
abbrev pub passed_by : ℕ → ℕ → Form → Option PassedOver
passed_by message index (form.None why) = Some (record { message = message; field = index; why = why })
passed_by message index (form.Kind k) = None
passed_by message index form.Unknown = None

-- The fields of a message, from an index on, for which the engine has no form.
abbrev pub passed_in : DescriptorSet → ℕ → ℕ → List FieldDescriptor → List PassedOver
passed_in set message index [] = []
passed_in set message index (f ∷ fields) =
    cons_option (passed_by message index (form_of set f)) (passed_in set message (index + 1) fields)

-- The same of the messages from an index on.
abbrev pub passed_from : DescriptorSet → ℕ → List MessageDescriptor → List PassedOver
passed_from set index [] = []
passed_from set index (message ∷ messages) =
    passed_in set index 0 message.fields.items ++ passed_from set (index + 1) messages
