-- What fields of the protocol and of a set are, and which two are of one kind.
use Rattle.std.specs.Prelude.{ℕ, Bool, true, false, ◌&&◌, not, nat_eq, if◌then◌else◌, List, [], ◌∷◌}
use Rattle.std.specs.Prelude.{Option, Some, None, slice_get}
use Rattle.std.specs.Option.{option_map, unwrap_or}
use Rattle.std.specs.Str.{bytes_eq}
use Rattle.std.specs.String.{string_bytes}
use Rattle.shared_core_wire.specs.Schema as schema
use Rattle.shared_core_codec.specs.ProgramRows.{field_numbered, kind_view}
use Rattle.shared_core_codec.specs.Table.{table}
use Rattle.descriptor_set.specs.declared.field.FieldDescriptor.{FieldDescriptor}
use Rattle.descriptor_set.specs.declared.field.FieldKind.{FieldKind}
use Rattle.descriptor_set.specs.declared.field.FieldKind.TheVariants as field
use Rattle.descriptor_set.specs.declared.field.Presence.{Presence}
use Rattle.descriptor_set.specs.declared.field.Presence.TheVariants as presence
use Rattle.descriptor_set.specs.declared.set.DescriptorSet.{DescriptorSet}
use Rattle.descriptor_set.specs.declared.set.MessageDescriptor.{MessageDescriptor}
use Rattle.schema_lines.specs.declared.kinds.Label.{Label}
use Rattle.schema_lines.specs.declared.kinds.Label.TheVariants as label
use Rattle.schema_lines.specs.declared.kinds.Ours.{Ours}
use Rattle.schema_lines.specs.Pairs.{found_at}

-- A field of the protocol: its number, its kind, and how it is there.
pub record OurField : Type 0 where
  pub number : ℕ
  pub kind : schema.Kind
  pub label : Label

abbrev pub our_view : Ours → OurField
our_view ours = record { number = ours.number; kind = kind_view ours.kind; label = ours.label }

-- Whether a kind is a message.
abbrev pub is_message : schema.Kind → Bool
is_message (schema.Message s) = true
is_message kind = false

-- How the field of a number and a kind is there, if a row has it repeated, or optional and not a message.
abbrev pub row_label : schema.Row → ℕ → schema.Kind → Option Label
row_label (schema.Repeated m other) number kind = if nat_eq m number then Some label.Repeated else None
row_label (schema.Optional m other) number kind =
    if nat_eq m number && not (is_message kind) then Some label.Optional else None
row_label (schema.Plain m other) number kind = None
row_label (schema.OneOf members) number kind = None

-- The same among rows.
abbrev pub label_of : List schema.Row → ℕ → schema.Kind → Label
label_of [] number kind = label.None
label_of (row ∷ rows) number kind = unwrap_or (row_label row number kind) (label_of rows number kind)

-- The field of a number of a schema of the protocol.
unfoldable pub our_field : ℕ → ℕ → Option OurField
our_field s number =
    option_map (λ found. record { number = number; kind = found.0; label = label_of (table s) number found.0 })
    (field_numbered (table s) number)

-- Whether a field of a set is a message.
abbrev pub is_their_message : FieldKind → Bool
is_their_message field.Message = true
is_their_message kind = false

-- How a field of a set is there: neither for a member of a oneof, nor for a message.
abbrev pub label_by : Presence → Bool → Label
label_by presence.Plain is_message = label.None
label_by (presence.Member oneof) is_message = label.None
label_by presence.Optional true = label.None
label_by presence.Optional false = label.Optional
label_by presence.Repeated is_message = label.Repeated

abbrev pub their_label : FieldDescriptor → Label
their_label f = label_by f.presence (is_their_message f.kind)

-- Whether two labels are the same.
abbrev pub is_same_label : Label → Label → Bool
is_same_label label.None label.None = true
is_same_label label.Optional label.Optional = true
is_same_label label.Repeated label.Repeated = true
is_same_label one other = false

-- The message of an index, if there is one.
abbrev pub message_at : DescriptorSet → Option ℕ → Option MessageDescriptor
message_at set None = None
message_at set (Some index) = slice_get set.messages.items index

-- Whether a message is there and has a full name.
abbrev pub is_named : Option MessageDescriptor → List ℕ → Bool
is_named None name = false
is_named (Some message) name = bytes_eq (string_bytes message.name) name

-- Whether bytes of a kind of the protocol and of a field of a set mean the same. The messages of the set for the
-- protocol's are given.
abbrev pub is_of_kind : DescriptorSet → List (Option ℕ) → schema.Kind → FieldKind → List ℕ → Bool
is_of_kind set named schema.U32 field.Uint32 type_name = true
is_of_kind set named schema.U64 field.Uint64 type_name = true
is_of_kind set named schema.Boolean field.Boolean type_name = true
is_of_kind set named schema.Enumeration field.Enumeration type_name = true
is_of_kind set named schema.Text field.Text type_name = true
is_of_kind set named schema.ByteString field.ByteString type_name = true
is_of_kind set named (schema.Message s) field.Message type_name =
    is_named (message_at set (found_at named s)) type_name
is_of_kind set named kind other type_name = false

-- Whether a field of the protocol and one of a set are of one kind.
unfoldable pub is_same_kind : DescriptorSet → List (Option ℕ) → OurField → FieldDescriptor → Bool
is_same_kind set named ours theirs =
    is_same_label ours.label (their_label theirs)
    && is_of_kind set named ours.kind theirs.kind (string_bytes theirs.type_name)
