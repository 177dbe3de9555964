-- The field that the bytes of a FieldDescriptorProto say.
use Rattle.std.specs.Prelude.{◌≡◌, ℕ, ◌%◌, Bool, true, false, not, ◌&&◌, ◌==◌, if◌then◌else◌, List, [], ◌∷◌}
use Rattle.std.specs.Prelude.{Option, Some, None, chars}
use Rattle.std.specs.Char.{to_ascii_uppercase}
use Rattle.std.specs.List.{last_or}
use Rattle.std.specs.Option.{option_map}
use Rattle.std.specs.Str.{encode_utf8_all}
use Rattle.std.specs.String.{string_bytes}
use Rattle.descriptor_set.specs.declared.field.FieldDescriptor.{FieldDescriptor}
use Rattle.descriptor_set.specs.declared.field.FieldKind.{FieldKind}
use Rattle.descriptor_set.specs.declared.field.FieldKind.TheVariants as kind
use Rattle.descriptor_set.specs.declared.field.Presence.{Presence}
use Rattle.descriptor_set.specs.declared.field.Presence.TheVariants as presence
use Rattle.descriptor_set.specs.Values.{is_set, number_in, numbers_in, text_in}

-- What protobuf reads as an int32 or as an enum of a varint: the low 32 bits.
abbrev pub low_bits : ℕ → ℕ
low_bits number = number % 4294967296

-- The last int32 or enum of a field number; 0 if there is none.
abbrev pub int_in : ℕ → List ℕ → ℕ
int_in number bytes = low_bits (number_in number bytes)

-- The type of a number of FieldDescriptorProto.Type.
abbrev pub kind_of : ℕ → FieldKind
kind_of n =
    if n == 1 then kind.Double else (if n == 2 then kind.Float else (if n == 3 then kind.Int64
    else (if n == 4 then kind.Uint64 else (if n == 5 then kind.Int32 else (if n == 6 then kind.Fixed64
    else (if n == 7 then kind.Fixed32 else (if n == 8 then kind.Boolean else (if n == 9 then kind.Text
    else (if n == 10 then kind.Group else (if n == 11 then kind.Message else (if n == 12 then kind.ByteString
    else (if n == 13 then kind.Uint32 else (if n == 14 then kind.Enumeration else (if n == 15 then kind.Sfixed32
    else (if n == 16 then kind.Sfixed64 else (if n == 17 then kind.Sint32 else (if n == 18 then kind.Sint64
    else kind.Unknown)))))))))))))))))

-- Whether fields of a type are messages.
abbrev pub is_message : FieldKind → Bool
is_message kind.Message = true
is_message k = false

-- How a field is there that is neither repeated nor a member of a oneof: its records may be missing if it is
-- `optional`, in any file that is not proto3, and where it is a message.
abbrev pub single_presence : Bool → Bool → FieldKind → Presence
single_presence true is_proto3 k = presence.Optional
single_presence false is_proto3 k = if is_proto3 && not (is_message k) then presence.Plain else presence.Optional

-- The same, where it has the index of a oneof or none. That of a field that is `optional` is protoc's own.
abbrev pub member_presence : Bool → Option ℕ → Bool → FieldKind → Presence
member_presence false (Some oneof) is_proto3 k = presence.Member oneof
member_presence is_optional oneof is_proto3 k = single_presence is_optional is_proto3 k

-- How a field is there, by its label; 3 is `repeated`.
abbrev pub presence_by : ℕ → Bool → Option ℕ → Bool → FieldKind → Presence
presence_by label is_optional oneof is_proto3 k =
    if label == 3 then presence.Repeated else member_presence is_optional oneof is_proto3 k

-- A character after an underscore or not: an ASCII letter after one is a capital.
abbrev pub cased : Bool → ℕ → ℕ
cased is_after c = if is_after then to_ascii_uppercase c else c

-- Characters without underscores, after one or not.
abbrev pub camel_chars : Bool → List ℕ → List ℕ
camel_chars is_after [] = []
camel_chars is_after (c ∷ cs) =
    if c == 95 then camel_chars true cs else cased is_after c ∷ camel_chars false cs

-- The name in JSON that a name has.
abbrev pub camel_case : List ℕ → List ℕ
camel_case name = encode_utf8_all (camel_chars false (chars name))

-- The name in JSON: what the set says, or else the one that the name has.
abbrev pub json_name_of : List ℕ → List ℕ → List ℕ
json_name_of [] name = camel_case name
json_name_of (b ∷ said) name = b ∷ said

-- A full name without the dot before it.
abbrev pub without_dot : List ℕ → List ℕ
without_dot [] = []
without_dot (b ∷ name) = if b == 46 then name else b ∷ name

-- What is read of the bytes: name, number, label, type, type_name, oneof_index, json_name and proto3_optional.
abbrev pub kind_in : List ℕ → FieldKind
kind_in bytes = kind_of (int_in 5 bytes)

abbrev pub oneof_in : List ℕ → Option ℕ
oneof_in bytes = option_map low_bits (last_or None (numbers_in 9 bytes))

abbrev pub presence_in : Bool → List ℕ → Presence
presence_in is_proto3 bytes =
    presence_by (int_in 4 bytes) (is_set 17 bytes) (oneof_in bytes) is_proto3 (kind_in bytes)

-- This is the field that the bytes say, in a file of proto3 or not.
pub record IsField (is_proto3 : Bool) (bytes : List ℕ) (field : FieldDescriptor) : Type 0 where
  pub number : field.number ≡ int_in 3 bytes
  pub name : string_bytes field.name ≡ text_in 1 bytes
  pub json_name : string_bytes field.json_name ≡ json_name_of (text_in 10 bytes) (text_in 1 bytes)
  pub kind : field.kind ≡ kind_in bytes
  pub presence : field.presence ≡ presence_in is_proto3 bytes
  pub type_name : string_bytes field.type_name ≡ without_dot (text_in 6 bytes)
