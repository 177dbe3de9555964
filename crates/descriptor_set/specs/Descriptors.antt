-- The schemas of descriptor.proto's messages, as far as a set is read. Its fields have presence, as proto2's do. An
-- int32 is an enumeration here, since both are written alike. What is not listed is skipped, as unknown fields are.
use Rattle.std.specs.Prelude.{ℕ, List, [], ◌∷◌, refl}
use Rattle.shared_core_wire.specs.Schema.{Row, Table, Optional, Repeated, U32, Boolean, Enumeration, Text}
use Rattle.shared_core_wire.specs.Schema.{ByteString, Message, table_of}
use Rattle.shared_core_codec.specs.Tables.{IsTable, IsAcceptedIn, each_is_rows}

-- FileDescriptorSet, FileDescriptorProto, DescriptorProto, FieldDescriptorProto, MessageOptions, EnumDescriptorProto,
-- EnumValueDescriptorProto, SourceCodeInfo and its Location.
abbrev pub schemas : List (List Row)
schemas =
    (Repeated 1 (Message 1) ∷ [])
    ∷ (Optional 1 Text ∷ Optional 2 Text ∷ Repeated 4 (Message 2) ∷ Repeated 5 (Message 5) ∷ Optional 9 (Message 7)
    ∷ Optional 12 Text ∷ [])
    ∷ (Optional 1 Text ∷ Repeated 2 (Message 3) ∷ Repeated 3 (Message 2) ∷ Repeated 4 (Message 5)
    ∷ Optional 7 (Message 4) ∷ [])
    ∷ (Optional 1 Text ∷ Optional 3 Enumeration ∷ Optional 4 Enumeration ∷ Optional 5 Enumeration ∷ Optional 6 Text
    ∷ Optional 9 Enumeration ∷ Optional 10 Text ∷ Optional 17 Boolean ∷ [])
    ∷ (Optional 7 Boolean ∷ [])
    ∷ (Optional 1 Text ∷ Repeated 2 (Message 6) ∷ [])
    ∷ (Optional 1 Text ∷ Optional 2 Enumeration ∷ [])
    ∷ (Repeated 1 (Message 8) ∷ [])
    ∷ (Repeated 1 U32 ∷ Optional 3 ByteString ∷ Optional 4 ByteString ∷ [])
    ∷ []

-- Their table.
abbrev pub descriptors : Table
descriptors = table_of schemas

-- It is one by which payloads can be checked.
pub descriptors_are_table : IsTable descriptors
descriptors_are_table = each_is_rows schemas refl

-- Bytes are a FileDescriptorSet: a payload of the first schema, at most one hundred levels deep.
abbrev pub IsDescriptorSet : List ℕ → Type 0
IsDescriptorSet set = IsAcceptedIn descriptors 0 set
