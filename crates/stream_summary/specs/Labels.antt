-- The fields of a message with their names.
use Rattle.std.specs.Prelude.{ℕ, zero, suc, not, ◌&&◌, ◌==◌, List, [], ◌++◌, codes, decimal}
use Rattle.std.specs.Prelude.{flat_map, if◌then◌else◌}
use Rattle.shared_core_wire.specs.Schema.{U32, U64, Text, ByteString, Message}
use Rattle.shared_core_wire.specs.Value.{Parts, Number, Bytes, Nested, Elements, nil, cons}
use Rattle.shared_core_codec.specs.Table as schema
use Rattle.shared_core_fields.specs.Fields.{FieldPart}
use Rattle.shared_core_json.specs.Fields.{names_of, name_of}
use Rattle.show_lines.specs.Contents.{value_fields, Holding, OpaqueBytes, Malformed, Means}
use Rattle.show_lines.specs.Excerpt.{excerpt}

-- A name, and the sign after it.
abbrev pub named : List ℕ → List ℕ
named name = codes " " ++ (name ++ codes "=")

-- A number after its name.
abbrev pub number_label : List ℕ → ℕ → List ℕ
number_label name number = codes " " ++ (name ++ (codes "=" ++ decimal number))

-- Numbers, each after their name.
abbrev pub numbers_labels : List ℕ → Parts → List ℕ
numbers_labels name nil = []
numbers_labels name (cons (Number number) parts) = number_label name number ++ numbers_labels name parts
numbers_labels name (cons part parts) = numbers_labels name parts

-- A field of this name that is not a message: a text, bytes in quotes, a number or numbers; nothing of another kind.
abbrev pub scalar_label : List ℕ → FieldPart → List ℕ
scalar_label name (n, (Text, repeated), Bytes text) = named name ++ excerpt text
scalar_label name (n, (ByteString, repeated), Bytes bytes) =
    named name ++ (codes "\"" ++ (excerpt bytes ++ codes "\""))
scalar_label name (n, (U32, repeated), Number number) = number_label name number
scalar_label name (n, (U64, repeated), Number number) = number_label name number
scalar_label name (n, (k, repeated), Elements numbers) = numbers_labels name numbers
scalar_label name field = []

-- A field of a schema, where this gives the fields of messages. Repeated messages are left out, except futures.
abbrev pub label_by : (ℕ → Parts → List ℕ) → ℕ → FieldPart → List ℕ
label_by nested s (n, (Message other, repeated), Nested value) =
    if repeated && not (other == schema.future) then [] else nested other value
label_by nested s field = scalar_label (name_of (names_of s) field.0) field

-- The fields of a value of a schema, and of those that are nested in it, over a number of levels.
abbrev pub labels : ℕ → ℕ → Parts → List ℕ
labels zero s value = []
labels (suc levels) s value = flat_map (label_by (labels levels) s) (value_fields s value)

-- A field of a schema.
abbrev pub label : ℕ → ℕ → FieldPart → List ℕ
label levels s field = label_by (labels levels) s field

-- The fields of what an item holds. A payload has at most 101 levels.
abbrev pub held_labels : Holding → List ℕ
held_labels (OpaqueBytes bytes) = []
held_labels (Malformed bytes) = codes " malformed"
held_labels (Means s value) = labels 101 s value
