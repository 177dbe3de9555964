-- The rows of a schema, with the names that JSON may have for its fields.
use Rattle.std.specs.Prelude.{ℕ, List, [], ◌∷◌, map, ◌&&◌, ◌==◌, if◌then◌else◌}
use Rattle.shared_core_wire.specs.Schema as schema
use Rattle.shared_core_codec.specs.Table.{table as protocol_table}
use Rattle.shared_core_codec.specs.ProgramRows as codec
use Rattle.shared_core_codec.specs.declared.rows.Field as codec_field
use Rattle.shared_core_json.specs.Fields.{Names, names_of, name_of}
use Rattle.shared_core_json.specs.declared.digits.Digits.{Digits}
use Rattle.shared_core_json_reader.specs.EnumValues.{EnumField, enum_fields}
use Rattle.shared_core_json_reader.specs.declared.rows.EnumField as program
use Rattle.shared_core_json_reader.specs.declared.rows.EnumValue.{EnumValue}

-- How the numbers of a field are read: the names of its enum's values, and how its numbers are written.
pub record NumberForm : Type 0 where
  pub values : List (List ℕ × ℕ)
  pub digits : Digits

-- A field: its number, its name in lower camel case, its kind, and how its numbers are read.
pub record NamedField : Type 0 where
  pub number : ℕ
  pub name : List ℕ
  pub kind : schema.Kind
  pub form : NumberForm

-- A row of a schema, with the names of its fields.
pub data NamedRow : Type 0 where
  Plain : NamedField → NamedRow
  Optional : NamedField → NamedRow
  Repeated : NamedField → NamedRow
  OneOf : List NamedField → NamedRow

-- The names and the numbers of an enum's values, by the schema and the number of its field; none for any other field.
abbrev pub values_in : List EnumField → ℕ → ℕ → List (List ℕ × ℕ)
values_in [] s n = []
values_in (field ∷ fields) s n = if (s == field.schema) && (n == field.number) then field.values else values_in fields s
    n

-- The names and the numbers of the values of a field's enum.
abbrev pub enum_values : ℕ → ℕ → List (List ℕ × ℕ)
enum_values s n = values_in enum_fields s n

-- The names and the numbers of the values of enums, by the schema and the number of a field.
abbrev pub EnumValues : Type 0
EnumValues = ℕ → ℕ → List (List ℕ × ℕ)

-- What JSON is read by: a table of schemas, what JSON adds to their fields, and the names of the values of their enums.
pub record Format : Type 0 where
  pub table : schema.Table
  pub names : Names
  pub values : EnumValues

-- That of the protocol's messages.
abbrev pub protocol : Format
protocol = record { table = protocol_table; names = names_of; values = enum_values }

-- How the numbers of the field of the schema s are read that has a number.
abbrev pub form_of : Format → ℕ → ℕ → NumberForm
form_of d s n = record { values = d.values s n; digits = (d.names s).digits n }

-- The field of the schema s that has a number and a kind.
abbrev pub named_field : Format → ℕ → ℕ → schema.Kind → NamedField
named_field d s n k = record { number = n; name = name_of (d.names s) n; kind = k; form = form_of d s n }

-- A row of the schema s, with names.
abbrev pub named_row : Format → ℕ → schema.Row → NamedRow
named_row d s (schema.Plain n k) = Plain (named_field d s n k)
named_row d s (schema.Optional n k) = Optional (named_field d s n k)
named_row d s (schema.Repeated n k) = Repeated (named_field d s n k)
named_row d s (schema.OneOf members) = OneOf (map (λ m. named_field d s m.0 m.1) members)

-- The rows of a schema, with names.
unfoldable pub named_rows : Format → ℕ → List NamedRow
named_rows d s = map (named_row d s) (d.table s)

-- ---- what the program goes by: the fields of the codec, and names of values

-- The name and the number of a value of an enum.
abbrev pub value_view : EnumValue → List ℕ × ℕ
value_view v = (v.0.now, v.1)

-- The field with an enum that one of the program is.
abbrev pub enum_field_view : program.EnumField → EnumField
enum_field_view f = record { schema = f.schema; number = f.number; values = map value_view f.values.now }

-- The field of the schema s that a field of the codec is, with its name.
abbrev pub in_schema : Format → ℕ → codec_field.Field → NamedField
in_schema d s f = named_field d s f.number (codec.kind_view f.kind)

-- The members of a oneof of the schema s, with their names.
abbrev pub named_members : Format → ℕ → List codec_field.Field → List NamedField
named_members d s fields = map (λ m. named_field d s m.0 m.1) (map codec.field_view fields)
