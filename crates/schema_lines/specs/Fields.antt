-- Which field of a message of a set a name of the protocol finds.
use Rattle.std.specs.Prelude.{ℕ, ◌+◌, if◌then◌else◌, List, [], ◌∷◌, Option, Some, None}
use Rattle.std.specs.List.{position}
use Rattle.std.specs.Option.{option_or}
use Rattle.std.specs.Str.{bytes_eq}
use Rattle.std.specs.String.{string_bytes}
use Rattle.descriptor_set.specs.declared.field.FieldDescriptor.{FieldDescriptor}
use Rattle.schema_lines.specs.Names.{plain}

-- The index of the first field with a name in JSON.
abbrev pub json_index : List FieldDescriptor → List ℕ → Option ℕ
json_index fields name = position (λ field. bytes_eq (string_bytes field.json_name) name) fields

-- The index of the first field whose name has a plain form, counted from this one on.
abbrev pub plain_index : List ℕ → ℕ → List FieldDescriptor → Option ℕ
plain_index key index [] = None
plain_index key index (field ∷ rest) =
    if bytes_eq (plain (string_bytes field.name)) key then Some index else plain_index key (index + 1) rest

-- The index of the field that is called as one of the protocol: by its name in JSON, or else by its plain name.
unfoldable pub matching : List FieldDescriptor → List ℕ → Option ℕ
matching fields name = option_or (json_index fields name) (plain_index (plain name) 0 fields)
