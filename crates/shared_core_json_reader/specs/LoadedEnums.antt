-- Names of the values of enums that are made at run time.
use Rattle.std.specs.Prelude.{ℕ, zero, suc, ◌%◌, ◌^◌, List, [], ◌∷◌, map, nat_eq, if◌then◌else◌, Option, Some, None}
use Rattle.std.specs.Prelude.{Vec}
use Rattle.std.specs.String.{string_bytes}
use Rattle.std.specs.declared.alloc.Global.{Global}
use Rattle.shared_core_json_reader.specs.Rows.{EnumValues}
use Rattle.shared_core_json_reader.specs.declared.loaded_enums.LoadedEnumField.{LoadedEnumField}
use Rattle.shared_core_json_reader.specs.declared.loaded_enums.LoadedEnums.{LoadedEnums}
use Rattle.shared_core_json_reader.specs.declared.loaded_enums.LoadedValue.{LoadedValue}

-- The name of a value of the program, and the low 32 bits of its number.
abbrev pub value_view : LoadedValue → List ℕ × ℕ
value_view v = (string_bytes v.name, v.number % 2 ^ 32)

-- Those of a list of the program.
abbrev pub values_view : List LoadedValue → List (List ℕ × ℕ)
values_view values = map value_view values

-- Those of each enum.
abbrev pub all_values_view : List (Vec LoadedValue Global) → List (List (List ℕ × ℕ))
all_values_view all = map (λ values. values_view values.items) all

-- The number of a field of the program, and the index of its enum.
abbrev pub field_view : LoadedEnumField → ℕ × ℕ
field_view f = (f.number, f.index)

-- Those of a list of the program.
abbrev pub fields_view : List LoadedEnumField → List (ℕ × ℕ)
fields_view fields = map field_view fields

-- Those of each schema.
abbrev pub all_fields_view : List (Vec LoadedEnumField Global) → List (List (ℕ × ℕ))
all_fields_view all = map (λ fields. fields_view fields.items) all

-- The list at an index; past the last one an empty one.
abbrev pub list_at : {A : Type 0} → List (List A) → ℕ → List A
list_at [] i = []
list_at (xs ∷ xss) zero = xs
list_at (xs ∷ xss) (suc i) = list_at xss i

-- The index of the enum of the first field that has a number.
abbrev pub enum_of : List (ℕ × ℕ) → ℕ → Option ℕ
enum_of [] n = None
enum_of (f ∷ fs) n = if nat_eq f.0 n then Some f.1 else enum_of fs n

-- The values of the enum that has an index, if there is one.
abbrev pub values_if : List (List (List ℕ × ℕ)) → Option ℕ → List (List ℕ × ℕ)
values_if all None = []
values_if all (Some i) = list_at all i

-- The names and the numbers of the values of each field's enum.
abbrev pub enum_values : LoadedEnums → EnumValues
enum_values e s n = values_if (all_values_view e.values.items) (enum_of (list_at (all_fields_view e.fields.items) s) n)
