-- Names of fields that are made at run time, and the first of them that is not in order.
use Rattle.std.specs.Prelude.{ℕ, suc, List, [], ◌∷◌, ◌++◌, map, nat_lt, if◌then◌else◌, Option, Some, None, Vec}
use Rattle.std.specs.Prelude.{codes, decimal}
use Rattle.std.specs.Option.{option_or, option_map}
use Rattle.std.specs.String.{string_bytes}
use Rattle.std.specs.declared.alloc.Global.{Global}
use Rattle.shared_core_json.specs.Fields.{Names, names_at, value_at}
use Rattle.shared_core_json.specs.declared.digits.Digits.{Digits}
use Rattle.shared_core_json.specs.declared.digits.Digits.TheVariants.{Unsigned}
use Rattle.shared_core_json.specs.declared.loaded_names.LoadedName.{LoadedName}
use Rattle.shared_core_json.specs.declared.name_error.NameError.{NameError}

-- The number and the name of a name of the program.
abbrev pub name_view : LoadedName → ℕ × List ℕ
name_view n = (n.number, string_bytes n.name)

-- Those of a list of the program.
abbrev pub names_view : List LoadedName → List (ℕ × List ℕ)
names_view names = map name_view names

-- Those of each schema.
abbrev pub all_names_view : List (Vec LoadedName Global) → List (List (ℕ × List ℕ))
all_names_view all = map (λ names. names_view names.items) all

-- The number of a name of the program, and how the numbers of its field are written.
abbrev pub digits_view : LoadedName → ℕ × Digits
digits_view n = (n.number, n.digits)

-- Those of each schema.
abbrev pub all_digits_view : List (Vec LoadedName Global) → List (List (ℕ × Digits))
all_digits_view all = map (λ names. map digits_view names.items) all

-- How the numbers of a field are written, by its number; without a sign, if it has no name.
abbrev pub digits_in : List (ℕ × Digits) → ℕ → Digits
digits_in digits n = value_at Unsigned digits n

-- What JSON adds to the fields of each schema by these names.
abbrev pub loaded_names : List (Vec LoadedName Global) → Names
loaded_names all s = record {
  names = names_at (all_names_view all) s;
  digits = digits_in (names_at (all_digits_view all) s);
}

-- The name that was found; empty if there is none.
abbrev pub name_found : Option LoadedName → List ℕ
name_found None = []
name_found (Some n) = string_bytes n.name

-- How the numbers of the field are written whose name was found.
abbrev pub digits_found : Option LoadedName → Digits
digits_found None = Unsigned
digits_found (Some n) = n.digits

-- The first number that is not greater than the one before it, where `before` comes before the first.
abbrev pub unsorted_after : {A : Type 0} → ℕ → List (ℕ × A) → Option ℕ
unsorted_after before [] = None
unsorted_after before (name ∷ names) = if nat_lt before name.0 then unsorted_after name.0 names else Some name.0

-- The first such number of the schemas that follow the first `s` ones.
abbrev pub error_from : ℕ → List (List (ℕ × List ℕ)) → Option NameError
error_from s [] = None
error_from s (names ∷ all) =
    option_or (option_map (λ n. record { schema = s; number = n }) (unsorted_after 0 names)) (error_from (suc s) all)

-- The first such number of all schemas.
abbrev pub name_error : List (List (ℕ × List ℕ)) → Option NameError
name_error all = error_from 0 all

-- The text of an error.
abbrev pub error_text : NameError → List ℕ
error_text error = codes "schema " ++ (decimal error.schema ++ (codes ", field " ++ (decimal error.number ++ codes
    ": name out of order")))
