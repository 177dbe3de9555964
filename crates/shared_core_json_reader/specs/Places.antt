-- The members of an object by the numbers of their fields.
use Rattle.std.specs.Prelude.{◌≡◌, ◌<◌, ℕ, true, List, [], ◌∷◌, length, get_or, if◌then◌else◌, Option, Some, None}
use Rattle.std.specs.Option.{option_or}
use Rattle.std.specs.Str.{bytes_eq}
use Rattle.json.specs.Json.{Members, no_members}
use Rattle.json_table.specs.Places.{Say}
use Rattle.json_table.specs.declared.places.Place.TheVariants.{Absent}
use Rattle.shared_core_wire.specs.Schema.{Row, Plain, Optional, Repeated, OneOf, includes, numbers, all_numbers}
use Rattle.shared_core_json_reader.specs.Rows.{Format, NamedField, named_field}
use Rattle.shared_core_json_reader.specs.Reading.{original_name}
use Rattle.shared_core_json_reader.specs.declared.members.Places.{Places}

-- The number of the first of these names that is a key in a form of names.
abbrev pub number_by : (List ℕ → List ℕ) → List (ℕ × List ℕ) → List ℕ → Option ℕ
number_by form [] k = None
number_by form (name ∷ names) k = if bytes_eq k (form name.1) then Some name.0 else number_by form
    names k

-- A name as it is.
abbrev pub as_it_is : List ℕ → List ℕ
as_it_is name = name

-- The number of the field of the schema s of which a key is a name: the one in lower camel case, or the original one.
unfoldable pub number_of : Format → ℕ → List ℕ → Option ℕ
number_of d s k = option_or (number_by as_it_is (d.names s).names k) (number_by original_name (d.names s).names k)

-- Each of these names finds the number that it is listed with.
abbrev pub AreLikely : Format → ℕ → List (ℕ × List ℕ) → Type 0
AreLikely d s names = (i : ℕ) → i < length names → number_of d s (get_or names i (0, [])).1 ≡ Some
    (get_or names i (0, [])).0

-- How many places there are: for the fields of these numbers.
abbrev pub place_count : ℕ
place_count = 20

-- The places are those of the values of these members.
pub record ArePlaces (d : Format) (ms : Members) (places : Places) : Type 0 where
  pub say : Say (number_of d places.schema) place_count ms no_members places.numbered

-- A field is one of the schema s, with its names.
pub record IsOf (d : Format) (s : ℕ) (f : NamedField) : Type 0 where
  pub named : f ≡ named_field d s f.number f.kind
  pub listed : includes (all_numbers (d.table s)) f.number ≡ true

-- The numbers of a row's fields are those of fields of the schema s.
pub record IsRowOf (d : Format) (s : ℕ) (row : Row) : Type 0 where
  pub listed : (n : ℕ) → includes (numbers row) n ≡ true → includes (all_numbers (d.table s)) n ≡ true

-- The place of the field that has a number says that there is no value.
abbrev pub IsAbsent : Places → ℕ → Type 0
IsAbsent places n = (n < place_count) × (get_or places.numbered n Absent ≡ Absent)

-- The place of a row's field says that there is no value.
abbrev pub Lacks : Places → Row → Type 0
Lacks places (Plain n k) = IsAbsent places n
Lacks places (Optional n k) = IsAbsent places n
Lacks places (Repeated n k) = IsAbsent places n
Lacks places (OneOf members) = ⊥
