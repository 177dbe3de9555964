-- The fields of a schema, with their JSON names, and how their numbers are written.
use Rattle.std.specs.Prelude.{ℕ, zero, suc, Bool, List, [], ◌∷◌, map, nat_eq, if◌then◌else◌}
use Rattle.std.specs.Borrow.{Bor}
use Rattle.shared_core_wire.specs.Schema.{Kind}
use Rattle.shared_core_codec.specs.Canonicity.{may_recur}
use Rattle.shared_core_json.specs.Names.{names}
use Rattle.shared_core_json.specs.declared.digits.Digits.{Digits}
use Rattle.shared_core_json.specs.declared.digits.Digits.TheVariants.{Unsigned}
use Rattle.shared_core_json.specs.declared.names.Name.{Name}

-- A field: its number, its name, and whether it is an element of a list.
pub record NamedField : Type 0 where
  pub number : ℕ
  pub name : List ℕ
  pub is_element : Bool

-- What JSON adds to the fields of a schema: their numbers and names, and how the numbers of each are written.
pub record SchemaNames : Type 0 where
  pub names : List (ℕ × List ℕ)
  pub digits : ℕ → Digits

-- That of each schema, by its index in a table.
abbrev pub Names : Type 0
Names = ℕ → SchemaNames

-- The names of a schema's fields, by its index in a list; or what else the fields have.
abbrev pub names_at : {A : Type 0} → List (List (ℕ × A)) → ℕ → List (ℕ × A)
names_at [] s = []
names_at (ns ∷ nss) zero = ns
names_at (ns ∷ nss) (suc s) = names_at nss s

-- That of the fields of a schema of the protocol, whose numbers have no sign.
abbrev pub names_of : Names
names_of s = record { names = names_at names s; digits = λ n. Unsigned }

-- What a number has in a list, or else this.
abbrev pub value_at : {A : Type 0} → A → List (ℕ × A) → ℕ → A
value_at other [] n = other
value_at other (x ∷ xs) n = if nat_eq n x.0 then x.1 else value_at other xs n

-- The name that a number has among some names; empty if it has none.
abbrev pub name_in : List (ℕ × List ℕ) → ℕ → List ℕ
name_in names n = value_at [] names n

-- The name of a field, by its number.
abbrev pub name_of : SchemaNames → ℕ → List ℕ
name_of names n = name_in names.names n

-- The field of a number with this kind, repeated or not.
abbrev pub named : SchemaNames → ℕ → Kind × Bool → NamedField
named ns n found = record { number = n; name = name_of ns n; is_element = may_recur found }

-- The number and the name of a name of the program.
abbrev pub name_view : Name → ℕ × List ℕ
name_view n = (n.0, n.1.now)

-- The numbers and the names of a list of the program.
abbrev pub names_view : Bor (List Name) → List (ℕ × List ℕ)
names_view ns = map name_view ns.now
