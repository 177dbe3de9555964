-- What fields a message has.
use Rattle.std.specs.Prelude.{ℕ, zero, suc, Bool, true, ◌&&◌, not, List, [], ◌∷◌, ◌++◌, map, nat_eq, if◌then◌else◌}
use Rattle.std.specs.List.{list_all, list_any}
use Rattle.shared_core_wire.specs.Encoding.{is_field_number}

-- The kind of a field: uint32, uint64, bool, an enum, string, bytes, or a message of the schema that the table has at a
-- number.
pub data Kind : Type 0 where
  U32 : Kind
  U64 : Kind
  Boolean : Kind
  Enumeration : Kind
  Text : Kind
  ByteString : Kind
  Message : ℕ → Kind

-- A row of a schema: a field's number and kind by its presence (Optional also for each message field), or a oneof with
-- its members.
pub data Row : Type 0 where
  Plain : ℕ → Kind → Row
  Optional : ℕ → Kind → Row
  Repeated : ℕ → Kind → Row
  OneOf : List (ℕ × Kind) → Row

-- A table gives each schema its rows, in the order in which a canonical payload has them.
abbrev pub Table : Type 0
Table = ℕ → List Row

-- The table of a list of schemas, by their index; every other number has a message without fields.
abbrev pub table_of : List (List Row) → Table
table_of [] s = []
table_of (rows ∷ schemas) zero = rows
table_of (rows ∷ schemas) (suc s) = table_of schemas s

-- The field numbers of a row.
abbrev pub numbers : Row → List ℕ
numbers (Plain n k) = n ∷ []
numbers (Optional n k) = n ∷ []
numbers (Repeated n k) = n ∷ []
numbers (OneOf members) = map (λ m. m.0) members

-- Whether a number is among these.
abbrev pub includes : List ℕ → ℕ → Bool
includes ns n = list_any (nat_eq n) ns

-- The kind of a oneof's member, by its number.
abbrev pub member_kind : List (ℕ × Kind) → ℕ → Kind
member_kind [] n = ByteString
member_kind (m ∷ members) n = if nat_eq n m.0 then m.1 else member_kind members n

-- Whether no number occurs twice.
abbrev pub are_distinct : List ℕ → Bool
are_distinct [] = true
are_distinct (n ∷ ns) = not (includes ns n) && are_distinct ns

-- The field numbers of a schema.
abbrev pub all_numbers : List Row → List ℕ
all_numbers [] = []
all_numbers (row ∷ rows) = numbers row ++ all_numbers rows

-- Whether the rows are a valid schema: their numbers are field numbers, and no two fields share one.
abbrev pub is_schema : List Row → Bool
is_schema rows = list_all is_field_number (all_numbers rows) && are_distinct (all_numbers rows)
