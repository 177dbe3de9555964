-- Which records an iterator over fields may have left: those that may come next in a canonical payload.
use Rattle.std.specs.Prelude.{◌≡◌, ℕ, Bool, true, false, ◌&&◌, List, [], ◌∷◌, map, length, nat_lt, Option, Some, None}
use Rattle.std.specs.Prelude.{Result, Ok, Err}
use Rattle.shared_core_wire.specs.Grammar.{RecordValue, content}
use Rattle.shared_core_wire.specs.ReadRecords.{PlacedRecord}
use Rattle.shared_core_wire.specs.Schema.{Table, Kind, Row, Plain, Optional, Repeated, OneOf}
use Rattle.shared_core_wire.specs.Acceptance.{NestedAcceptance}
use Rattle.shared_core_wire.specs.declared.error.WireError.{WireError}
use Rattle.shared_core_codec.specs.Canonicity.{is_canonical_payload_in, is_written_value, is_written_element}
use Rattle.shared_core_codec.specs.Canonicity.{next_field, Next, is_plain}
use Rattle.shared_core_codec.specs.ProgramRows.{kind_view, found_view}
use Rattle.shared_core_codec.specs.declared.rows.Field.{Field}
use Rattle.shared_core_codec.specs.declared.rows.Found.{Found}
use Rattle.std.specs.Borrow.{Bor}

-- Whether bytes are a canonical payload of the schema s of a table, if they are short.
abbrev pub is_nested_in : Table → NestedAcceptance
is_nested_in table s bytes = is_canonical_payload_in table 100 s bytes

-- Whether a field of a kind, repeated or not, may have the value of a record.
abbrev pub is_typed_in : Table → Kind × Bool → RecordValue → Bool
is_typed_in table (k, true) w = is_written_element (is_nested_in table) k w
is_typed_in table (k, false) w = is_written_value (is_nested_in table) k w

-- Whether the length of a value fits 32 bits.
abbrev pub is_short : RecordValue → Bool
is_short w = nat_lt (length (content w)) 4294967296

-- Whether the items of a payload are records that may come in this order, where these rows are left.
abbrev pub are_coming_in : Table → List Row → List (Result PlacedRecord WireError) → Bool
are_coming_in table rows [] = true
are_coming_in table rows (Ok r ∷ items) = elim (next_field rows r.field_record.number) [
  | None ↦ false
  | Some next ↦
      (is_short r.field_record.value && is_typed_in table next.field r.field_record.value)
      && are_coming_in table next.rows items
]
are_coming_in table rows (Err e ∷ items) = false

-- This is the field of the row, which is one field that is not repeated.
abbrev pub IsSingleRow : Row → ℕ × Kind → Type 0
IsSingleRow (Plain n k) f = f ≡ (n, k)
IsSingleRow (Optional n k) f = f ≡ (n, k)
IsSingleRow (Repeated n k) f = ⊥
IsSingleRow (OneOf members) f = ⊥

-- Whether a row is a repeated field.
abbrev pub is_repeated : Row → Bool
is_repeated (Repeated n k) = true
is_repeated row = false

-- The kind of a field of the program and whether it is repeated, by its row.
abbrev pub of_row : Row → Field → Kind × Bool
of_row row f = (kind_view f.kind, is_repeated row)

-- This is the field of the row, if the row is one field.
abbrev pub IsRowField : Row → Option (ℕ × Kind) → Type 0
IsRowField (Plain n k) o = o ≡ Some (n, k)
IsRowField (Optional n k) o = o ≡ Some (n, k)
IsRowField (Repeated n k) o = o ≡ Some (n, k)
IsRowField (OneOf members) o = o ≡ None

-- The field of which a record may come next that a field of a row is, with the rows that may come after that record.
abbrev pub found_next : Row → Field → List Row → Next
found_next row f rows = record { field = of_row row f; is_plain = is_plain row; rows = rows }

-- The same of what the program returns: the field, whether it is plain, and the rows.
abbrev pub next_parts : {R : Type 0} → (R → Row) → Found × Bool × Bor (List R) → Next
next_parts view n = record { field = found_view n.0; is_plain = n.1; rows = map view n.2.now }
