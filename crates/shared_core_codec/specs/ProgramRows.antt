-- The rows of schemas as the program has them, and which of their fields has a number.
use Rattle.std.specs.Prelude.{ℕ, Bool, true, false, List, [], ◌∷◌, map, nat_eq, if◌then◌else◌, Option, Some, None}
use Rattle.std.specs.Borrow.{Bor}
use Rattle.std.specs.Option.{option_or}
use Rattle.shared_core_wire.specs.Schema as schema
use Rattle.shared_core_codec.specs.declared.rows.Kind.{Kind}
use Rattle.shared_core_codec.specs.declared.rows.Kind.TheVariants as kind
use Rattle.shared_core_codec.specs.declared.rows.Field.{Field}
use Rattle.shared_core_codec.specs.declared.rows.Row.{Row}
use Rattle.shared_core_codec.specs.declared.rows.Row.TheVariants as row
use Rattle.shared_core_codec.specs.declared.rows.Found.{Found}
use Rattle.shared_core_codec.specs.declared.any_table.RowShape.{RowShape}
use Rattle.shared_core_codec.specs.declared.any_table.RowShape.TheVariants as shape

-- The kind of a kind of the program.
abbrev pub kind_view : Kind → schema.Kind
kind_view kind.U32 = schema.U32
kind_view kind.U64 = schema.U64
kind_view kind.Boolean = schema.Boolean
kind_view kind.Enumeration = schema.Enumeration
kind_view kind.Text = schema.Text
kind_view kind.ByteString = schema.ByteString
kind_view (kind.Message s) = schema.Message s

-- The number and the kind of a field of the program.
abbrev pub field_view : Field → ℕ × schema.Kind
field_view f = (f.number, kind_view f.kind)

-- The row of a row of the program.
abbrev pub row_view : Row → schema.Row
row_view (row.Plain f) = schema.Plain f.number (kind_view f.kind)
row_view (row.Optional f) = schema.Optional f.number (kind_view f.kind)
row_view (row.Repeated f) = schema.Repeated f.number (kind_view f.kind)
row_view (row.OneOf fs) = schema.OneOf (map field_view fs.now)

-- The row that a row of a table is.
abbrev pub shape_view : RowShape → schema.Row
shape_view (shape.Plain f) = schema.Plain f.now.number (kind_view f.now.kind)
shape_view (shape.Optional f) = schema.Optional f.now.number (kind_view f.now.kind)
shape_view (shape.Repeated f) = schema.Repeated f.now.number (kind_view f.now.kind)
shape_view (shape.OneOf fs) = schema.OneOf (map field_view fs.now)

-- The rows of a list of the program.
abbrev pub rows_view : Bor (List Row) → List schema.Row
rows_view rows = map row_view rows.now

-- The kind of a field that was found, and whether it is repeated.
abbrev pub found_view : Found → schema.Kind × Bool
found_view f = (kind_view f.kind, f.is_repeated)

-- The kind of a field and whether it is repeated, if it has the number.
abbrev pub if_numbered : ℕ × schema.Kind → Bool → ℕ → Option (schema.Kind × Bool)
if_numbered f repeated n = if nat_eq n f.0 then Some (f.1, repeated) else None

-- The same of the member that has the number.
abbrev pub member_numbered : List (ℕ × schema.Kind) → ℕ → Option (schema.Kind × Bool)
member_numbered [] n = None
member_numbered (m ∷ members) n = option_or (if_numbered m false n) (member_numbered members n)

-- The same of the row's field that has the number.
abbrev pub field_in_row : schema.Row → ℕ → Option (schema.Kind × Bool)
field_in_row (schema.Plain m k) n = if_numbered (m, k) false n
field_in_row (schema.Optional m k) n = if_numbered (m, k) false n
field_in_row (schema.Repeated m k) n = if_numbered (m, k) true n
field_in_row (schema.OneOf members) n = member_numbered members n

-- The same of the first field of some rows that has the number.
abbrev pub field_numbered : List schema.Row → ℕ → Option (schema.Kind × Bool)
field_numbered [] n = None
field_numbered (row ∷ rows) n = option_or (field_in_row row n) (field_numbered rows n)
