-- Which entries are a table of a value, and the rows that a table gives.
use Rattle.std.specs.Prelude.{◌≡◌, ℕ, suc, Bool, false, ◌&&◌, ◌||◌, List, [], ◌∷◌, ◌++◌, map, length, nat_eq, nat_lt}
use Rattle.std.specs.Prelude.{Option, Some, None, if◌then◌else◌}
use Rattle.shared_core_wire.specs.Value.{Parts}
use Rattle.shared_core_codec.specs.Table.{table}
use Rattle.shared_core_codec.specs.Canonicity.{Next, next_field}
use Rattle.shared_core_fields.specs.Rows.{TableRow, ArePlaced, entry_row, table_rows}
use Rattle.shared_core_fields.specs.declared.table.FieldEntry.{FieldEntry}

-- The entries, which point to these bytes, are those of the rows of a value of the schema s.
pub record IsTable (s : ℕ) (v : Parts) (bytes : List ℕ) (entries : List FieldEntry) : Type 0 where
  pub rows : map (entry_row bytes) entries ≡ table_rows s v
  pub placed : ArePlaced bytes entries

-- ---- what rows give

-- Whether a kind is that of a text or of bytes.
abbrev pub has_bytes : ℕ → Bool
has_bytes kind = nat_eq kind 5 || nat_eq kind 6

-- A row by what it gives to its field: of a text and of bytes the bytes, of every other kind the value.
abbrev pub given_row : TableRow → TableRow
given_row r = record {
  level = r.level;
  number = r.number;
  kind = r.kind;
  value = if has_bytes r.kind then 0 else r.value;
  bytes = if has_bytes r.kind then r.bytes else [];
}

-- Whether a row gives a default: 0, false or no bytes.
abbrev pub gives_default : TableRow → Bool
gives_default r = if has_bytes r.kind then nat_eq (length r.bytes) 0 else nat_eq r.value 0

-- Whether a row of the field gives nothing, since the field is plain and the row a default.
abbrev pub gives_nothing : Option Next → TableRow → Bool
gives_nothing None r = false
gives_nothing (Some next) r = next.is_plain && gives_default r

-- The rows that the entries of a message of the schema s give, which are at a level, each followed by those of the
-- entries within it; the entries point to these bytes.
unfoldable pub given_rows : List ℕ → ℕ → ℕ → List FieldEntry → List TableRow
given_rows bytes s level [] = []
given_rows bytes s level (e ∷ es) =
    if nat_lt e.level level then []
    else if nat_lt level e.level then given_rows bytes s level es
    else if gives_nothing (next_field (table s) e.number) (entry_row bytes e) then given_rows bytes s level es
    else given_row (entry_row bytes e) ∷ (
    (if nat_eq e.kind 7 then given_rows bytes e.value (suc level) es else []) ++ given_rows bytes s level es
    )
