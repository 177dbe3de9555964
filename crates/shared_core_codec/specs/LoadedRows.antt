-- The rows of a table that is made at run time.
use Rattle.std.specs.Prelude.{ℕ, Bool, true, ◌&&◌, List, map, length, nat_lt, Vec}
use Rattle.std.specs.List.{list_all}
use Rattle.std.specs.declared.alloc.Global.{Global}
use Rattle.shared_core_wire.specs.Schema as schema
use Rattle.shared_core_codec.specs.ProgramRows.{field_view, kind_view}
use Rattle.shared_core_codec.specs.Tables.{are_rows}
use Rattle.shared_core_codec.specs.declared.loaded_rows.LoadedRow.{LoadedRow}
use Rattle.shared_core_codec.specs.declared.loaded_rows.LoadedRow.TheVariants as row

-- The row of a row of the program.
abbrev pub row_view : LoadedRow → schema.Row
row_view (row.Plain f) = schema.Plain f.number (kind_view f.kind)
row_view (row.Optional f) = schema.Optional f.number (kind_view f.kind)
row_view (row.Repeated f) = schema.Repeated f.number (kind_view f.kind)
row_view (row.OneOf fs) = schema.OneOf (map field_view fs.items)

-- The rows of a list of the program.
abbrev pub rows_view : List LoadedRow → List schema.Row
rows_view rows = map row_view rows

-- The schemas of a list of the program.
abbrev pub schemas_view : List (Vec LoadedRow Global) → List (List schema.Row)
schemas_view schemas = map (λ rows. rows_view rows.items) schemas

-- Whether a message kind names one of the first `count` schemas.
abbrev pub knows_kind : ℕ → schema.Kind → Bool
knows_kind count (schema.Message s) = nat_lt s count
knows_kind count k = true

-- Whether each message kind of a row names one of them.
abbrev pub knows_row : ℕ → schema.Row → Bool
knows_row count (schema.Plain n k) = knows_kind count k
knows_row count (schema.Optional n k) = knows_kind count k
knows_row count (schema.Repeated n k) = knows_kind count k
knows_row count (schema.OneOf members) = list_all (λ m. knows_kind count m.1) members

-- Whether each message kind of some rows names one of them.
abbrev pub knows_rows : ℕ → List schema.Row → Bool
knows_rows count rows = list_all (knows_row count) rows

-- Whether schemas are those of a table: each has rows of a message, and each message kind names one of them.
abbrev pub are_schemas : List (List schema.Row) → Bool
are_schemas schemas = list_all are_rows schemas && list_all (knows_rows (length schemas)) schemas
