use Rattle.std.proofs.Common.{◌≡◌, map, drop}
use Rattle.shared_core_codec.specs.ProgramRows.{field_numbered}
use Rattle.shared_core_codec.proofs.rows.find_field.Given as goal

abbrev pub invariant-loop-row : goal.invariant-loop-row
invariant-loop-row g l = field_numbered (map g.R.SchemaRow.view (drop l.row-index l.rows)) l.number ≡ field_numbered
    (map g.R.SchemaRow.view l.rows) l.number
