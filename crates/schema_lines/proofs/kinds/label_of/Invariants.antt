use Rattle.std.proofs.Common.{◌≡◌, drop, map}
use Rattle.shared_core_codec.specs.ProgramRows.{kind_view, row_view}
use Rattle.schema_lines.specs.Kinds.{label_of}
use Rattle.schema_lines.proofs.kinds.label_of.Given as goal

abbrev pub invariant-loop-row : goal.invariant-loop-row
invariant-loop-row l =
    label_of (map row_view (drop l.row-index l.rows)) l.number (kind_view l.kind)
    ≡ label_of (map row_view l.rows) l.number (kind_view l.kind)
