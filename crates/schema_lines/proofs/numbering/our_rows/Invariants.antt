use Rattle.std.proofs.Common.{◌≡◌, ◌++◌, drop, map}
use Rattle.shared_core_wire.specs.Schema.{numbers}
use Rattle.shared_core_codec.specs.ProgramRows.{row_view}
use Rattle.schema_lines.specs.Messages.{items_of}
use Rattle.schema_lines.proofs.numbering.our_rows.Given as goal

abbrev pub invariant-loop-row : goal.invariant-loop-row
invariant-loop-row l =
    items_of l.rows.items ++ map numbers (map row_view (drop l.row-index l.own)) ≡ map numbers (map row_view l.own)
