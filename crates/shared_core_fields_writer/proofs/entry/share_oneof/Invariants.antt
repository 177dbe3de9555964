use Rattle.std.proofs.Common.{◌≡◌, drop, map}
use Rattle.shared_core_codec.specs.ProgramRows.{row_view}
use Rattle.shared_core_fields_writer.specs.Given.{share_oneof}
use Rattle.shared_core_fields_writer.proofs.entry.share_oneof.Given as goal

abbrev pub invariant-loop-row : goal.invariant-loop-row
invariant-loop-row l = share_oneof (map row_view (drop l.row-index l.rows)) l.last l.number ≡ share_oneof
    (map row_view l.rows) l.last l.number
