use Rattle.std.proofs.Common.{◌+◌, ◌*◌}
use Rattle.shared_core_wire.specs.RecordsLeft.{records_left}
use Rattle.shared_core_codec.specs.ProgramRows.{rows_view}
use Rattle.stream_redaction.proofs.Redacting.{Going}
use Rattle.stream_redaction.proofs.payload.+payload.Given as goal

abbrev pub decreases-append_records : goal.decreases-append_records
decreases-append_records l = 4 * l.level.left + 3

abbrev pub decreases-append_record : goal.decreases-append_record
decreases-append_record l = 4 * l.level.left + 2

abbrev pub decreases-append_content : goal.decreases-append_content
decreases-append_content l = 4 * l.level.left + 1

abbrev pub decreases-append_nested : goal.decreases-append_nested
decreases-append_nested l = 4 * l.level.left

abbrev pub invariant-append_records-loop-item : goal.invariant-append_records-loop-item
invariant-append_records-loop-item l =
    Going l.level.key.now l.level.left (rows_view l.level.rows) l.fn.out.items l.payload l.out.items l.rest
    (records_left l.item-iterator)
