use Rattle.std.proofs.Common.{◌≡◌, ◌+◌, ◌*◌, map, length}
use Rattle.shared_core_wire.specs.Reader.{record_at}
use Rattle.shared_core_wire.specs.ReadRecords.{records_past}
use Rattle.shared_core_codec.specs.Canonicity.{all_come_read, is_canonical_message_in, is_canonical_payload_in}
use Rattle.shared_core_fields.proofs.check.+check.Given as goal

abbrev pub decreases-is_message : goal.decreases-is_message
decreases-is_message g l = 8 * l.left + 7

abbrev pub decreases-is_canonical_bytes : goal.decreases-is_canonical_bytes
decreases-is_canonical_bytes g l = 8 * l.left + 6

abbrev pub decreases-rows_and_rest : goal.decreases-rows_and_rest
decreases-rows_and_rest g l = 8 * l.left + 5

abbrev pub decreases-other_rows_and_rest : goal.decreases-other_rows_and_rest
decreases-other_rows_and_rest g l = 8 * l.left + 4

abbrev pub decreases-long_rows_and_rest : goal.decreases-long_rows_and_rest
decreases-long_rows_and_rest g l = 8 * l.left + 3

abbrev pub decreases-rows_after : goal.decreases-rows_after
decreases-rows_after g l = 8 * l.left + 2

abbrev pub decreases-is_content : goal.decreases-is_content
decreases-is_content g l = 8 * l.left

abbrev pub invariant-is_canonical_bytes-loop-rows : goal.invariant-is_canonical_bytes-loop-rows
invariant-is_canonical_bytes-loop-rows g l =
    all_come_read (is_canonical_message_in (g.T.Schemas.table l.schemas) l.left) (
      map g.T.Row.SchemaRow.view l.rows,
      length
          l.rest,
    ) (records_past (record_at 0) (length l.bytes) 0 l.rest) ≡ is_canonical_payload_in (g.T.Schemas.table
    l.schemas)
    l.left l.schema l.bytes

abbrev pub decreases-is_canonical_bytes-loop-rows : goal.decreases-is_canonical_bytes-loop-rows
decreases-is_canonical_bytes-loop-rows g l = length l.rest
