use Rattle.std.proofs.Common.{◌≡◌, ◌+◌, ◌*◌}
use Rattle.shared_core_wire.specs.RecordsLeft.{records_left}
use Rattle.shared_core_wire.specs.Acceptance.{accepts_record, accepts_message, accepts_payload}
use Rattle.shared_core_codec.specs.Checking.{all_read}
use Rattle.shared_core_codec.proofs.check.+payload.Given as goal

abbrev pub decreases-accepts_payload : goal.decreases-accepts_payload
decreases-accepts_payload g l = 4 * l.left + 3

abbrev pub decreases-accepts_record : goal.decreases-accepts_record
decreases-accepts_record g l = 4 * l.left + 2

abbrev pub decreases-accepts_element : goal.decreases-accepts_element
decreases-accepts_element g l = 4 * l.left + 1

abbrev pub decreases-accepts_value : goal.decreases-accepts_value
decreases-accepts_value g l = 4 * l.left

abbrev pub invariant-accepts_payload-loop-item : goal.invariant-accepts_payload-loop-item
invariant-accepts_payload-loop-item g l =
    all_read (accepts_record (accepts_message (g.T.Schemas.table l.schemas) l.left) (g.T.Schemas.table l.schemas
    l.schema)) (records_left l.item-iterator) ≡
    accepts_payload (g.T.Schemas.table l.schemas) l.left l.schema l.payload
