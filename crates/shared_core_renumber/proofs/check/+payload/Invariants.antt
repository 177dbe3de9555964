use Rattle.std.proofs.Common.{◌≡◌, ◌+◌, ◌*◌}
use Rattle.shared_core_wire.specs.RecordsLeft.{records_left}
use Rattle.shared_core_codec.specs.Checking.{all_read}
use Rattle.shared_core_renumber.specs.Allowed.{nested_allows, payload_allows, record_allows}
use Rattle.shared_core_renumber.proofs.check.+payload.Given as goal

abbrev pub decreases-allows_payload : goal.decreases-allows_payload
decreases-allows_payload l = 4 * l.source.now.left + 3

abbrev pub decreases-allows_record : goal.decreases-allows_record
decreases-allows_record l = 4 * l.source.now.left + 2

abbrev pub decreases-allows_value : goal.decreases-allows_value
decreases-allows_value l = 4 * l.source.now.left + 1

abbrev pub decreases-allows_nested : goal.decreases-allows_nested
decreases-allows_nested l = 4 * l.source.now.left

abbrev pub invariant-allows_payload-loop-item : goal.invariant-allows_payload-loop-item
invariant-allows_payload-loop-item l =
    all_read (record_allows (nested_allows l.entries l.source.left) l.source.schema l.own)
    (records_left l.item-iterator) ≡ payload_allows l.entries l.source.left l.source.schema l.source.bytes.now
