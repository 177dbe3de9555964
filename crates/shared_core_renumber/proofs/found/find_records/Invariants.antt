use Rattle.std.proofs.Common.{◌≡◌, ◌++◌, length}
use Rattle.shared_core_wire.specs.RecordsLeft.{records_left}
use Rattle.shared_core_canonical.specs.Rows.{records_of, records_read}
use Rattle.shared_core_renumber.specs.Written.{found_views, ranked, records_found}
use Rattle.shared_core_renumber.proofs.found.find_records.Given as goal

abbrev pub invariant-loop-item : goal.invariant-loop-item
invariant-loop-item l =
    found_views l.found.items ++ ranked (length l.own) (records_found l.source.schema l.own
    (records_of (records_left l.item-iterator))) ≡
    ranked (length l.own) (records_found l.source.schema l.own (records_read l.source.left l.source.bytes.now))
