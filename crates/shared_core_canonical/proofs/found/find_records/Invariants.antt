use Rattle.std.proofs.Common.{◌≡◌, ◌++◌, map}
use Rattle.shared_core_wire.specs.RecordsLeft.{records_left}
use Rattle.shared_core_canonical.specs.Found.{found_views, records_found}
use Rattle.shared_core_canonical.specs.Rows.{records_of, records_read}
use Rattle.shared_core_canonical.proofs.found.find_records.Given as goal

abbrev pub invariant-loop-item : goal.invariant-loop-item
invariant-loop-item g l =
    found_views l.found.items ++ records_found (map g.T.Row.SchemaRow.view l.rows) 0
    (records_of (records_left l.item-iterator)) ≡
    records_found (map g.T.Row.SchemaRow.view l.rows) 0 (records_read l.source.left l.source.bytes.now)
