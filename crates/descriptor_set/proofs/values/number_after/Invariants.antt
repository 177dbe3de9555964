use Rattle.std.proofs.Common.{◌≡◌}
use Rattle.shared_core_wire.specs.RecordsLeft.{records_left}
use Rattle.shared_core_canonical.specs.Rows.{records_of}
use Rattle.descriptor_set.specs.Values.{last_of, numbers_in, numbers_of}
use Rattle.descriptor_set.proofs.values.number_after.Given as goal

abbrev pub invariant-loop-item : goal.invariant-loop-item
invariant-loop-item l =
    last_of l.last (numbers_of l.number (records_of (records_left l.item-iterator)))
    ≡ last_of l.other (numbers_in l.number l.bytes)
