use Rattle.std.proofs.Common.{◌≡◌}
use Rattle.shared_core_wire.specs.RecordsLeft.{records_left}
use Rattle.shared_core_canonical.specs.Rows.{records_of}
use Rattle.descriptor_set.specs.Values.{contents_in, contents_of, last_of, merged_numbers}
use Rattle.descriptor_set.proofs.values.is_map_entry.Given as goal

abbrev pub invariant-loop-item : goal.invariant-loop-item
invariant-loop-item l =
    last_of l.last (merged_numbers 7 (contents_of 7 (records_of (records_left l.item-iterator))))
    ≡ last_of 0 (merged_numbers 7 (contents_in 7 l.message))
