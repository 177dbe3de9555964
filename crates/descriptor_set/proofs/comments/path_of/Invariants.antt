use Rattle.std.proofs.Common.{◌≡◌, ◌++◌}
use Rattle.shared_core_wire.specs.RecordsLeft.{records_left}
use Rattle.shared_core_canonical.specs.Rows.{records_of}
use Rattle.descriptor_set.specs.Comments as comments
use Rattle.descriptor_set.proofs.comments.path_of.Given as goal

abbrev pub invariant-loop-item : goal.invariant-loop-item
invariant-loop-item l =
    l.path.items ++ comments.path_of (records_of (records_left l.item-iterator)) ≡ comments.path_in l.location
