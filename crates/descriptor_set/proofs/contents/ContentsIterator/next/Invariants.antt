use Rattle.std.proofs.Common.{◌≡◌, length}
use Rattle.descriptor_set.specs.Reading.{contents_left}
use Rattle.descriptor_set.proofs.contents.ContentsIterator.next.Given as goal
use Rattle.shared_core_wire.specs.RecordsLeft.{records_left}

abbrev pub invariant-loop-item : goal.invariant-loop-item
invariant-loop-item l = contents_left l.self ≡ contents_left l.fn.self

abbrev pub decreases-loop-item : goal.decreases-loop-item
decreases-loop-item l = length (records_left l.self.records)
