use Rattle.std.proofs.Common.{◌≡◌, ◌+◌, ◌++◌, length}
use Rattle.descriptor_set.specs.Tables.{passed_from}
use Rattle.descriptor_set.proofs.table.passed_over.Given as goal

abbrev pub invariant-loop-message : goal.invariant-loop-message
invariant-loop-message l =
    (l.found.items ++ passed_from l.set l.index l.rest ≡ passed_from l.set 0 l.set.messages.items)
    × (l.index + length l.rest ≡ length l.set.messages.items)

abbrev pub decreases-loop-message : goal.decreases-loop-message
decreases-loop-message l = length l.rest
