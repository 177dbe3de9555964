use Rattle.std.proofs.Common.{◌≡◌, ◌+◌, ◌++◌, length}
use Rattle.descriptor_set.specs.Tables.{passed_in}
use Rattle.descriptor_set.proofs.table.append_passed.Given as goal

abbrev pub invariant-loop-field : goal.invariant-loop-field
invariant-loop-field l =
    (l.found.items ++ passed_in l.set l.message l.index l.rest
    ≡ l.fn.found.items ++ passed_in l.set l.message 0 l.fields)
    × (l.index + length l.rest ≡ length l.fields)

abbrev pub decreases-loop-field : goal.decreases-loop-field
decreases-loop-field l = length l.rest
