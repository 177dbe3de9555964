use Rattle.std.proofs.Common.{◌≡◌, length}
use Rattle.descriptor_set.specs.Sets.{has_equal_neighbours}
use Rattle.descriptor_set.proofs.sorting.first_twice.Given as goal

abbrev pub invariant-loop-first : goal.invariant-loop-first
invariant-loop-first l = has_equal_neighbours l.rest ≡ has_equal_neighbours l.messages

abbrev pub decreases-loop-first : goal.decreases-loop-first
decreases-loop-first l = length l.rest
