use Rattle.std.proofs.Common.{◌≡◌, length}
use Rattle.descriptor_set.specs.Codes.{after_spaces}
use Rattle.descriptor_set.proofs.codes.after_spaces.Given as goal

abbrev pub invariant-loop-first : goal.invariant-loop-first
invariant-loop-first l = after_spaces l.rest ≡ after_spaces l.text

abbrev pub decreases-loop-first : goal.decreases-loop-first
decreases-loop-first l = length l.rest
