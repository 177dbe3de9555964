use Rattle.std.proofs.Common.{◌≡◌, length}
use Rattle.descriptor_set.specs.Codes.{after_prefix}
use Rattle.descriptor_set.proofs.codes.after_prefix.Given as goal

abbrev pub invariant-loop-letter : goal.invariant-loop-letter
invariant-loop-letter l = after_prefix l.wanted l.rest ≡ after_prefix l.prefix l.text

abbrev pub decreases-loop-letter : goal.decreases-loop-letter
decreases-loop-letter l = length l.wanted
