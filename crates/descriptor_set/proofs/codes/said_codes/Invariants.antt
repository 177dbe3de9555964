use Rattle.std.proofs.Common.{◌≡◌, ◌++◌, length}
use Rattle.descriptor_set.specs.Codes.{codes_from, said_codes}
use Rattle.descriptor_set.proofs.codes.said_codes.Given as goal

abbrev pub invariant-loop-first : goal.invariant-loop-first
invariant-loop-first l = l.codes.items ++ codes_from l.is_within l.rest ≡ said_codes l.text

abbrev pub decreases-loop-first : goal.decreases-loop-first
decreases-loop-first l = length l.rest
