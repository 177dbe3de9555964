use Rattle.std.proofs.Common.{◌≡◌, length}
use Rattle.schema_lines.specs.Chosen.{first_saying}
use Rattle.schema_lines.proofs.codes.first_saying.Given as goal

abbrev pub invariant-loop-saying : goal.invariant-loop-saying
invariant-loop-saying l = first_saying l.rest l.code ≡ first_saying l.sayings l.code

abbrev pub decreases-loop-saying : goal.decreases-loop-saying
decreases-loop-saying l = length l.rest
