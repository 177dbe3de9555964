use Rattle.std.proofs.Common.{◌≡◌, length}
use Rattle.schema_lines.specs.Chosen.{says}
use Rattle.schema_lines.proofs.codes.says.Given as goal

abbrev pub invariant-loop-saying : goal.invariant-loop-saying
invariant-loop-saying l = says l.rest l.message l.code ≡ says l.sayings l.message l.code

abbrev pub decreases-loop-saying : goal.decreases-loop-saying
decreases-loop-saying l = length l.rest
