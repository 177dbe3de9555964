use Rattle.std.proofs.Common.{◌≡◌, length}
use Rattle.schema_lines.specs.Chosen.{says_kind}
use Rattle.schema_lines.proofs.codes.says_kind.Given as goal

abbrev pub invariant-loop-saying : goal.invariant-loop-saying
invariant-loop-saying l = says_kind l.rest l.message l.code ≡ says_kind l.sayings l.message l.code

abbrev pub decreases-loop-saying : goal.decreases-loop-saying
decreases-loop-saying l = length l.rest
