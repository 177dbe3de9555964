use Rattle.std.proofs.Common.{◌≡◌, ◌++◌, length}
use Rattle.schema_lines.specs.Chosen.{choices}
use Rattle.schema_lines.proofs.codes.choices.Given as goal

abbrev pub invariant-loop-code : goal.invariant-loop-code
invariant-loop-code l = l.found.items ++ choices l.sayings l.rest l.left ≡ choices l.sayings l.codes l.named

abbrev pub decreases-loop-code : goal.decreases-loop-code
decreases-loop-code l = length l.rest
