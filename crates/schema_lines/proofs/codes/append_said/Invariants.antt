use Rattle.std.proofs.Common.{◌≡◌, ◌++◌, length}
use Rattle.schema_lines.specs.Sayings.{said_by}
use Rattle.schema_lines.proofs.codes.append_said.Given as goal

abbrev pub invariant-loop-first : goal.invariant-loop-first
invariant-loop-first l =
    l.sayings.items ++ said_by l.is_hexadecimal l.message l.rest
    ≡ l.fn.sayings.items ++ said_by l.is_hexadecimal l.message l.said

abbrev pub decreases-loop-first : goal.decreases-loop-first
decreases-loop-first l = length l.rest
