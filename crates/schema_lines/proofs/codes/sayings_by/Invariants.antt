use Rattle.std.proofs.Common.{◌≡◌, ◌+◌, ◌++◌, length}
use Rattle.schema_lines.specs.Sayings.{said_from}
use Rattle.schema_lines.proofs.codes.sayings_by.Given as goal

abbrev pub invariant-loop-message : goal.invariant-loop-message
invariant-loop-message l =
    (l.sayings.items ++ said_from l.is_hexadecimal l.index l.rest ≡ said_from l.is_hexadecimal 0 l.messages)
    × (l.index + length l.rest ≡ length l.messages)

abbrev pub decreases-loop-message : goal.decreases-loop-message
decreases-loop-message l = length l.rest
