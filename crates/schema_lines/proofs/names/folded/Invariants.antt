use Rattle.std.proofs.Common.{◌≡◌, ◌++◌, length}
use Rattle.schema_lines.specs.Names.{folded}
use Rattle.schema_lines.proofs.names.folded.Given as goal

abbrev pub invariant-loop-byte : goal.invariant-loop-byte
invariant-loop-byte l = l.text.items ++ folded l.rest ≡ folded l.name

abbrev pub decreases-loop-byte : goal.decreases-loop-byte
decreases-loop-byte l = length l.rest
