use Rattle.std.proofs.Common.{◌≡◌, ◌++◌, map, length}
use Rattle.schema_lines.specs.Pairs.{schema_of}
use Rattle.schema_lines.proofs.pairs.numbers_of.Given as goal

abbrev pub invariant-loop-found : goal.invariant-loop-found
invariant-loop-found l = l.numbers.items ++ map schema_of l.rest ≡ map schema_of l.read

abbrev pub decreases-loop-found : goal.decreases-loop-found
decreases-loop-found l = length l.rest
