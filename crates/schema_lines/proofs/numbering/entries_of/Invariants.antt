use Rattle.std.proofs.Common.{◌≡◌, ◌+◌, ◌++◌, length}
use Rattle.schema_lines.specs.Entries.{entries_from}
use Rattle.schema_lines.proofs.numbering.entries_of.Given as goal

abbrev pub invariant-loop-found : goal.invariant-loop-found
invariant-loop-found l =
    (l.entries.direction ≡ l.fn.direction)
    × (l.entries.entries.items
    ++ entries_from l.set l.pairs.named.items l.fn.direction l.entries.group l.schema l.rest
    ≡ entries_from l.set l.pairs.named.items l.fn.direction 0 0 l.pairs.read.items)
    × (l.schema + length l.rest ≡ length l.pairs.read.items)

abbrev pub decreases-loop-found : goal.decreases-loop-found
decreases-loop-found l = length l.rest
