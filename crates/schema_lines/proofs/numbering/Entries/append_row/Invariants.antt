use Rattle.std.proofs.Common.{◌≡◌, ◌++◌, length}
use Rattle.schema_lines.specs.Entries.{row_entries}
use Rattle.schema_lines.proofs.numbering.Entries.append_row.Given as goal

abbrev pub invariant-loop-number : goal.invariant-loop-number
invariant-loop-number l =
    (l.self.direction ≡ l.fn.self.direction)
    × (l.self.group ≡ l.fn.self.group)
    × (l.self.entries.items ++ row_entries l.fn.self.direction l.schema l.fn.self.group l.rest l.matches
    ≡ l.fn.self.entries.items ++ row_entries l.fn.self.direction l.schema l.fn.self.group l.row l.matches)

abbrev pub decreases-loop-number : goal.decreases-loop-number
decreases-loop-number l = length l.rest
