use Rattle.std.proofs.Common.{◌≡◌, ◌++◌, length}
use Rattle.schema_lines.specs.Entries.{last_group, rows_entries}
use Rattle.schema_lines.specs.Messages.{items_of}
use Rattle.schema_lines.proofs.numbering.Entries.append_rows.Given as goal

abbrev pub invariant-loop-row : goal.invariant-loop-row
invariant-loop-row l =
    (l.self.direction ≡ l.fn.self.direction)
    × (last_group l.self.group (items_of l.rest) ≡ last_group l.fn.self.group (items_of l.rows))
    × (l.self.entries.items ++ rows_entries l.fn.self.direction l.schema l.self.group (items_of l.rest) l.matches
    ≡ l.fn.self.entries.items
    ++ rows_entries l.fn.self.direction l.schema l.fn.self.group (items_of l.rows) l.matches)

abbrev pub decreases-loop-row : goal.decreases-loop-row
decreases-loop-row l = length l.rest
