use Rattle.std.proofs.Common.{◌≡◌, ◌++◌, drop}
use Rattle.schema_lines.specs.Entries.{number_entries}
use Rattle.schema_lines.proofs.numbering.Entries.append.Given as goal

abbrev pub invariant-loop-found : goal.invariant-loop-found
invariant-loop-found l =
    (l.self.direction ≡ l.initial.self.direction)
    × (l.self.group ≡ l.initial.self.group)
    × (l.self.entries.items
    ++ number_entries l.initial.self.direction l.schema l.initial.self.group l.number
    (drop l.found-index l.matches)
    ≡ l.initial.self.entries.items
    ++ number_entries l.initial.self.direction l.schema l.initial.self.group l.number l.matches)
