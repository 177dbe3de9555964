use Rattle.std.proofs.Common.{◌≡◌, ◌++◌}
use Rattle.show_lines.specs.Waiting.{halves_view, open_lines}
use Rattle.show_lines.proofs.waiting.Waiting.push_open.Given as goal

abbrev pub invariant-loop-entry : goal.invariant-loop-entry
invariant-loop-entry l = l.lines.items ++ open_lines (halves_view l.entry-iterator) ≡ l.initial.lines.items
    ++ open_lines (halves_view l.self.halves.entries)
