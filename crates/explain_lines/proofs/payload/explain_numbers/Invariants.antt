use Rattle.std.proofs.Common.{◌≡◌, length}
use Rattle.explain_lines.specs.Explanation.{numbers_past}
use Rattle.explain_lines.specs.State.{told}
use Rattle.explain_lines.proofs.Going.{Going}
use Rattle.explain_lines.proofs.payload.explain_numbers.Given as goal

abbrev pub invariant-loop-rest : goal.invariant-loop-rest
invariant-loop-rest l =
    (l.lines.path.items ≡ l.initial.lines.path.items)
    × Going (told l.initial.lines) (numbers_past l.initial.lines.path.items 0 l.run) (told l.lines)
    (numbers_past l.initial.lines.path.items 0 l.rest)

abbrev pub decreases-loop-rest : goal.decreases-loop-rest
decreases-loop-rest l = length l.rest
