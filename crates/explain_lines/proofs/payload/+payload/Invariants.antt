use Rattle.std.proofs.Common.{◌≡◌, ◌+◌, ◌*◌, length}
use Rattle.explain_lines.specs.Explanation.{explained}
use Rattle.explain_lines.specs.State.{told}
use Rattle.explain_lines.proofs.Going.{Going}
use Rattle.explain_lines.proofs.payload.+payload.Given as goal

abbrev pub decreases-explain_records : goal.decreases-explain_records
decreases-explain_records l = 8 * l.left + 7

abbrev pub decreases-explain_record : goal.decreases-explain_record
decreases-explain_record l = 8 * l.known.now.left + 6

abbrev pub decreases-explain_element : goal.decreases-explain_element
decreases-explain_element l = 8 * l.known.now.left + 5

abbrev pub decreases-explain_value : goal.decreases-explain_value
decreases-explain_value l = 8 * l.known.now.left + 4

abbrev pub decreases-explain_unknown : goal.decreases-explain_unknown
decreases-explain_unknown l = 8 * l.known.now.left + 4

abbrev pub decreases-explain_message : goal.decreases-explain_message
decreases-explain_message l = 8 * l.known.now.left + 3

abbrev pub decreases-explain_guess : goal.decreases-explain_guess
decreases-explain_guess l = 8 * l.known.now.left + 3

abbrev pub decreases-explain_group : goal.decreases-explain_group
decreases-explain_group l = 8 * l.known.now.left + 3

abbrev pub decreases-explain_nested : goal.decreases-explain_nested
decreases-explain_nested l = 8 * l.known.now.left + 1

abbrev pub invariant-explain_records-loop-rest : goal.invariant-explain_records-loop-rest
invariant-explain_records-loop-rest l =
    (l.lines.path.items ≡ l.initial.lines.path.items)
    × Going (told l.initial.lines) (explained l.left l.initial.lines.path.items l.schema l.payload) (told l.lines)
    (explained l.left l.initial.lines.path.items l.schema l.rest)

abbrev pub decreases-explain_records-loop-rest : goal.decreases-explain_records-loop-rest
decreases-explain_records-loop-rest l = length l.rest
