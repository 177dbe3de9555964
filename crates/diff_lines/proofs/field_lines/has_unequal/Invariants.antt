use Rattle.std.proofs.Common.{◌≡◌, length}
use Rattle.diff_lines.specs.FieldLines.{has_unequal}
use Rattle.diff_lines.proofs.field_lines.has_unequal.Given as goal

abbrev pub invariant-loop-left : goal.invariant-loop-left
invariant-loop-left l = has_unequal l.left ≡ has_unequal l.fn.text

abbrev pub decreases-loop-left : goal.decreases-loop-left
decreases-loop-left l = length l.left
