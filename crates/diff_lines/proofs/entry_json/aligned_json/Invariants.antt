use Rattle.std.proofs.Common.{List, ℕ, length}
use Rattle.diff_lines.specs.MovedJson.{GoesOnAsJson, IsJsonText}
use Rattle.diff_lines.proofs.entry_json.aligned_json.Given as goal

abbrev pub invariant-loop-left : goal.invariant-loop-left
invariant-loop-left l =
    (new : List ℕ) → GoesOnAsJson l.fn.ignore l.fn.found l.left l.lines.items new
    → IsJsonText l.fn.ignore l.fn.limit l.fn.found new

abbrev pub decreases-loop-left : goal.decreases-loop-left
decreases-loop-left l = length l.left
