use Rattle.std.proofs.Common.{◌≡◌, ℕ, List, ◌++◌, length}
use Rattle.diff_lines.specs.EntryLines.{GoesOn, IsText}
use Rattle.diff_lines.specs.Headings.{heading_text}
use Rattle.diff_lines.specs.Verdicts.{is_same}
use Rattle.diff_lines.proofs.entry_lines.aligned_text.Given as goal

abbrev pub invariant-loop-left : goal.invariant-loop-left
invariant-loop-left l =
    (new : List ℕ) → GoesOn l.fn.options.comparison.ignored l.fn.pen.look l.fn.found l.left l.text.items new
    → IsText l.fn.options.comparison.ignored l.fn.pen.look l.fn.limit
    (heading_text (is_same l.fn.found.comparison.verdict) l.fn.pen.look l.fn.options.names) l.fn.found new

abbrev pub decreases-loop-left : goal.decreases-loop-left
decreases-loop-left l = length l.left
