use Rattle.std.proofs.Common.{◌≡◌, ◌+◌, ◌≤◌, length}
use Rattle.diff_lines.specs.Entries.{count_of}
use Rattle.diff_lines.proofs.entries.count_of.Given as goal

abbrev pub invariant-loop-left : goal.invariant-loop-left
invariant-loop-left l = record {
  counted : l.count + count_of l.fn.change l.left ≡ count_of l.fn.change l.fn.differences;
  small : l.count + length l.left ≤ length l.fn.differences;
}

abbrev pub decreases-loop-left : goal.decreases-loop-left
decreases-loop-left l = length l.left
