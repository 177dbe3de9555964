use Rattle.std.proofs.Common.{◌≡◌, ◌≤◌, ◌+◌, length}
use Rattle.diff_lines.specs.Parted.{common}
use Rattle.diff_lines.proofs.parted.common.Given as goal

abbrev pub invariant-loop-left : goal.invariant-loop-left
invariant-loop-left l = record {
  counted : l.count + common l.left l.other ≡ common l.fn.recorded l.fn.replayed;
  recorded : l.count + length l.left ≤ length l.fn.recorded;
  replayed : l.count + length l.other ≤ length l.fn.replayed;
}

abbrev pub decreases-loop-left : goal.decreases-loop-left
decreases-loop-left l = length l.left
