use Rattle.std.proofs.Common.{◌≡◌, ◌≤◌, ◌+◌, length}
use Rattle.std.specs.Prelude.{reverse}
use Rattle.diff_lines.specs.Parted.{common}
use Rattle.diff_lines.proofs.parted.count_back.Given as goal

abbrev pub invariant-loop-left : goal.invariant-loop-left
invariant-loop-left l = record {
  counted : l.count + common (reverse l.left) (reverse l.other) ≡ common (reverse l.fn.recorded)
      (reverse l.fn.replayed);
  recorded : l.count + length l.left ≤ length l.fn.recorded;
  replayed : l.count + length l.other ≤ length l.fn.replayed;
}

abbrev pub decreases-loop-left : goal.decreases-loop-left
decreases-loop-left l = length l.left
