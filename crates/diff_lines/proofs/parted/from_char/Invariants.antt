use Rattle.std.proofs.Common.{◌≡◌, ◌≤◌, length}
use Rattle.diff_lines.specs.Parted.{from_char}
use Rattle.diff_lines.proofs.parted.from_char.Given as goal

abbrev pub invariant-loop-left : goal.invariant-loop-left
invariant-loop-left l = record {
  same : from_char l.left ≡ from_char l.fn.text;
  few : length l.left ≤ length l.fn.text;
}

abbrev pub decreases-loop-left : goal.decreases-loop-left
decreases-loop-left l = length l.left
