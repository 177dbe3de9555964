use Rattle.std.proofs.Common.{◌≡◌, ◌≤◌}
use Rattle.diff_lines.specs.Parted.{char_start}
use Rattle.diff_lines.proofs.parted.char_start.Given as goal

abbrev pub invariant-loop-at : goal.invariant-loop-at
invariant-loop-at l = record {
  start : char_start l.fn.text l.at ≡ char_start l.fn.text l.fn.place;
  before : l.at ≤ l.fn.place;
}

abbrev pub decreases-loop-at : goal.decreases-loop-at
decreases-loop-at l = l.at
