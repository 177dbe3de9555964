use Rattle.std.proofs.Common.{◌≡◌, ◌++◌, length}
use Rattle.diff_lines.specs.Entries.{entries_from, entries_of, recorded_end}
use Rattle.replay_bench.specs.Verdicts.{stopped_index}
use Rattle.diff_lines.proofs.entries.entries.Given as goal

abbrev pub invariant-loop-left : goal.invariant-loop-left
invariant-loop-left l =
    l.entries.items ++ entries_from (stopped_index l.fn.found.comparison.verdict) (recorded_end l.fn.found) l.recorded
    l.replayed l.left ≡ entries_of l.fn.found

abbrev pub decreases-loop-left : goal.decreases-loop-left
decreases-loop-left l = length l.left
