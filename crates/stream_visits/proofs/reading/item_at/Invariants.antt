use Rattle.std.proofs.Common.{◌≤◌}
use Rattle.shared_core_io.specs.Buffered.{held_in}
use Rattle.stream_visits.proofs.Visiting.{AreCounted, GoesOn}
use Rattle.stream_visits.proofs.reading.item_at.Given as goal

abbrev pub invariant-loop-at : goal.invariant-loop-at
invariant-loop-at g l = record {
  so_far : GoesOn l.fn.options.version l.fn.options.limit (AreCounted l.at) (g.R.Read.remaining l.fn.input)
      (g.R.Read.remaining l.input) (held_in l.items) l.at;
  few : l.at ≤ l.fn.index;
}
