use Rattle.std.proofs.Common.{◌≡◌}
use Rattle.shared_core_io.specs.Buffered.{held_in}
use Rattle.stream_parts.proofs.Locating.{GoesOn}
use Rattle.stream_parts.proofs.reading.locate.Given as goal

abbrev pub invariant-loop : goal.invariant-loop
invariant-loop g l = record {
  range : l.scan.range ≡ l.fn.range;
  so_far : GoesOn l.fn.options.version l.fn.options.limit l.fn.range (g.R.Read.remaining l.fn.input)
      (g.R.Read.remaining l.input) (held_in l.items) l.scan.located l.counter;
}
