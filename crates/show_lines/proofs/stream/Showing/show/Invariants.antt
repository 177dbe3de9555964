use Rattle.std.proofs.Common.{◌≡◌, ◌*◌, ◌≤◌}
use Rattle.shared_core_io.specs.Buffered.{held_in}
use Rattle.shared_core_io.specs.Reading.{most_held}
use Rattle.stream_lines.specs.Steps.{holding}
use Rattle.show_lines.specs.Steps.{AreCounted, known_by}
use Rattle.show_lines.proofs.Progress.{GoesOn}
use Rattle.show_lines.proofs.stream.Showing.show.Given as goal

abbrev pub invariant-loop : goal.invariant-loop
invariant-loop g l = record {
  counted : l.lines.offset ≤ most_held * l.counter;
  ordered : AreCounted l.lines;
  state : held_in l.items ≡ holding l.fn.self.options.now.version l.fn.self.options.now.limit l.lines.offset
      (held_in l.items).bytes;
  so_far : GoesOn l.fn.self.options.now (g.R.Read.remaining l.fn.input) (g.W.Write.contents l.fn.output)
      (g.R.Read.remaining l.input) (g.W.Write.contents l.output) l.lines.offset (held_in l.items).bytes
      (known_by l.lines);
}
