use Rattle.std.proofs.Common.{◌≡◌, ◌*◌, ◌≤◌}
use Rattle.shared_core_io.specs.Buffered.{held_in}
use Rattle.shared_core_io.specs.Reading.{most_held}
use Rattle.stream_lines.specs.Steps.{holding}
use Rattle.stream_lines.proofs.Progress.{GoesOn}
use Rattle.stream_lines.proofs.print.Printing.print_all.Given as goal

abbrev pub invariant-loop : goal.invariant-loop
invariant-loop g l = record {
  counted : l.self.lines.offset ≤ most_held * l.counter;
  state : held_in l.self.items ≡ holding l.fn.self.items.decoder.version l.fn.self.items.decoder.limit
      l.self.lines.offset (held_in l.self.items).bytes;
  so_far : GoesOn (g.P.LinePrinter.item_line l.fn.printer) (g.P.LinePrinter.item_trouble l.fn.printer)
      l.fn.self.items.decoder.version l.fn.self.items.decoder.limit (g.R.Read.remaining l.fn.input)
      (g.W.Write.contents l.fn.output) (g.R.Read.remaining l.input) (g.W.Write.contents l.output)
      l.self.lines.offset (held_in l.self.items).bytes l.self.lines.trouble;
}
