use Rattle.std.proofs.Common.{◌≡◌, length}
use Rattle.shared_core_io.specs.Buffered.{held_in}
use Rattle.stream_lines.specs.Steps.{holding, Added}
use Rattle.stream_lines.proofs.print.Lines.add_held.Given as goal

abbrev pub invariant-loop-word : goal.invariant-loop-word
invariant-loop-word g l = record {
  state : held_in l.items ≡ holding l.fn.items.decoder.version l.fn.items.decoder.limit l.self.offset
      (held_in l.items).bytes;
  added : Added (g.P.LinePrinter.item_line l.printer) (g.P.LinePrinter.item_trouble l.printer)
      l.fn.items.decoder.version l.fn.items.decoder.limit l.fn.self.offset l.fn.self.trouble
      l.fn.self.text.items (held_in l.fn.items).bytes l.self.offset l.self.trouble l.self.text.items
      (held_in l.items).bytes;
}

abbrev pub decreases-loop-word : goal.decreases-loop-word
decreases-loop-word g l = length (held_in l.items).bytes
