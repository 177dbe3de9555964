use Rattle.std.proofs.Common.{◌≡◌, length}
use Rattle.shared_core_io.specs.Buffered.{held_in}
use Rattle.stream_lines.specs.Steps.{holding}
use Rattle.show_lines.specs.Steps.{Added, AreCounted, known_by}
use Rattle.show_lines.proofs.stream.Lines.add_held.Given as goal

abbrev pub invariant-loop-item : goal.invariant-loop-item
invariant-loop-item g l = record {
  state : held_in l.items ≡ holding l.fn.items.decoder.version l.fn.items.decoder.limit l.self.offset
      (held_in l.items).bytes;
  added : Added l.showing.options.now l.fn.items.decoder.limit l.fn.self.offset (known_by l.fn.self)
      l.fn.self.text.items (held_in l.fn.items).bytes l.self.offset (known_by l.self) l.self.text.items
      (held_in l.items).bytes;
  counted : AreCounted l.self;
}

abbrev pub decreases-loop-item : goal.decreases-loop-item
decreases-loop-item g l = length (held_in l.items).bytes
