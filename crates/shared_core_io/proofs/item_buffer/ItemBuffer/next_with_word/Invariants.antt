use Rattle.std.proofs.Common.{◌≡◌, ℕ, List}
use Rattle.std.specs.Io.KnownBytes.{Consumes}
use Rattle.shared_core_stream.specs.Items.{TakesItem}
use Rattle.shared_core_stream.specs.declared.encoding.item.Item.{Item}
use Rattle.shared_core_io.specs.Reading.{held, with_more}
use Rattle.shared_core_io.proofs.item_buffer.ItemBuffer.next_with_word.Given as goal

abbrev pub invariant-loop : goal.invariant-loop
invariant-loop g l = record {
  so_far : (read : List ℕ) × Consumes (g.R.Read.remaining l.fn.reader) (g.R.Read.remaining l.reader) read
      × (held l.self.decoder l.self.chunk l.self.buffer
      ≡ with_more (held l.fn.self.decoder l.fn.self.chunk l.fn.self.buffer) read);
  idle : (item : Item) (rest : List ℕ) → TakesItem l.fn.self.decoder.version
      (held l.fn.self.decoder l.fn.self.chunk l.fn.self.buffer).bytes item rest
      → l.reader ≡ l.fn.reader;
}
