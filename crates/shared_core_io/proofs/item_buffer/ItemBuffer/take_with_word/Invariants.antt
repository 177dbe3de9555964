use Rattle.std.proofs.Common.{◌≡◌, ◌+◌, length}
use Rattle.shared_core_io.specs.Reading.{held}
use Rattle.shared_core_io.proofs.item_buffer.ItemBuffer.take_with_word.Given as goal

abbrev pub invariant-loop-next : goal.invariant-loop-next
invariant-loop-next l = held l.self.decoder l.self.chunk l.self.buffer
    ≡ held l.fn.self.decoder l.fn.self.chunk l.fn.self.buffer

abbrev pub decreases-loop-next : goal.decreases-loop-next
decreases-loop-next l = length l.self.chunk + length l.self.buffer.items
