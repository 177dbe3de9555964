use Rattle.shared_core_io.proofs.Reading.{cut_off}
use Rattle.shared_core_io.proofs.item_buffer.ItemBuffer.cut_chunk.Goals as goal

pub returns-clause-cut : goal.returns-clause-cut
returns-clause-cut c = cut_off _ _ _ _ c.len.result c.requires.none c.in_ok-self.ensures.front
    c.in_ok-self.ensures.rest.0
