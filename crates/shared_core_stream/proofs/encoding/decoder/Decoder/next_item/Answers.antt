use Rattle.shared_core_stream.proofs.Returned.{taken_of, unlimited_of}
use Rattle.shared_core_stream.proofs.encoding.decoder.Decoder.next_item.Goals as goal

pub returns-clause-taken : goal.returns-clause-taken
returns-clause-taken c = taken_of _ _ _ c.next_with_word.ensures.next

pub returns-clause-unlimited : goal.returns-clause-unlimited
returns-clause-unlimited c = unlimited_of _ _ _ c.next_with_word.ensures.next
