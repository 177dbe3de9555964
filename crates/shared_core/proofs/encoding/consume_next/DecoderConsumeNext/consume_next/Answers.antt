use Rattle.std.proofs.Common.{sym, ◌∙◌}
use Rattle.shared_core_stream.proofs.Items.{unknown_item_is_untyped}
use Rattle.shared_core.proofs.encoding.consume_next.DecoderConsumeNext.consume_next.Goals as goal

pub returns-in-Ok-None-clause-next : goal.returns-in-Ok-None-clause-next
returns-in-Ok-None-clause-next c none =
    let taken = rw c.in-Ok-None.field-0-is at c.in-Ok-None.ensures.taken in (taken.0, taken.1)

-- the code of an unknown item is unassigned
pub unreachable-requires : goal.unreachable-requires
unreachable-requires c =
    let taken = rw (c.in-Ok-Some.field-0-is, c.in-Unknown.is) at c.in-Ok-Some.ensures.taken in
    let typed = sym (unknown_item_is_untyped _ _ _ taken.1) ∙ c.in_default.ensures in
    cc
