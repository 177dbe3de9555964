use Rattle.std.proofs.Common.{refl}
use Rattle.shared_core_stream.proofs.Borrowed.{missing_begins_none}
use Rattle.shared_core_stream.proofs.Limits.{accepts_borrowed, rejects_borrowed}
use Rattle.shared_core_stream.proofs.encoding.item_refs.ItemRefsIterator.next.Goals as goal

pub returns-in_default-clause-steps : goal.returns-in_default-clause-steps
returns-in_default-clause-steps c = (refl, λ _. missing_begins_none _ _ _ c.in_default.ensures.missing)

pub returns-then-item-self-clause-steps : goal.returns-then-item-self-clause-steps
returns-then-item-self-clause-steps c = (
  refl,
  λ none item rest taken. rejects_borrowed _ _ _ _ _ _ c.in-Ok.ensures.item c.if-item-self.true none,
)

pub returns-clause-steps : goal.returns-clause-steps
returns-clause-steps c = (
  refl,
  refl,
  refl,
  accepts_borrowed _ _ _ _ _ _ c.in-Ok.ensures.item c.if-item-self.false,
  c.in-Ok.ensures.item,
)
