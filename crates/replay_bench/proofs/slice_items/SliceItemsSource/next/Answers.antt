use Rattle.std.proofs.Common.{◌∙◌, ap, length}
use Rattle.replay_bench.proofs.Giving.{no_chunks, slice_ends}
use Rattle.replay_bench.proofs.slice_items.SliceItemsSource.next.Goals as goal

pub returns-in_default-clause-next : goal.returns-in_default-clause-next
returns-in_default-clause-next c =
    let inv = c.loop-item.invariant in
    let none = rw (c.in-Ok-None.field-0-is, inv.version) at c.in-Ok-None.ensures.taken in
    let empty = no_chunks _ (rw c.in_default.is at c.split_first.ensures.cases) in
    slice_ends c.args.self.now.decoder.version _ _ _ inv.same _ empty none.0 (c.pending.ensures ∙ ap length none.1)

pub invariant_of-self-in-Break-branch-2 : goal.invariant_of-self-in-Break-branch-2
invariant_of-self-in-Break-branch-2 c =
    let (limit_is, gone) = (c.in-Ok-None.ensures.unlimited c.loop-item.self.unlimited).0 in
    record { unlimited = (c.push.ensures.settings.0 ∙ limit_is, c.push.ensures.settings.1 ∙ gone) }
