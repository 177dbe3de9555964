use Rattle.std.proofs.Common.{◌∙◌, refl}
use Rattle.shared_core_stream.proofs.Items.{then_takes}
use Rattle.shared_core_stream.proofs.encoding.chunks.drain.Goals as goal

pub loop-item-preserved : goal.loop-item-preserved
loop-item-preserved c =
    let (same, free, moved) = c.loop-item.invariant in (
      c.in-Ok-Some.ensures.version ∙ same,
      (c.in-Ok-Some.ensures.unlimited free).0,
      λ stream before.
          let taken = rw (c.in-Ok-Some.field-0-is, same) at c.in-Ok-Some.ensures.taken in
          rw c.in_ok-push-in-Ok-Some.ensures.items (then_takes c.args.decoder.now.version stream _ _ _ _
          (moved stream before) taken),
    )

pub returns-in-Ok-None-clause-no_more : goal.returns-in-Ok-None-clause-no_more
returns-in-Ok-None-clause-no_more c =
    let none = rw (c.in-Ok-None.field-0-is, c.loop-item.invariant.0) at c.in-Ok-None.ensures.taken in
    rw none.1 none.0

pub unreachable-requires : goal.unreachable-requires
unreachable-requires c =
    (c.in-Err-TooLong.ensures.unlimited c.loop-item.invariant.1).1 (rw c.in-Err-TooLong.field-0-is refl)
