use Rattle.std.proofs.Common.{arith, take, ◌∙◌}
use Rattle.std.proofs.lemmas.List.{take_all}
use Rattle.std.proofs.lemmas.Result.{err_from_is_err_and}
use Rattle.std.specs.List.{concat}
use Rattle.shared_core_stream.proofs.Items.{split_begins}
use Rattle.shared_core_stream.proofs.Segments.{concat_next, rest_fits}
use Rattle.shared_core_stream.proofs.encoding.chunks.decode_pieces.Goals as goal

pub returns-in_err-feed-clause-too_long : goal.returns-in_err-feed-clause-too_long
returns-in_err-feed-clause-too_long c is =
    let from = err_from_is_err_and c.from_residual.result c.from_residual.ensures.1 in
    let fits = rest_fits c.args.version c.args.chunks.now c.loop-chunk.chunk-index _ _ _ c.loop-chunk-test.true
    c.chunk-item.is c.loop-chunk.invariant.1.items_then in
    omega (arith, fits, c.in_err-feed.ensures.too_long (cc))

pub loop-chunk-preserved : goal.loop-chunk-preserved
loop-chunk-preserved c =
    let moved = rw c.loop-chunk.invariant.0 at c.in_ok-feed.ensures.moved in (
      c.in_ok-feed.ensures.version ∙ c.loop-chunk.invariant.0,
      record {
        items_then = rw (concat_next c.args.chunks.now c.loop-chunk.chunk-index _ c.loop-chunk-test.true
            c.chunk-item.is)
            (moved (concat (take c.loop-chunk.chunk-index c.args.chunks.now)) c.loop-chunk.invariant.1.items_then);
        no_more = rw c.loop-chunk.invariant.0 at c.in_ok-feed.ensures.no_more;
      },
      c.in_ok-feed.ensures.unlimited,
    )

pub returns-clause-written : goal.returns-clause-written
returns-clause-written c =
    split_begins c.args.version (concat c.args.chunks.now) _ _
    (rw (take_all _ c.args.chunks.now c.loop-chunk-test.false) at c.loop-chunk.invariant.1)
