use Rattle.std.proofs.Common.{◌++◌, refl, arith, length-append}
use Rattle.std.proofs.KnownBytes.{Consumes-trans}
use Rattle.std.proofs.lemmas.Result.{err_from_is_err_and}
use Rattle.shared_core_io.specs.Reading.{held, with_more}
use Rattle.shared_core_io.proofs.Reading.{item_read, error_read, read_more, not_filled, stream_ended, not_idle}
use Rattle.shared_core_io.proofs.Reading.{drained_end, drained_error, drained_fill, few_held, word_of}
use Rattle.shared_core_io.proofs.item_buffer.ItemBuffer.next_with_word.Goals as goal

pub returns-in_err-next-clause-read : goal.returns-in_err-next-clause-read
returns-in_err-next-clause-read g c =
    let (read, came, before) = c.loop.invariant.so_far in
    let first = held c.args.self.now.decoder c.args.self.now.chunk c.args.self.now.buffer in
    let old = c.loop.self.decoder in
    let outside = c.loop.self.chunk ++ c.loop.self.buffer.items in
    let next = c.take.new.self.decoder in
    let kept = c.take.new.self.chunk ++ c.take.new.self.buffer.items in
    let from = err_from_is_err_and c.from_residual.result c.from_residual.ensures.1 in (
      read,
      came,
      rw (from.1, from.2) (error_read first read old next outside kept before _ _ c.in_err-next.ensures.taken),
      rw from.1 tt,
    )

pub returns-in_err-next-clause-idle : goal.returns-in_err-next-clause-idle
returns-in_err-next-clause-idle g c item rest begins =
    c.loop.invariant.idle item rest begins

pub returns-in-Some-clause-read : goal.returns-in-Some-clause-read
returns-in-Some-clause-read g c =
    let (read, came, before) = c.loop.invariant.so_far in
    let first = held c.args.self.now.decoder c.args.self.now.chunk c.args.self.now.buffer in
    let old = c.loop.self.decoder in
    let outside = c.loop.self.chunk ++ c.loop.self.buffer.items in
    let next = c.take.new.self.decoder in
    let kept = c.take.new.self.chunk ++ c.take.new.self.buffer.items in
    let taken = rw c.in-Some.is at c.in_ok-next.ensures.taken in (
      read,
      came,
      item_read first read old next outside kept before (g.R.Read.remaining c.loop.reader)
          c.in-Some.next.1 taken,
      word_of old (with_more first read) next outside kept before c.in-Some.next.1 c.in-Some.next.0 taken
          (rw c.in-Some.is at c.in_ok-next.ensures.word),
    )

pub returns-in-Some-clause-idle : goal.returns-in-Some-clause-idle
returns-in-Some-clause-idle g c item rest begins =
    c.loop.invariant.idle item rest begins

pub returns-in_err-fill-clause-read : goal.returns-in_err-fill-clause-read
returns-in_err-fill-clause-read g c =
    let (read, came, before) = c.loop.invariant.so_far in
    let first = held c.args.self.now.decoder c.args.self.now.chunk c.args.self.now.buffer in
    let old = c.loop.self.decoder in
    let outside = c.loop.self.chunk ++ c.loop.self.buffer.items in
    let next = c.take.new.self.decoder in
    let kept = c.take.new.self.chunk ++ c.take.new.self.buffer.items in
    let (more, now, after) = c.fill.ensures.filled in
    let new = held c.fill.new.self.decoder c.fill.new.self.chunk c.fill.new.self.buffer in
    let none = rw c.in_default.is at c.in_ok-next.ensures.taken in
    let from = err_from_is_err_and c.from_residual-in_err-fill.result c.from_residual-in_err-fill.ensures.1 in (
      read ++ more,
      Consumes-trans (g.R.Read.remaining c.args.reader.now) (g.R.Read.remaining c.loop.reader)
          (g.R.Read.remaining c.fill.new.reader) read more came now,
      rw (from.1, from.2) (not_filled first read more old next new outside kept before none after _ _ _
          _ c.in_err-fill.ensures.error),
      rw from.1 tt,
    )

pub returns-in_err-fill-clause-idle : goal.returns-in_err-fill-clause-idle
returns-in_err-fill-clause-idle g c item rest begins =
    let (read, came, before) = c.loop.invariant.so_far in
    let first = held c.args.self.now.decoder c.args.self.now.chunk c.args.self.now.buffer in
    let old = c.loop.self.decoder in
    let outside = c.loop.self.chunk ++ c.loop.self.buffer.items in
    let next = c.take.new.self.decoder in
    let kept = c.take.new.self.chunk ++ c.take.new.self.buffer.items in
    let (more, now, after) = c.fill.ensures.filled in
    let new = held c.fill.new.self.decoder c.fill.new.self.chunk c.fill.new.self.buffer in
    let none = rw c.in_default.is at c.in_ok-next.ensures.taken in
    not_idle first read more old next new outside kept before none after _ _ _
    (λ some. c.fill.ensures.idle (omega (
      arith,
      some,
      length-append c.take.new.self.chunk
          c.take.new.self.buffer.items,
    ))) item rest begins
    (c.loop.invariant.idle item rest begins)

pub returns-then-not-branch-clause-read : goal.returns-then-not-branch-clause-read
returns-then-not-branch-clause-read g c =
    let (read, came, before) = c.loop.invariant.so_far in
    let first = held c.args.self.now.decoder c.args.self.now.chunk c.args.self.now.buffer in
    let old = c.loop.self.decoder in
    let outside = c.loop.self.chunk ++ c.loop.self.buffer.items in
    let next = c.take.new.self.decoder in
    let kept = c.take.new.self.chunk ++ c.take.new.self.buffer.items in
    let (more, now, after) = c.fill.ensures.filled in
    let new = held c.fill.new.self.decoder c.fill.new.self.chunk c.fill.new.self.buffer in
    let none = rw c.in_default.is at c.in_ok-next.ensures.taken in
    let (end, still, gone) = c.in_ok-fill.ensures.end c.if-not-branch.true in
    let others = c.fill.new.self.chunk ++ c.fill.new.self.buffer.items in (
      read ++ more,
      Consumes-trans (g.R.Read.remaining c.args.reader.now) (g.R.Read.remaining c.loop.reader)
          (g.R.Read.remaining c.fill.new.reader) read more came now,
      rw c.end_of.ensures.result (stream_ended first read more old next new outside kept before none after
          c.fill.new.self.decoder others (g.R.Read.remaining c.fill.new.reader) refl gone still end),
      c.end_of.ensures.word _,
    )

pub returns-then-not-branch-clause-idle : goal.returns-then-not-branch-clause-idle
returns-then-not-branch-clause-idle g c item rest begins =
    let (read, came, before) = c.loop.invariant.so_far in
    let first = held c.args.self.now.decoder c.args.self.now.chunk c.args.self.now.buffer in
    let old = c.loop.self.decoder in
    let outside = c.loop.self.chunk ++ c.loop.self.buffer.items in
    let next = c.take.new.self.decoder in
    let kept = c.take.new.self.chunk ++ c.take.new.self.buffer.items in
    let (more, now, after) = c.fill.ensures.filled in
    let new = held c.fill.new.self.decoder c.fill.new.self.chunk c.fill.new.self.buffer in
    let none = rw c.in_default.is at c.in_ok-next.ensures.taken in
    not_idle first read more old next new outside kept before none after _ _ _
    (λ some. c.fill.ensures.idle (omega (
      arith,
      some,
      length-append c.take.new.self.chunk
          c.take.new.self.buffer.items,
    ))) item rest begins
    (c.loop.invariant.idle item rest begins)

pub returns-in_err-next-clause-bound : goal.returns-in_err-next-clause-bound
returns-in_err-next-clause-bound g c = few_held c.take.new.self.decoder c.take.new.self.chunk c.take.new.self.buffer
    c.take.new.self.short c.take.new.self.small c.take.new.self.few

pub returns-in-Some-clause-bound : goal.returns-in-Some-clause-bound
returns-in-Some-clause-bound g c = few_held c.take.new.self.decoder c.take.new.self.chunk c.take.new.self.buffer
    c.take.new.self.short c.take.new.self.small c.take.new.self.few

pub returns-in_err-fill-clause-bound : goal.returns-in_err-fill-clause-bound
returns-in_err-fill-clause-bound g c = few_held c.fill.new.self.decoder c.fill.new.self.chunk c.fill.new.self.buffer
    c.fill.new.self.short c.fill.new.self.small c.fill.new.self.few

pub returns-then-not-branch-clause-bound : goal.returns-then-not-branch-clause-bound
returns-then-not-branch-clause-bound g c = few_held c.fill.new.self.decoder c.fill.new.self.chunk c.fill.new.self.buffer
    c.fill.new.self.short c.fill.new.self.small c.fill.new.self.few

pub returns-clause-bound : goal.returns-clause-bound
returns-clause-bound g c = few_held c.loop.self.decoder c.loop.self.chunk c.loop.self.buffer
    c.loop.self.short c.loop.self.small c.loop.self.few

pub returns-in_err-next-clause-drained : goal.returns-in_err-next-clause-drained
returns-in_err-next-clause-drained g c =
    let from = err_from_is_err_and c.from_residual.result c.from_residual.ensures.1 in
    rw (from.1, from.2) (drained_error c.loop.self.decoder c.take.new.self.decoder
    (c.loop.self.chunk ++ c.loop.self.buffer.items) (c.take.new.self.chunk ++ c.take.new.self.buffer.items) _
    c.in_err-next.ensures.taken)

pub returns-in_err-fill-clause-drained : goal.returns-in_err-fill-clause-drained
returns-in_err-fill-clause-drained g c =
    let from = err_from_is_err_and c.from_residual-in_err-fill.result c.from_residual-in_err-fill.ensures.1 in
    rw (from.1, from.2) (drained_fill _ _ _ _ _ c.in_err-fill.ensures.error)

pub returns-then-not-branch-clause-drained : goal.returns-then-not-branch-clause-drained
returns-then-not-branch-clause-drained g c =
    drained_end c.end_of.result _ (c.in_ok-fill.ensures.end c.if-not-branch.true).2

pub loop-preserved : goal.loop-preserved
loop-preserved g c =
    let (read, came, before) = c.loop.invariant.so_far in
    let first = held c.args.self.now.decoder c.args.self.now.chunk c.args.self.now.buffer in
    let old = c.loop.self.decoder in
    let outside = c.loop.self.chunk ++ c.loop.self.buffer.items in
    let next = c.take.new.self.decoder in
    let kept = c.take.new.self.chunk ++ c.take.new.self.buffer.items in
    let (more, now, after) = c.fill.ensures.filled in
    let new = held c.fill.new.self.decoder c.fill.new.self.chunk c.fill.new.self.buffer in
    let none = rw c.in_default.is at c.in_ok-next.ensures.taken in
    record {
      so_far = (
        read ++ more,
        Consumes-trans (g.R.Read.remaining c.args.reader.now) (g.R.Read.remaining c.loop.reader)
            (g.R.Read.remaining c.fill.new.reader) read more came now,
        read_more first read more old next new outside kept before none after,
      );
      idle = λ item rest begins. not_idle first read more old next new outside kept before none after _ _ _
          (λ some. c.fill.ensures.idle (omega (
            arith,
            some,
            length-append c.take.new.self.chunk
                c.take.new.self.buffer.items,
          ))) item rest begins
          (c.loop.invariant.idle item rest begins);
    }
