use Rattle.std.proofs.Common.{◌∙◌, ◌++◌, ℕ, List, [], ap, inl}
use Rattle.std.proofs.KnownBytes.{Consumes-nil}
use Rattle.std.proofs.lemmas.Result.{err_from_is_err_and}
use Rattle.bytes.specs.Filled.{Filled}
use Rattle.shared_core_io.specs.Reading.{held}
use Rattle.shared_core_io.proofs.Reading.{few_held, longer, none_read, outside_lost, pushed, read_outside}
use Rattle.shared_core_io.proofs.item_buffer.ItemBuffer.fill.Goals as goal

pub returns-in-Some-clause-filled : goal.returns-in-Some-clause-filled
returns-in-Some-clause-filled g c =
    let old = c.args.self.now in
    ([], Consumes-nil (g.R.Read.remaining c.args.reader.now), none_read (held old.decoder old.chunk old.buffer))

pub returns-then-pending-gt-MOST_OF_A_PART-clause-filled : goal.returns-then-pending-gt-MOST_OF_A_PART-clause-filled
returns-then-pending-gt-MOST_OF_A_PART-clause-filled g c =
    let old = c.args.self.now in
    ([], Consumes-nil (g.R.Read.remaining c.args.reader.now), none_read (held old.decoder old.chunk old.buffer))

pub returns-in_err-next_chunk-clause-filled : goal.returns-in_err-next_chunk-clause-filled
returns-in_err-next_chunk-clause-filled g c =
    let old = c.args.self.now in
    let new = c.next_chunk.new.self in
    let (read, came, is) = c.next_chunk.ensures.cut in (
      read,
      came,
      read_outside old.decoder new.decoder (old.chunk ++ old.buffer.items) (new.chunk ++ new.buffer.items) read
          c.next_chunk.ensures.decoder is,
    )

pub returns-then-not-branch-clause-filled : goal.returns-then-not-branch-clause-filled
returns-then-not-branch-clause-filled g c =
    let old = c.args.self.now in
    let new = c.next_chunk.new.self in
    let (read, came, is) = c.next_chunk.ensures.cut in (
      read,
      came,
      read_outside old.decoder new.decoder (old.chunk ++ old.buffer.items) (new.chunk ++ new.buffer.items) read
          c.next_chunk.ensures.decoder is,
    )

pub returns-in_err-push-clause-filled : goal.returns-in_err-push-clause-filled
returns-in_err-push-clause-filled g c =
    let old = c.args.self.now in
    let next = c.next_chunk.new.self in
    let new = c.push.new.self in
    let (read, came, is) = c.next_chunk.ensures.cut in
    let (same, kept) = c.in_err-push.ensures.kept in (
      read,
      came,
      read_outside old.decoder new.decoder (old.chunk ++ old.buffer.items) (new.chunk ++ new.buffer.items) read
          (same ∙ c.next_chunk.ensures.decoder)
          (ap (λ (bytes : List ℕ). bytes ++ new.buffer.items) kept
          ∙ ap (λ (buffer : Filled). next.chunk ++ buffer.items) c.push.ensures.buffer ∙ is),
    )

pub returns-clause-filled : goal.returns-clause-filled
returns-clause-filled g c =
    let old = c.args.self.now in
    let next = c.next_chunk.new.self in
    let new = c.push.new.self in
    let (read, came, is) = c.next_chunk.ensures.cut in
    let (after, none) = c.in_ok-push.ensures.ok in (
      read,
      came,
      pushed next.decoder new.decoder next.chunk next.buffer.items new.chunk new.buffer.items after none
          (ap (λ (buffer : Filled). buffer.items) c.push.ensures.buffer)
          ∙ read_outside old.decoder next.decoder (old.chunk ++ old.buffer.items) (next.chunk ++ next.buffer.items) read
          c.next_chunk.ensures.decoder is,
    )

pub returns-clause-more : goal.returns-clause-more
returns-clause-more g c =
    λ more. inl (longer c.args.self.now.decoder c.next_chunk.new.self.decoder c.push.new.self.decoder
    c.next_chunk.new.self.chunk c.next_chunk.ensures.decoder c.in_ok-push.ensures.ok.0
    (c.in_ok-next_chunk.ensures.some c.if-not-branch.false))

pub returns-in_err-next_chunk-clause-error : goal.returns-in_err-next_chunk-clause-error
returns-in_err-next_chunk-clause-error g c =
    let old = c.args.self.now in
    let new = c.next_chunk.new.self in
    let from = err_from_is_err_and c.from_residual.result c.from_residual.ensures.1 in
    rw (from.1, from.2) (outside_lost old.decoder.rejected old.decoder new.decoder (old.chunk ++ old.buffer.items)
    (new.chunk ++ new.buffer.items) _ c.next_chunk.ensures.decoder c.in_err-next_chunk.ensures.error)

pub returns-in-Some-clause-bound : goal.returns-in-Some-clause-bound
returns-in-Some-clause-bound g c =
    let items = c.args.self.now in
    few_held items.decoder items.chunk items.buffer items.short items.small items.few

pub returns-then-pending-gt-MOST_OF_A_PART-clause-bound : goal.returns-then-pending-gt-MOST_OF_A_PART-clause-bound
returns-then-pending-gt-MOST_OF_A_PART-clause-bound g c =
    let items = c.args.self.now in
    few_held items.decoder items.chunk items.buffer items.short items.small items.few

pub returns-in_err-next_chunk-clause-bound : goal.returns-in_err-next_chunk-clause-bound
returns-in_err-next_chunk-clause-bound g c =
    let items = c.next_chunk.new.self in
    few_held items.decoder items.chunk items.buffer items.short items.small items.few

pub returns-then-not-branch-clause-bound : goal.returns-then-not-branch-clause-bound
returns-then-not-branch-clause-bound g c =
    let items = c.next_chunk.new.self in
    few_held items.decoder items.chunk items.buffer items.short items.small items.few

pub returns-in_err-push-clause-bound : goal.returns-in_err-push-clause-bound
returns-in_err-push-clause-bound g c =
    let items = c.push.new.self in
    few_held items.decoder items.chunk items.buffer items.short items.small items.few

pub returns-clause-bound : goal.returns-clause-bound
returns-clause-bound g c =
    let items = c.push.new.self in
    few_held items.decoder items.chunk items.buffer items.short items.small items.few
