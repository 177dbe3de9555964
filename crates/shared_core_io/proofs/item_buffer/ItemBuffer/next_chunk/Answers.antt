use Rattle.std.proofs.Common.{◌∙◌, ◌++◌, [], append-nil, sym}
use Rattle.std.proofs.KnownBytes.{Consumes-nil}
use Rattle.std.proofs.lemmas.Result.{err_from_is_err_and}
use Rattle.shared_core_io.proofs.Reading.{buffer_lost, read_after}
use Rattle.shared_core_io.proofs.item_buffer.ItemBuffer.next_chunk.Goals as goal

pub returns-then-not-is_empty-clause-cut : goal.returns-then-not-is_empty-clause-cut
returns-then-not-is_empty-clause-cut g c =
    let old = c.args.self.now in
    ([], Consumes-nil (g.R.Read.remaining c.args.reader.now), sym (append-nil (old.chunk ++ old.buffer.items)))

pub returns-in_err-read-clause-cut : goal.returns-in_err-read-clause-cut
returns-in_err-read-clause-cut g c =
    let old = c.args.self.now in
    let new = c.read.new.self in
    let (read, came, is) = c.read.ensures.bytes in (
      read,
      came,
      read_after old.chunk old.buffer.items new.chunk new.buffer.items read c.read.ensures.chunk is,
    )

pub returns-then-not-branch-clause-cut : goal.returns-then-not-branch-clause-cut
returns-then-not-branch-clause-cut g c =
    let old = c.args.self.now in
    let new = c.read.new.self in
    let (read, came, is) = c.read.ensures.bytes in (
      read,
      came,
      read_after old.chunk old.buffer.items new.chunk new.buffer.items read c.read.ensures.chunk is,
    )

pub returns-in_err-read-clause-error : goal.returns-in_err-read-clause-error
returns-in_err-read-clause-error g c =
    let old = c.args.self.now in
    let new = c.read.new.self in
    let from = err_from_is_err_and c.from_residual.result c.from_residual.ensures.1 in
    rw (from.1, from.2) (buffer_lost old.chunk old.buffer.items new.chunk new.buffer.items _ c.read.ensures.chunk
    c.in_err-read.ensures.error)

pub returns-in_err-cut_chunk-clause-cut : goal.returns-in_err-cut_chunk-clause-cut
returns-in_err-cut_chunk-clause-cut g c =
    let old = c.args.self.now in
    let next = c.read.new.self in
    let (read, came, is) = c.read.ensures.bytes in (
      read,
      came,
      c.cut_chunk.ensures.cut
          ∙ read_after old.chunk old.buffer.items next.chunk next.buffer.items read c.read.ensures.chunk is,
    )

pub returns-clause-cut : goal.returns-clause-cut
returns-clause-cut g c =
    let old = c.args.self.now in
    let next = c.read.new.self in
    let (read, came, is) = c.read.ensures.bytes in (
      read,
      came,
      c.cut_chunk.ensures.cut
          ∙ read_after old.chunk old.buffer.items next.chunk next.buffer.items read c.read.ensures.chunk is,
    )
