use Rattle.std.proofs.Common.{◌∙◌, ◌+◌, ◌++◌, None, Ok, length, rules, sym}
use Rattle.std.proofs.lemmas.Result.{err_from_is_err_and}
use Rattle.shared_core_io.specs.Reading.{held}
use Rattle.shared_core_io.proofs.Reading.{item_taken, error_taken, all_taken}
use Rattle.shared_core_io.proofs.Reading.{fewer_outside, none_outside, word_of}
use Rattle.shared_core_io.proofs.item_buffer.ItemBuffer.take_with_word.Goals as goal

pub returns-in_err-next-clause-taken : goal.returns-in_err-next-clause-taken
returns-in_err-next-clause-taken c =
    let first = held c.args.self.now.decoder c.args.self.now.chunk c.args.self.now.buffer in
    let outside = c.loop-next.self.chunk ++ c.loop-next.self.buffer.items in
    let kept = c.take.new.self.chunk ++ c.take.new.self.buffer.items in
    let from = err_from_is_err_and c.from_residual.result c.from_residual.ensures.1 in
    rw (from.1, from.2) (error_taken first c.loop-next.self.decoder c.take.new.self.decoder outside kept
    c.loop-next.invariant _ c.in_err-next.ensures.taken)

pub returns-in-Some-clause-taken : goal.returns-in-Some-clause-taken
returns-in-Some-clause-taken c =
    let first = held c.args.self.now.decoder c.args.self.now.chunk c.args.self.now.buffer in
    let outside = c.loop-next.self.chunk ++ c.loop-next.self.buffer.items in
    let kept = c.take.new.self.chunk ++ c.take.new.self.buffer.items in
    item_taken first c.loop-next.self.decoder c.take.new.self.decoder outside kept c.loop-next.invariant
    c.in-Some.next.1 (rw c.in-Some.is at c.in_ok-next.ensures.taken)

pub loop-next-smaller : goal.loop-next-smaller
loop-next-smaller c =
    let (accepts, none, short, same, kept_same) = rw c.in_default.is at c.in_ok-next.ensures.taken in
    fewer_outside c.loop-next.self.chunk c.loop-next.self.buffer.items c.take.new.self.chunk
    c.take.new.self.buffer.items
    (length c.push_held.new.self.chunk + length c.push_held.new.self.buffer.items) kept_same
    c.in_ok-push_held.ensures.fewer

pub returns-then-is_empty-2-clause-taken : goal.returns-then-is_empty-2-clause-taken
returns-then-is_empty-2-clause-taken c =
    let first = held c.args.self.now.decoder c.args.self.now.chunk c.args.self.now.buffer in
    let outside = c.loop-next.self.chunk ++ c.loop-next.self.buffer.items in
    let kept = c.take.new.self.chunk ++ c.take.new.self.buffer.items in
    let (accepts, none, short, same, kept_same) = rw c.in_default.is at c.in_ok-next.ensures.taken in
    all_taken first c.loop-next.self.decoder c.take.new.self.decoder outside kept c.loop-next.invariant (Ok None)
    (sym kept_same ∙ none_outside c.take.new.self.chunk c.take.new.self.buffer.items (search rules) (search rules))
    (accepts, none, short, same, kept_same)

pub returns-in_err-next-clause-word : goal.returns-in_err-next-clause-word
returns-in_err-next-clause-word c =
    let from = err_from_is_err_and c.from_residual.result c.from_residual.ensures.1 in
    rw from.1 tt

pub returns-in-Some-clause-word : goal.returns-in-Some-clause-word
returns-in-Some-clause-word c =
    let first = held c.args.self.now.decoder c.args.self.now.chunk c.args.self.now.buffer in
    let outside = c.loop-next.self.chunk ++ c.loop-next.self.buffer.items in
    let kept = c.take.new.self.chunk ++ c.take.new.self.buffer.items in
    word_of c.loop-next.self.decoder first c.take.new.self.decoder outside kept c.loop-next.invariant
    c.in-Some.next.1 c.in-Some.next.0 (rw c.in-Some.is at c.in_ok-next.ensures.taken)
    (rw c.in-Some.is at c.in_ok-next.ensures.word)

pub returns-in_err-push_held-clause-word : goal.returns-in_err-push_held-clause-word
returns-in_err-push_held-clause-word c =
    let from = err_from_is_err_and c.from_residual-in_err-push_held.result
    c.from_residual-in_err-push_held.ensures.1 in
    rw from.1 tt
