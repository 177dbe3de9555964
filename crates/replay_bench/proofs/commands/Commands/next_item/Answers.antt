use Rattle.std.proofs.Common.{arith}
use Rattle.replay_bench.proofs.Readings.{item_noted, items_long, read_on, rejects, size_grows}
use Rattle.replay_bench.proofs.commands.Commands.next_item.Goals as goal

pub returns-then-self-clause-rejected : goal.returns-then-self-clause-rejected
returns-then-self-clause-rejected g c =
    let v = c.args.self.now.version in
    let taken = rw (c.in-Ok-Item.field-0-is, c.requires.same) at c.in-Ok-Item.ensures.next in
    λ is_strict first read.
    items_long v is_strict first _ _ read c.in-Ok-Item.item _ c.note.ensures.noted _ taken
    (omega (arith, c.if-self.true))

pub returns-else-self-clause-longer : goal.returns-else-self-clause-longer
returns-else-self-clause-longer g c =
    let (is_strict, first, read) = c.requires.read in
    size_grows c.args.self.now.version is_strict first _ _ read c.in-Ok-Item.item _ c.note.ensures.noted

pub returns-else-self-clause-read : goal.returns-else-self-clause-read
returns-else-self-clause-read g c =
    let v = c.args.self.now.version in
    let taken = rw (c.in-Ok-Item.field-0-is, c.requires.same) at c.in-Ok-Item.ensures.next in
    λ is_strict first read.
    read_on v is_strict first _ _
    (item_noted v is_strict first _ _ c.in-Ok-Item.item _ _ taken c.note.ensures.noted read)

pub returns-in-Err-clause-rejected : goal.returns-in-Err-clause-rejected
returns-in-Err-clause-rejected g c =
    let v = c.args.self.now.version in
    let is = rw c.requires.same at c.in-Err.ensures.next in
    rw c.reader_error.ensures
    (λ is_strict first read.
    rejects v is_strict first _ _ read c.args.self.now.side g.S.Source.may_fail _ c.in-Err.error is)
