use Rattle.std.proofs.Common.{◌∙◌, ◌+◌, ap, arith, cond, sym}
use Rattle.std.proofs.lemmas.Result.{err_from_is_err_and}
use Rattle.std.specs.Prelude.{is_some}
use Rattle.replay_bench.proofs.Fronts.{nothing_after, nothing_left, takes_after, takes_item}
use Rattle.replay_bench.proofs.Readings.{counts_found, on_more}
use Rattle.replay_bench.proofs.Replays.{still_unread}
use Rattle.replay_bench.proofs.commands.Commands.next_command.Goals as goal

pub next_item-requires-clause-same : goal.next_item-requires-clause-same
next_item-requires-clause-same g c =
    c.loop-item.invariant.version ∙ c.requires.same ∙ sym c.loop-item.invariant.same

pub next_item-requires-clause-read : goal.next_item-requires-clause-read
next_item-requires-clause-read g c =
    let inv = c.loop-item.invariant in
    let (is_strict, first, read) = c.requires.read in
    (is_strict, first, rw inv.same (inv.read is_strict first read))

pub returns-in-Some-as_command-clause-taken : goal.returns-in-Some-as_command-clause-taken
returns-in-Some-as_command-clause-taken g c =
    let inv = c.loop-item.invariant in
    let v = c.args.self.now.version in
    let taken = rw (c.in-Some.is, inv.same) at c.in_ok-item.ensures.taken in
    takes_after v _ _ _ _ inv.passed
    (takes_item v _ _ c.in-Some.item _ taken (sym c.in-Some-as_command.is ∙ c.as_command.ensures.is))

pub returns-in-Some-as_command-clause-longer : goal.returns-in-Some-as_command-clause-longer
returns-in-Some-as_command-clause-longer g c =
    let longer = rw c.in-Some.is at c.in_ok-item.ensures.longer in
    omega (arith, longer, c.loop-item.invariant.longer)

pub returns-in-Some-as_command-clause-commands : goal.returns-in-Some-as_command-clause-commands
returns-in-Some-as_command-clause-commands g c =
    let commands = rw c.in-Some.is at c.in_ok-item.ensures.commands in
    let counted = counts_found c.in-Some.item
    ∙ ap is_some (sym c.as_command.ensures.is ∙ c.in-Some-as_command.is) in
    commands ∙ ap (λ b. c.loop-item.self.survey.commands + cond b 1 0) counted
    ∙ ap (λ n. n + 1) c.loop-item.invariant.commands

pub returns-in-Some-as_command-clause-read : goal.returns-in-Some-as_command-clause-read
returns-in-Some-as_command-clause-read g c =
    let inv = c.loop-item.invariant in
    let reads = rw (c.in-Some.is, inv.same) at c.in_ok-item.ensures.read in
    λ is_strict first read. reads is_strict first (inv.read is_strict first read)

pub loop-item-preserved : goal.loop-item-preserved
loop-item-preserved g c =
    let inv = c.loop-item.invariant in
    let v = c.args.self.now.version in
    let taken = rw (c.in-Some.is, inv.same) at c.in_ok-item.ensures.taken in
    let longer = rw c.in-Some.is at c.in_ok-item.ensures.longer in
    let commands = rw c.in-Some.is at c.in_ok-item.ensures.commands in
    let reads = rw (c.in-Some.is, inv.same) at c.in_ok-item.ensures.read in
    let none = sym c.in_default-as_command.is ∙ c.as_command.ensures.is in
    let counted = commands
    ∙ ap (λ b. c.loop-item.self.survey.commands + cond b 1 0)
    (counts_found c.in-Some.item ∙ ap is_some (sym none)) in
    record {
      fits = c.in_ok-item.ensures.fits;
      longer = omega (arith, longer, inv.longer);
      version = c.in_ok-item.ensures.version ∙ inv.version;
      limit = c.in_ok-item.ensures.limit ∙ inv.limit;
      side = c.in_ok-item.ensures.side ∙ inv.side;
      same = c.in_ok-item.ensures.same ∙ inv.same;
      commands = omega (arith, counted, inv.commands);
      passed = takes_after v _ _ _ _ inv.passed (takes_item v _ _ c.in-Some.item _ taken none);
      read = λ is_strict first read.
          on_more v is_strict first _ _ (reads is_strict first (inv.read is_strict first read));
    }

pub returns-clause-taken : goal.returns-clause-taken
returns-clause-taken g c =
    let inv = c.loop-item.invariant in
    let v = c.args.self.now.version in
    let end = rw (c.in_default.is, inv.same) at c.in_ok-item.ensures.taken in
    nothing_after v _ _ inv.passed (nothing_left v _ _ end)

pub returns-clause-commands : goal.returns-clause-commands
returns-clause-commands g c =
    let commands = rw c.in_default.is at c.in_ok-item.ensures.commands in
    omega (arith, commands, c.loop-item.invariant.commands)

pub returns-clause-read : goal.returns-clause-read
returns-clause-read g c =
    let inv = c.loop-item.invariant in
    let reads = rw (c.in_default.is, inv.same) at c.in_ok-item.ensures.read in
    λ is_strict first read. reads is_strict first (inv.read is_strict first read)

pub returns-in_err-item-clause-rejected : goal.returns-in_err-item-clause-rejected
returns-in_err-item-clause-rejected g c =
    let inv = c.loop-item.invariant in
    let from = err_from_is_err_and c.from_residual.result c.from_residual.ensures.1 in
    let rejected = rw (inv.side, inv.same, inv.limit) at c.in_err-item.ensures.rejected in
    rw (from.1, from.2) (λ is_strict first read. rejected is_strict first (inv.read is_strict first read))

pub returns-in_err-item-clause-kept : goal.returns-in_err-item-clause-kept
returns-in_err-item-clause-kept g c =
    let inv = c.loop-item.invariant in
    let from = err_from_is_err_and c.from_residual.result c.from_residual.ensures.1 in
    rw (from.1, from.2)
    (still_unread g.S.Source.version g.S.Source.limit g.S.Source.coming c.args.self.now _ _ _ inv.passed inv.version
    inv.limit inv.fits inv.commands inv.read c.in_err-item.ensures.kept)
