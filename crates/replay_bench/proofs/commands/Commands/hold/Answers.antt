use Rattle.std.proofs.Common.{◌∙◌, [], ◌∷◌, arith, length-append, sym}
use Rattle.std.proofs.lemmas.Result.{err_from_is_err_and}
use Rattle.std.proofs.lemmas.List.Elements.{All-push}
use Rattle.replay_bench.specs.Journals.{IsCommand}
use Rattle.replay_bench.proofs.Readings.{on_last, on_more, on_whole}
use Rattle.replay_bench.proofs.Stops.{counts_more, holds_more, offsets_more}
use Rattle.replay_bench.proofs.commands.Commands.hold.Goals as goal

pub next_command-requires-clause-same : goal.next_command-requires-clause-same
next_command-requires-clause-same g c =
    c.loop-next.invariant.version ∙ c.requires.same ∙ sym c.loop-next.invariant.same

pub next_command-requires-clause-read : goal.next_command-requires-clause-read
next_command-requires-clause-read g c =
    let inv = c.loop-next.invariant in
    let (is_strict, first, on) = c.requires.read in
    let now = rw c.in-Some.is at (inv.read is_strict first on) in
    (is_strict, first, rw inv.same (on_more c.args.self.version is_strict first _ _ now))

pub returns-in_err-next-clause-rejected : goal.returns-in_err-next-clause-rejected
returns-in_err-next-clause-rejected g c =
    let inv = c.loop-next.invariant in
    let from = err_from_is_err_and c.from_residual-in_err-next.result c.from_residual-in_err-next.ensures.1 in
    let rejected = rw (inv.side, inv.same, inv.limit) at c.in_err-next.ensures.rejected in
    rw (from.1, from.2)
    (λ is_strict first on.
    rejected is_strict first (on_more c.args.self.version is_strict first _ _
    (rw c.in-Some.is at (inv.read is_strict first on))))

pub loop-next-preserved : goal.loop-next-preserved
loop-next-preserved g c =
    let inv = c.loop-next.invariant in
    let v = c.args.self.version in
    let reads = rw inv.same at c.in_ok-next.ensures.read in
    let taken = rw inv.same at c.in_ok-next.ensures.taken in
    let counted = rw c.in-Some.is at inv.count in
    rw (c.in_ok-push.ensures.commands, c.in_ok-push.ensures.offsets) (record {
      fits = c.in_ok-next.ensures.fits;
      version = c.in_ok-next.ensures.version ∙ inv.version;
      limit = c.in_ok-next.ensures.limit ∙ inv.limit;
      side = c.in_ok-next.ensures.side ∙ inv.side;
      same = c.in_ok-next.ensures.same ∙ inv.same;
      command = c.in_ok-next.ensures.command;
      are_commands = All-push IsCommand _ _ inv.are_commands (rw c.in-Some.is at inv.command);
      long = omega (
        arith,
        inv.long,
        length-append c.loop-next.held.offsets.items (c.last_command.result ∷ []),
        length-append c.loop-next.held.commands.items (c.in-Some.command ∷ []),
      );
      count = counts_more _ _ _ c.loop-next.held.offsets.items c.last_command.result _ counted
          c.in_ok-next.ensures.commands;
      read = λ is_strict first on.
          reads is_strict first (on_more v is_strict first _ _ (rw c.in-Some.is at (inv.read is_strict first on)));
      held = λ first index on.
          holds_more v index _ _ _ first _ _ (rw c.in-Some.is at (inv.held first index on)) taken;
      offsets = λ is_strict first on.
          offsets_more v first _ _ _ (inv.offsets is_strict first on)
          (on_last v is_strict first _ _ _ _ _ (rw c.in-Some.is at (inv.read is_strict first on)) counted
          c.last_command.ensures);
    })

pub returns-clause-survey : goal.returns-clause-survey
returns-clause-survey g c = λ is_strict first on.
    on_whole c.args.self.version is_strict first _ _
    (rw c.in_default.is at (c.loop-next.invariant.read is_strict first on))
