use Rattle.std.proofs.lemmas.Result.{err_from_is_err_and}
use Rattle.replay_bench.proofs.replay.Replay.finish.Goals as goal

pub returns-in_err-verdict-clause-finished : goal.returns-in_err-verdict-clause-finished
returns-in_err-verdict-clause-finished g c = rw (← c.self.view_is)
    (λ recording given f unsaid.
    let from = err_from_is_err_and c.from_residual.result c.from_residual.ensures.1 in
    rw (from.1, from.2) (c.in_err-verdict.ensures recording given f))

pub returns-clause-finished : goal.returns-clause-finished
returns-clause-finished g c = rw (← c.self.view_is)
    (λ recording given f unsaid. c.in_ok-verdict.ensures recording given f)
