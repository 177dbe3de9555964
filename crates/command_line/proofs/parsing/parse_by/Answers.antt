use Rattle.std.proofs.lemmas.Result.{IfOk-weaker}
use Rattle.command_line.proofs.parsing.parse_by.Goals as goal

pub returns : goal.returns
returns g c =
    IfOk-weaker c.from_matches.result _ _
    (λ parsed is_read. (c.in_ok-matches.matches, c.in_ok-matches.ensures.ok.2, is_read))
    c.from_matches.ensures
