use Rattle.std.proofs.Common.{arith, rules}
use Rattle.std.proofs.lemmas.Fmt.{parse-decimal}
use Rattle.command_line.proofs.max_message.number_of.Goals as goal

pub returns-clause-named : goal.returns-clause-named
returns-clause-named c limit small is =
    let parsed = parse-decimal 32 limit _ c.parse.result small (omega (arith, small)) is (search rules) in
    rw parsed at c.ok.ensures.value
