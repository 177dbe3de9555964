use Rattle.replay_bench.proofs.Pairs.{pair_of_messages}
use Rattle.replay_bench.proofs.comparison.NextCommands.compare.Goals as goal

pub returns-in-Some-Some : goal.returns-in-Some-Some
returns-in-Some-Some c =
    let both = c.in-Some-Some in
    rw (both.is-0, both.is-1) (pair_of_messages c.args.ignore c.args.is_listed c.args.index both.recorded both.replayed
    c.of.result c.of-in-Some-Some.result c.compare_commands.result c.of.ensures.ty c.of.ensures.payload
    c.of-in-Some-Some.ensures.ty c.of-in-Some-Some.ensures.payload c.compare_commands.ensures)
