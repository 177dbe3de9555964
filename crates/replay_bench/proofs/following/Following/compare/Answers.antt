use Rattle.std.proofs.Common.{true}
use Rattle.replay_bench.proofs.Pairs.{pair_of_messages}
use Rattle.replay_bench.proofs.following.Following.compare.Goals as goal

pub returns : goal.returns
returns g c =
    let self = c.args.self.now in
    rw c.in-Held.is (pair_of_messages self.ignore true self.index c.in-Held.recorded c.args.replayed.now c.of.result
    c.of-2.result c.compare_commands.result c.of.ensures.ty c.of.ensures.payload c.of-2.ensures.ty
    c.of-2.ensures.payload c.compare_commands.ensures)
