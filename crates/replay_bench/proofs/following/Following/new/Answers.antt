use Rattle.std.proofs.Common.{ap, arith, refl}
use Rattle.replay_bench.proofs.Replays.{follows_none}
use Rattle.replay_bench.proofs.following.Following.new.Goals as goal

pub returns-clause-new : goal.returns-clause-new
returns-clause-new g c = record {
  index_is = refl;
  size_is = refl;
  fits = omega arith;
  read_to = record { limit_is = ap g.S.Source.limit c.new.ensures.source; reading = c.new.ensures.new };
  follows = rw c.new.ensures.source (follows_none c.args.version c.args.ignore
      (g.S.Source.coming c.args.recorded));
}
