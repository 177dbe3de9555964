use Rattle.std.proofs.Common.{rules}
use Rattle.replay_bench.proofs.Replays.{comes_next}
use Rattle.replay_bench.proofs.following.Following.held.Goals as goal

pub returns-in-Held-clause-next : goal.returns-in-Held-clause-next
returns-in-Held-clause-next g c = λ recording given f is.
    comes_next recording.version c.args.self.now.ignore recording.bytes given c.args.self.now.ahead _ f.follows is

pub returns-in_default : goal.returns-in_default
returns-in_default g c = record {
  held = search rules;
  next = λ recording given f is.
      comes_next recording.version c.args.self.now.ignore recording.bytes given c.args.self.now.ahead _ f.follows is;
}
