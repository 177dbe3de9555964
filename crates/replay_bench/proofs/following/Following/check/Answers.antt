use Rattle.std.proofs.Common.{arith, refl, sym}
use Rattle.replay_bench.proofs.Replays.{passes, says_long}
use Rattle.replay_bench.proofs.following.Following.check.Goals as goal

pub returns-then-size-clause-checked : goal.returns-then-size-clause-checked
returns-then-size-clause-checked g c = λ recording given f unsaid. (
  says_long g.S.Source.version g.S.Source.limit g.S.Source.coming g.S.Source.may_fail
      recording c.args.self.now.ignore given
      c.args.item.now c.args.self.now.size f.size_is (omega (arith, c.if-size.true, c.size.ensures)),
  tt,
  (f, refl, unsaid),
)

pub returns-in_default-clause-checked : goal.returns-in_default-clause-checked
returns-in_default-clause-checked g c = λ recording given f unsaid.
    let none = rw c.in_default.is at c.command_in.ensures.is in (
      passes g.S.Source.version g.S.Source.limit g.S.Source.coming g.S.Source.may_fail recording given c.args.item.now
          c.args.self.now _ f (sym none) (omega (arith, c.size.ensures)) (omega (arith, c.if-size.false)),
      refl,
      unsaid,
    )
