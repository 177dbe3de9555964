use Rattle.std.proofs.Common.{◌≡◌, ◌+◌, ◌-◌, ◌^◌, ◌<◌, ℕ, Bool, List, Option, cond}
use Rattle.replay_bench.specs.Reading.{HasReadOn}
use Rattle.replay_bench.proofs.commands.Commands.finish.Given as goal

abbrev pub invariant-loop-has_ended : goal.invariant-loop-has_ended
invariant-loop-has_ended g l = record {
  fits : l.self.survey.size < 2 ^ 64;
  version : g.S.Source.version l.self.source ≡ g.S.Source.version l.fn.self.source;
  limit : g.S.Source.limit l.self.source ≡ g.S.Source.limit l.fn.self.source;
  side : l.self.side ≡ l.fn.self.side;
  same : l.self.version ≡ l.fn.self.version;
  read : (is_strict : Bool) (first : Option (List ℕ))
      → HasReadOn l.fn.self.version is_strict first l.fn.has_ended (g.S.Source.coming l.fn.self.source)
      l.fn.self.survey
      → HasReadOn l.fn.self.version is_strict first l.has_ended (g.S.Source.coming l.self.source) l.self.survey;
}

abbrev pub decreases-loop-has_ended : goal.decreases-loop-has_ended
decreases-loop-has_ended g l = cond l.has_ended 0 ((2 ^ 64 - l.self.survey.size) + 1)
