use Rattle.std.proofs.Common.{◌≡◌, ◌-◌, ◌^◌, ◌<◌, ◌≤◌, ℕ, Bool, List, Option, None}
use Rattle.replay_bench.specs.Reading.{HasRead}
use Rattle.replay_bench.specs.Taking.{TakesFirst}
use Rattle.replay_bench.proofs.commands.Commands.next_command.Given as goal

abbrev pub invariant-loop-item : goal.invariant-loop-item
invariant-loop-item g l = record {
  fits : l.self.survey.size < 2 ^ 64;
  longer : l.fn.self.survey.size ≤ l.self.survey.size;
  version : g.S.Source.version l.self.source ≡ g.S.Source.version l.fn.self.source;
  limit : g.S.Source.limit l.self.source ≡ g.S.Source.limit l.fn.self.source;
  side : l.self.side ≡ l.fn.self.side;
  same : l.self.version ≡ l.fn.self.version;
  commands : l.self.survey.commands ≡ l.fn.self.survey.commands;
  passed : TakesFirst l.fn.self.version (g.S.Source.coming l.fn.self.source) None (g.S.Source.coming l.self.source);
  read : (is_strict : Bool) (first : Option (List ℕ))
      → HasRead l.fn.self.version is_strict first (g.S.Source.coming l.fn.self.source) 0 l.fn.self.survey
      → HasRead l.fn.self.version is_strict first (g.S.Source.coming l.self.source) 0 l.self.survey;
}

abbrev pub decreases-loop-item : goal.decreases-loop-item
decreases-loop-item g l = 2 ^ 64 - l.self.survey.size
