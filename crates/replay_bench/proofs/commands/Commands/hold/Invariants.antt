use Rattle.std.proofs.Common.{◌≡◌, ◌+◌, ◌-◌, ◌^◌, ◌<◌, ℕ, Bool, List, [], Option, cond, length}
use Rattle.std.specs.List.{All}
use Rattle.std.specs.Prelude.{IfSome, is_none}
use Rattle.replay_bench.specs.Held.{HasOffsets, IsHeld}
use Rattle.replay_bench.specs.Journals.{IsCommand}
use Rattle.replay_bench.specs.Reading.{HasReadOn}
use Rattle.replay_bench.proofs.commands.Commands.hold.Given as goal

abbrev pub invariant-loop-next : goal.invariant-loop-next
invariant-loop-next g l = record {
  fits : l.self.survey.size < 2 ^ 64;
  version : g.S.Source.version l.self.source ≡ g.S.Source.version l.fn.self.source;
  limit : g.S.Source.limit l.self.source ≡ g.S.Source.limit l.fn.self.source;
  side : l.self.side ≡ l.fn.self.side;
  same : l.self.version ≡ l.fn.self.version;
  command : IfSome l.next IsCommand;
  are_commands : All IsCommand l.held.commands.items;
  long : length l.held.offsets.items ≡ length l.held.commands.items;
  count : IfSome l.next (λ command. l.self.survey.commands ≡ l.fn.self.survey.commands + length l.held.offsets.items);
  read : (is_strict : Bool) (first : Option (List ℕ))
      → HasReadOn l.fn.self.version is_strict first (is_none l.fn.next) (g.S.Source.coming l.fn.self.source)
      l.fn.self.survey
      → HasReadOn l.fn.self.version is_strict first (is_none l.next) (g.S.Source.coming l.self.source) l.self.survey;
  held : (first : Option (List ℕ)) (index : ℕ)
      → IsHeld l.fn.self.version first index [] l.fn.next (g.S.Source.coming l.fn.self.source)
      → IsHeld l.fn.self.version first index l.held.commands.items l.next (g.S.Source.coming l.self.source);
  offsets : (is_strict : Bool) (first : Option (List ℕ))
      → HasReadOn l.fn.self.version is_strict first (is_none l.fn.next) (g.S.Source.coming l.fn.self.source)
      l.fn.self.survey
      → HasOffsets l.fn.self.version first l.fn.self.survey.commands l.held.offsets.items;
}

abbrev pub decreases-loop-next : goal.decreases-loop-next
decreases-loop-next g l = cond (is_none l.next) 0 ((2 ^ 64 - l.self.survey.size) + 1)
