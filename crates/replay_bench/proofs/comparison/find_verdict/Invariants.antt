use Rattle.std.proofs.Common.{◌≡◌, ◌*◌, ◌-◌, ◌^◌, ◌<◌, ◌≤◌}
use Rattle.replay_bench.specs.declared.verdicts.Side.TheVariants.{Recorded, Replayed}
use Rattle.replay_bench.specs.Reading.{HasRead}
use Rattle.replay_bench.proofs.Endings.{GoesOn}
use Rattle.replay_bench.proofs.Places.{IsKnownAfter}
use Rattle.replay_bench.proofs.comparison.find_verdict.Given as goal

abbrev pub invariant-loop-replayed : goal.invariant-loop-replayed
invariant-loop-replayed g l = record {
  version : g.A.Source.version l.recorded.source ≡ l.fn.journals.version;
  other_version : g.B.Source.version l.replayed.source ≡ l.fn.journals.version;
  limit : g.A.Source.limit l.recorded.source ≡ g.A.Source.limit l.fn.journals.recorded;
  other_limit : g.B.Source.limit l.replayed.source ≡ g.B.Source.limit l.fn.journals.replayed;
  same : l.recorded.version ≡ l.fn.journals.version;
  other_same : l.replayed.version ≡ l.fn.journals.version;
  side : l.recorded.side ≡ Recorded;
  other_side : l.replayed.side ≡ Replayed;
  fits : l.recorded.survey.size < 2 ^ 64;
  other_fits : l.replayed.survey.size < 2 ^ 64;
  longer : 8 * l.index ≤ l.recorded.survey.size;
  commands : l.recorded.survey.commands ≡ l.index;
  other_commands : l.replayed.survey.commands ≡ l.index;
  read : HasRead l.fn.journals.version l.fn.options.is_strict (g.A.Source.coming l.fn.journals.recorded)
      (g.A.Source.coming l.recorded.source) 0 l.recorded.survey;
  other_read : HasRead l.fn.journals.version l.fn.options.is_strict (g.B.Source.coming l.fn.journals.replayed)
      (g.B.Source.coming l.replayed.source) 0 l.replayed.survey;
  after : IsKnownAfter l.fn.journals.version (g.A.Source.coming l.fn.journals.recorded) l.index
      (g.A.Source.coming l.recorded.source);
  other_after : IsKnownAfter l.fn.journals.version (g.B.Source.coming l.fn.journals.replayed) l.index
      (g.B.Source.coming l.replayed.source);
  goes_on : GoesOn l.fn.journals.version l.fn.options.ignored (g.A.Source.coming l.fn.journals.recorded)
      (g.B.Source.coming l.fn.journals.replayed) l.index (g.A.Source.coming l.recorded.source)
      (g.B.Source.coming l.replayed.source);
}

abbrev pub decreases-loop-replayed : goal.decreases-loop-replayed
decreases-loop-replayed g l = 2 ^ 64 - l.index
