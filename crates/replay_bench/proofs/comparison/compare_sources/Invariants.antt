use Rattle.std.proofs.Common.{◌≡◌, ◌-◌, ◌^◌, false, List}
use Rattle.shared_core_stream.specs.declared.encoding.item.Item.{Item}
use Rattle.replay_bench.specs.Reading.{IsKnownThen}
use Rattle.replay_bench.specs.Replays.{IsFollowing}
use Rattle.replay_bench.proofs.comparison.compare_sources.Given as goal

abbrev pub invariant-loop-following : goal.invariant-loop-following
invariant-loop-following g l = record {
  version : g.B.Source.version l.replayed ≡ l.fn.journals.version;
  limit : g.B.Source.limit l.replayed ≡ g.B.Source.limit l.fn.journals.replayed;
  ignore : l.following.ignore ≡ l.fn.ignore;
  said : l.following.has_said ≡ false;
  followed : (given : List Item) × IsFollowing g.A.Source.version g.A.Source.limit g.A.Source.coming g.A.Source.may_fail
      (record {
        version = l.fn.journals.version;
        limit = g.A.Source.limit l.fn.journals.recorded;
        bytes = g.A.Source.coming l.fn.journals.recorded;
      })
      given l.following
      × IsKnownThen l.fn.journals.version (g.B.Source.coming l.fn.journals.replayed) given
      (g.B.Source.coming l.replayed);
}

abbrev pub decreases-loop-following : goal.decreases-loop-following
decreases-loop-following g l = 2 ^ 64 - l.following.size
