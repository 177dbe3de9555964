use Rattle.std.proofs.Common.{◌∙◌, ap, refl}
use Rattle.replay_bench.specs.declared.following.Following.{Following}
use Rattle.replay_bench.specs.Replays.{ending}
use Rattle.replay_bench.proofs.Replays.{says_at_end}
use Rattle.replay_bench.proofs.following.Following.finish.Goals as goal

pub returns : goal.returns
returns g c = λ recording given f.
    let mid = c.read_ahead.new.self in
    let same = c.in_ok-read_ahead.ensures.same in
    let ignore = ap (λ (s : Following _). s.ignore) same in
    let after = c.in_ok-read_ahead.ensures.followed recording given f in
    rw (← ignore) (
      says_at_end recording.version mid.ignore recording.bytes mid.ahead _ given _ after.follows
          c.in_ok-read_ahead.ensures.ahead (c.ending.ensures ∙ ap (ending mid.ahead) after.index_is),
      tt,
      (after, refl, ap (λ (s : Following _). s.has_said) same),
    )
