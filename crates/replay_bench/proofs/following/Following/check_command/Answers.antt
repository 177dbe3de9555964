use Rattle.std.proofs.Common.{◌∙◌, ap, arith, refl}
use Rattle.replay_bench.specs.declared.following.Following.{Following}
use Rattle.replay_bench.proofs.Replays.{index_small, mismatch_errs, mismatches, passes_alike, said_of}
use Rattle.replay_bench.proofs.following.Following.check_command.Goals as goal

pub compare-requires-clause-index : goal.compare-requires-clause-index
compare-requires-clause-index g c =
    let (recording, given, f) = c.requires.followed in
    index_small g.S.Source.version g.S.Source.limit g.S.Source.coming g.S.Source.may_fail recording given _
    (c.in_ok-read_ahead.ensures.followed recording given f)

pub overflow_add-self : goal.overflow_add-self
overflow_add-self g c =
    let (recording, given, f) = c.requires.followed in
    omega (
      arith,
      index_small g.S.Source.version g.S.Source.limit g.S.Source.coming g.S.Source.may_fail recording given _
          (c.in_ok-read_ahead.ensures.followed recording given f),
    )

pub returns-in-Ok-None : goal.returns-in-Ok-None
returns-in-Ok-None g c = λ recording given item f item_is sum.
    let mid = c.read_ahead.new.self in
    let same = c.in_ok-read_ahead.ensures.same in
    let returns = rw c.in-Ok-None.field-0-is at c.in-Ok-None.ensures in (
      passes_alike g.S.Source.version g.S.Source.limit g.S.Source.coming g.S.Source.may_fail
          recording given item _ item_is mid
          (c.in_ok-read_ahead.ensures.followed recording given f) c.in_ok-read_ahead.ensures.ahead c.args.size
          (omega (arith, sum, ap (λ (s : Following _). s.size) same)) c.requires.fits returns,
      ap (λ (s : Following _). s.ignore) same,
      ap (λ (s : Following _). s.has_said) same ∙ c.requires.said,
    )

pub returns-in-Ok-Some : goal.returns-in-Ok-Some
returns-in-Ok-Some g c = λ recording given item f item_is sum.
    let mid = c.read_ahead.new.self in
    let ignore = ap (λ (s : Following _). s.ignore) c.in_ok-read_ahead.ensures.same in
    let after = c.in_ok-read_ahead.ensures.followed recording given f in
    let returns = rw c.in-Ok-Some.field-0-is at c.in-Ok-Some.ensures in
    rw (← ignore) (
      mismatches g.S.Source.version g.S.Source.limit g.S.Source.coming g.S.Source.may_fail recording given item _
          item_is mid after c.in_ok-read_ahead.ensures.ahead c.in-Ok-Some.found _ returns refl refl
          c.last_command.ensures refl,
      (
        said_of g.S.Source.version g.S.Source.limit g.S.Source.coming g.S.Source.may_fail recording given mid _ after,
        refl,
        refl,
      ),
    )

pub returns-in-Err : goal.returns-in-Err
returns-in-Err g c = λ recording given item f item_is sum.
    let mid = c.read_ahead.new.self in
    let ignore = ap (λ (s : Following _). s.ignore) c.in_ok-read_ahead.ensures.same in
    let after = c.in_ok-read_ahead.ensures.followed recording given f in
    rw (← ignore) (
      mismatch_errs g.S.Source.version g.S.Source.limit g.S.Source.coming g.S.Source.may_fail recording given item _
          item_is mid after c.in_ok-read_ahead.ensures.ahead c.in-Err.error c.in-Err.ensures,
      tt,
      (
        said_of g.S.Source.version g.S.Source.limit g.S.Source.coming g.S.Source.may_fail recording given mid _ after,
        refl,
        c.is_malformed-self.ensures,
      ),
    )
