use Rattle.std.proofs.Common.{◌++◌, ◌∷◌, [], ◌∙◌, ap, false, refl}
use Rattle.std.proofs.lemmas.Result.{err_from_is_err_and}
use Rattle.replay_bench.specs.declared.following.Following.{Following}
use Rattle.replay_bench.specs.declared.verdicts.Side.TheVariants.{Recorded, Replayed}
use Rattle.replay_bench.proofs.Readings.{known_next}
use Rattle.replay_bench.proofs.Rejections.{fails_recorded, rejects_recorded, rejects_replayed}
use Rattle.replay_bench.proofs.Replays.{ended_known, fails_both, fails_result, replayed_rejects, said_known, sizes_fall}
use Rattle.replay_bench.proofs.comparison.compare_sources.Goals as goal

pub returns-in_err-read_ahead-clause-compared : goal.returns-in_err-read_ahead-clause-compared
returns-in_err-read_ahead-clause-compared g c =
    let inv = c.loop-following.invariant in
    let (given, f, then) = inv.followed in
    let from = err_from_is_err_and c.from_residual.result c.from_residual.ensures.1 in
    rw (from.1, from.2) (rejects_recorded _ _ _ _ _ _ Recorded _ refl
    (c.in_err-read_ahead.ensures.rejected _ given f))

pub returns-in_err-read_ahead-clause-failed : goal.returns-in_err-read_ahead-clause-failed
returns-in_err-read_ahead-clause-failed g c =
    let inv = c.loop-following.invariant in
    let (given, f, then) = inv.followed in
    let from = err_from_is_err_and c.from_residual.result c.from_residual.ensures.1 in
    rw (from.1, from.2) (fails_recorded _ _ _ _ _ _ Recorded _ refl
    (c.in_err-read_ahead.ensures.rejected _ given f))

pub finish-requires : goal.finish-requires
finish-requires g c =
    let inv = c.loop-following.invariant in
    let (given, f, then) = inv.followed in
    (_, given, c.in_ok-read_ahead.ensures.followed _ given f)

pub check-requires : goal.check-requires
check-requires g c =
    let inv = c.loop-following.invariant in
    let (given, f, then) = inv.followed in
    (_, given, c.in_ok-read_ahead.ensures.followed _ given f)

pub returns-in-Ok-End-clause-compared : goal.returns-in-Ok-End-clause-compared
returns-in-Ok-End-clause-compared g c =
    let inv = c.loop-following.invariant in
    let (given, f, then) = inv.followed in
    let same = c.in_ok-read_ahead.ensures.same in
    let ignore = ap (λ (s : Following _). s.ignore) same ∙ inv.ignore in
    let after = c.in_ok-read_ahead.ensures.followed _ given f in
    let ends = rw (c.in-Ok-End.field-0-is, inv.version) at c.in-Ok-End.ensures.next in
    let (said, fails, stands) = c.finish.ensures _ given after in
    rw (← ignore)
    (ended_known c.args.journals.version c.read_ahead.new.self.ignore _ _ _ given _ _ said then ends)

pub returns-in-Ok-End-clause-failed : goal.returns-in-Ok-End-clause-failed
returns-in-Ok-End-clause-failed g c =
    let inv = c.loop-following.invariant in
    let (given, f, then) = inv.followed in
    let same = c.in_ok-read_ahead.ensures.same in
    let ignore = ap (λ (s : Following _). s.ignore) same ∙ inv.ignore in
    let after = c.in_ok-read_ahead.ensures.followed _ given f in
    let (said, fails, stands) = c.finish.ensures _ given after in
    fails_result _ _ _ _ _ fails

pub returns-in-Err-clause-compared : goal.returns-in-Err-clause-compared
returns-in-Err-clause-compared g c =
    let inv = c.loop-following.invariant in
    let (given, f, then) = inv.followed in
    let next = rw (inv.version, inv.limit) at c.in-Err.ensures.next in
    rw c.reader_error.ensures (rejects_replayed _ _ _ _ _ _ Replayed _ refl
    (replayed_rejects c.args.journals.version c.args.ignore _ _ _ _ given c.in-Err.error then next))

pub returns-in_err-mismatch-clause-compared : goal.returns-in_err-mismatch-clause-compared
returns-in_err-mismatch-clause-compared g c =
    let inv = c.loop-following.invariant in
    let (given, f, then) = inv.followed in
    let same = c.in_ok-read_ahead.ensures.same in
    let ignore = ap (λ (s : Following _). s.ignore) same ∙ inv.ignore in
    let after = c.in_ok-read_ahead.ensures.followed _ given f in
    let unsaid = ap (λ (s : Following _). s.has_said) same ∙ inv.said in
    let taken = rw (c.in-Ok-Item.field-0-is, inv.version) at c.in-Ok-Item.ensures.next in
    let takes = known_next c.args.journals.version false _ _ _ given c.in-Ok-Item.item then taken in
    let from = err_from_is_err_and c.from_residual-in_err-mismatch.result
    c.from_residual-in_err-mismatch.ensures.1 in
    let (said, fails, stands) = c.in_err-mismatch.ensures.checked _ given after unsaid in
    rw (from.1, from.2, ← ignore)
    (said_known c.args.journals.version c.read_ahead.new.self.ignore _ _ _ (given ++ c.in-Ok-Item.item ∷ []) _ said
    takes)

pub returns-in_err-mismatch-clause-failed : goal.returns-in_err-mismatch-clause-failed
returns-in_err-mismatch-clause-failed g c =
    let inv = c.loop-following.invariant in
    let (given, f, then) = inv.followed in
    let same = c.in_ok-read_ahead.ensures.same in
    let ignore = ap (λ (s : Following _). s.ignore) same ∙ inv.ignore in
    let after = c.in_ok-read_ahead.ensures.followed _ given f in
    let unsaid = ap (λ (s : Following _). s.has_said) same ∙ inv.said in
    let taken = rw (c.in-Ok-Item.field-0-is, inv.version) at c.in-Ok-Item.ensures.next in
    let takes = known_next c.args.journals.version false _ _ _ given c.in-Ok-Item.item then taken in
    let from = err_from_is_err_and c.from_residual-in_err-mismatch.result
    c.from_residual-in_err-mismatch.ensures.1 in
    let (said, fails, stands) = c.in_err-mismatch.ensures.checked _ given after unsaid in
    rw (from.1, from.2) (fails_both _ _ _ _ _ fails)

pub returns-in-Some-clause-compared : goal.returns-in-Some-clause-compared
returns-in-Some-clause-compared g c =
    let inv = c.loop-following.invariant in
    let (given, f, then) = inv.followed in
    let same = c.in_ok-read_ahead.ensures.same in
    let ignore = ap (λ (s : Following _). s.ignore) same ∙ inv.ignore in
    let after = c.in_ok-read_ahead.ensures.followed _ given f in
    let unsaid = ap (λ (s : Following _). s.has_said) same ∙ inv.said in
    let taken = rw (c.in-Ok-Item.field-0-is, inv.version) at c.in-Ok-Item.ensures.next in
    let takes = known_next c.args.journals.version false _ _ _ given c.in-Ok-Item.item then taken in
    let checked = rw c.in-Some.is at c.in_ok-mismatch.ensures.checked in
    let (is, stands) = checked _ given after unsaid in
    rw (← ignore)
    (said_known c.args.journals.version c.read_ahead.new.self.ignore _ _ _ (given ++ c.in-Ok-Item.item ∷ []) _
    is.verdict takes)

pub loop-following-smaller : goal.loop-following-smaller
loop-following-smaller g c =
    let inv = c.loop-following.invariant in
    let (given, f, then) = inv.followed in
    let same = c.in_ok-read_ahead.ensures.same in
    let ignore = ap (λ (s : Following _). s.ignore) same ∙ inv.ignore in
    let after = c.in_ok-read_ahead.ensures.followed _ given f in
    let unsaid = ap (λ (s : Following _). s.has_said) same ∙ inv.said in
    let taken = rw (c.in-Ok-Item.field-0-is, inv.version) at c.in-Ok-Item.ensures.next in
    let takes = known_next c.args.journals.version false _ _ _ given c.in-Ok-Item.item then taken in
    let checked = rw c.in_default.is at c.in_ok-mismatch.ensures.checked in
    let (now, kept, said) = checked _ given after unsaid in
    sizes_fall _ _ _ _ _ given c.in-Ok-Item.item _ _ f now

pub loop-following-preserved : goal.loop-following-preserved
loop-following-preserved g c =
    let inv = c.loop-following.invariant in
    let (given, f, then) = inv.followed in
    let same = c.in_ok-read_ahead.ensures.same in
    let ignore = ap (λ (s : Following _). s.ignore) same ∙ inv.ignore in
    let after = c.in_ok-read_ahead.ensures.followed _ given f in
    let unsaid = ap (λ (s : Following _). s.has_said) same ∙ inv.said in
    let taken = rw (c.in-Ok-Item.field-0-is, inv.version) at c.in-Ok-Item.ensures.next in
    let takes = known_next c.args.journals.version false _ _ _ given c.in-Ok-Item.item then taken in
    let checked = rw c.in_default.is at c.in_ok-mismatch.ensures.checked in
    let (now, kept, said) = checked _ given after unsaid in
    record {
      version = c.in-Ok-Item.ensures.version ∙ inv.version;
      limit = c.in-Ok-Item.ensures.limit ∙ inv.limit;
      ignore = kept ∙ ignore;
      said = said;
      followed = (given ++ c.in-Ok-Item.item ∷ [], now, takes);
    }
