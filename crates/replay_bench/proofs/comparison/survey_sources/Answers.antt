use Rattle.std.proofs.Common.{refl}
use Rattle.std.proofs.lemmas.Result.{err_from_is_err_and}
use Rattle.replay_bench.specs.Verdicts.{recorded_ended, replayed_ended}
use Rattle.replay_bench.proofs.Readings.{finished, on_last, rejected_on}
use Rattle.replay_bench.proofs.Rejections.{fails_recorded, fails_replayed, rejects_recorded, rejects_replayed}
use Rattle.replay_bench.proofs.Stops.{type_at}
use Rattle.replay_bench.proofs.comparison.survey_sources.Goals as goal

pub returns-clause-compared : goal.returns-clause-compared
returns-clause-compared g c =
    let v = c.args.journals.version in
    let verdict = c.in_ok-stopped.stopped.found.verdict in
    let recorded = c.in_ok-stopped.ensures.recorded in
    let replayed = c.in_ok-stopped.ensures.replayed in
    record {
      verdict = c.in_ok-stopped.ensures.compared;
      fields = c.in_ok-stopped.ensures.fields refl;
      said = rw (c.type_of-recorded_type.ensures, c.type_of-replayed_type.ensures) (c.in_ok-stopped.ensures.said refl);
      recorded_typed = rw c.type_of-recorded_type.ensures (type_at v _ _ _ _ _ c.in_ok-stopped.ensures.stopped);
      replayed_typed = rw c.type_of-replayed_type.ensures (type_at v _ _ _ _ _ c.in_ok-stopped.ensures.other_stopped);
      recorded_survey = finished v _ c.args.options.is_strict _ _ (recorded_ended verdict) _ _ c.in_ok-recorded.recorded
          recorded.noted_is c.has_recorded_ended.ensures recorded.read_on c.in_ok-recorded.ensures.survey;
      replayed_survey = finished v _ c.args.options.is_strict _ _ (replayed_ended verdict) _ _ c.in_ok-replayed.replayed
          replayed.noted_is c.has_replayed_ended.ensures replayed.read_on c.in_ok-replayed.ensures.survey;
      recorded_last = on_last v _ _ _ _ _ _ _ recorded.read_on recorded.counted
          c.last_command-recorded_at.ensures;
      replayed_last = on_last v _ _ _ _ _ _ _ replayed.read_on replayed.counted
          c.last_command-replayed_at.ensures;
    }

pub returns-in_err-recorded-clause-compared : goal.returns-in_err-recorded-clause-compared
returns-in_err-recorded-clause-compared g c =
    let recorded = c.in_ok-stopped.ensures.recorded in
    let from = err_from_is_err_and c.from_residual-in_err-recorded.result
    c.from_residual-in_err-recorded.ensures.1 in
    rw (from.1, from.2) (rejects_recorded _ _ _ _ _ _ _ _ recorded.side_is
    (rejected_on c.args.journals.version _ c.args.options.is_strict _ _ _ _ _ _ _ _ _ recorded.noted_is
    c.has_recorded_ended.ensures recorded.read_on c.in_err-recorded.ensures.rejected))

pub returns-in_err-recorded-clause-failed : goal.returns-in_err-recorded-clause-failed
returns-in_err-recorded-clause-failed g c =
    let recorded = c.in_ok-stopped.ensures.recorded in
    let from = err_from_is_err_and c.from_residual-in_err-recorded.result
    c.from_residual-in_err-recorded.ensures.1 in
    let rejected = rw c.in_ok-stopped.ensures.limit at c.in_err-recorded.ensures.rejected in
    rw (from.1, from.2) (fails_recorded _ _ _ _ _ _ _ _ recorded.side_is
    (rejected_on c.args.journals.version _ c.args.options.is_strict _ _ _ _ _ _ _ _ _ recorded.noted_is
    c.has_recorded_ended.ensures recorded.read_on rejected))

pub returns-in_err-replayed-clause-compared : goal.returns-in_err-replayed-clause-compared
returns-in_err-replayed-clause-compared g c =
    let replayed = c.in_ok-stopped.ensures.replayed in
    let from = err_from_is_err_and c.from_residual-in_err-replayed.result
    c.from_residual-in_err-replayed.ensures.1 in
    rw (from.1, from.2) (rejects_replayed _ _ _ _ _ _ _ _ replayed.side_is
    (rejected_on c.args.journals.version _ c.args.options.is_strict _ _ _ _ _ _ _ _ _ replayed.noted_is
    c.has_replayed_ended.ensures replayed.read_on c.in_err-replayed.ensures.rejected))

pub returns-in_err-replayed-clause-failed : goal.returns-in_err-replayed-clause-failed
returns-in_err-replayed-clause-failed g c =
    let replayed = c.in_ok-stopped.ensures.replayed in
    let from = err_from_is_err_and c.from_residual-in_err-replayed.result
    c.from_residual-in_err-replayed.ensures.1 in
    let rejected = rw c.in_ok-stopped.ensures.other_limit at c.in_err-replayed.ensures.rejected in
    rw (from.1, from.2) (fails_replayed _ _ _ _ _ _ _ _ replayed.side_is
    (rejected_on c.args.journals.version _ c.args.options.is_strict _ _ _ _ _ _ _ _ _ replayed.noted_is
    c.has_replayed_ended.ensures replayed.read_on rejected))
