use Rattle.std.proofs.Common.{refl}
use Rattle.std.proofs.lemmas.Result.{err_from_is_err_and}
use Rattle.replay_bench.specs.Verdicts.{recorded_ended, replayed_ended, stopped_index}
use Rattle.replay_bench.proofs.Endings.{returns_out_of_memory}
use Rattle.replay_bench.proofs.Readings.{finished, on_last, rejected_on}
use Rattle.replay_bench.proofs.Rejections.{fails_recorded, fails_replayed, rejects_recorded, rejects_replayed}
use Rattle.replay_bench.proofs.Stops.{held_of, type_at}
use Rattle.replay_bench.proofs.aligned.align_sources.Goals as goal

pub returns-clause-aligned : goal.returns-clause-aligned
returns-clause-aligned g c =
    let v = c.args.journals.version in
    let verdict = c.in_ok-stopped.stopped.found.verdict in
    let recorded = c.in_ok-stopped.ensures.recorded in
    let replayed = c.in_ok-stopped.ensures.replayed in
    let stopped = c.in_ok-stopped.ensures.stopped in
    let other_stopped = c.in_ok-stopped.ensures.other_stopped in
    record {
      compared = record {
        verdict = c.in_ok-stopped.ensures.compared;
        fields = c.in_ok-stopped.ensures.fields refl;
        said = rw (c.type_of-recorded_type.ensures, c.type_of-replayed_type.ensures)
            (c.in_ok-stopped.ensures.said refl);
        recorded_typed = rw c.type_of-recorded_type.ensures (type_at v _ _ _ _ _ stopped);
        replayed_typed = rw c.type_of-replayed_type.ensures (type_at v _ _ _ _ _ other_stopped);
        recorded_survey = finished v _ c.args.options.is_strict _ _ (recorded_ended verdict) _ _
            c.in_ok-recorded_held.recorded
            recorded.noted_is stopped.ended recorded.read_on c.in_ok-recorded_held.ensures.survey;
        replayed_survey = finished v _ c.args.options.is_strict _ _ (replayed_ended verdict) _ _
            c.in_ok-replayed_held.replayed
            replayed.noted_is other_stopped.ended replayed.read_on c.in_ok-replayed_held.ensures.survey;
        recorded_last = on_last v _ _ _ _ _ _ _ recorded.read_on recorded.counted
            c.last_command-recorded_at.ensures;
        replayed_last = on_last v _ _ _ _ _ _ _ replayed.read_on replayed.counted
            c.last_command-replayed_at.ensures;
      };
      recorded_held = held_of v _ c.args.options.is_strict _ _ (stopped_index verdict) _ _ _ _
          c.in_ok-recorded_held.recorded_held
          recorded.noted_is stopped recorded.read_on recorded.counted
          c.in_ok-recorded_held.ensures.held c.in_ok-recorded_held.ensures.long
          c.in_ok-recorded_held.ensures.offsets;
      replayed_held = held_of v _ c.args.options.is_strict _ _ (stopped_index verdict) _ _ _ _
          c.in_ok-replayed_held.replayed_held
          replayed.noted_is other_stopped replayed.read_on replayed.counted
          c.in_ok-replayed_held.ensures.held c.in_ok-replayed_held.ensures.long
          c.in_ok-replayed_held.ensures.offsets;
      alignment = rw (c.as_slice.ensures.value, c.as_slice-2.ensures.value) at c.in_ok-alignment.ensures;
    }

pub returns-in_err-alignment-clause-aligned : goal.returns-in_err-alignment-clause-aligned
returns-in_err-alignment-clause-aligned g c =
    let from = err_from_is_err_and c.from_residual-in_err-alignment.result
    c.from_residual-in_err-alignment.ensures.1 in
    rw (from.1, from.2) (returns_out_of_memory _ _ _ _)

pub returns-in_err-recorded_held-clause-aligned : goal.returns-in_err-recorded_held-clause-aligned
returns-in_err-recorded_held-clause-aligned g c =
    let recorded = c.in_ok-stopped.ensures.recorded in
    let from = err_from_is_err_and c.from_residual-in_err-recorded_held.result
    c.from_residual-in_err-recorded_held.ensures.1 in
    rw (from.1, from.2) (rejects_recorded _ _ _ _ _ _ _ _ recorded.side_is
    (rejected_on c.args.journals.version _ c.args.options.is_strict _ _ _ _ _ _ _ _ _ recorded.noted_is
    c.in_ok-stopped.ensures.stopped.ended recorded.read_on c.in_err-recorded_held.ensures.rejected))

pub returns-in_err-recorded_held-clause-failed : goal.returns-in_err-recorded_held-clause-failed
returns-in_err-recorded_held-clause-failed g c =
    let recorded = c.in_ok-stopped.ensures.recorded in
    let from = err_from_is_err_and c.from_residual-in_err-recorded_held.result
    c.from_residual-in_err-recorded_held.ensures.1 in
    let rejected = rw c.in_ok-stopped.ensures.limit at c.in_err-recorded_held.ensures.rejected in
    rw (from.1, from.2) (fails_recorded _ _ _ _ _ _ _ _ recorded.side_is
    (rejected_on c.args.journals.version _ c.args.options.is_strict _ _ _ _ _ _ _ _ _ recorded.noted_is
    c.in_ok-stopped.ensures.stopped.ended recorded.read_on rejected))

pub returns-in_err-replayed_held-clause-aligned : goal.returns-in_err-replayed_held-clause-aligned
returns-in_err-replayed_held-clause-aligned g c =
    let replayed = c.in_ok-stopped.ensures.replayed in
    let from = err_from_is_err_and c.from_residual-in_err-replayed_held.result
    c.from_residual-in_err-replayed_held.ensures.1 in
    rw (from.1, from.2) (rejects_replayed _ _ _ _ _ _ _ _ replayed.side_is
    (rejected_on c.args.journals.version _ c.args.options.is_strict _ _ _ _ _ _ _ _ _ replayed.noted_is
    c.in_ok-stopped.ensures.other_stopped.ended replayed.read_on c.in_err-replayed_held.ensures.rejected))

pub returns-in_err-replayed_held-clause-failed : goal.returns-in_err-replayed_held-clause-failed
returns-in_err-replayed_held-clause-failed g c =
    let replayed = c.in_ok-stopped.ensures.replayed in
    let from = err_from_is_err_and c.from_residual-in_err-replayed_held.result
    c.from_residual-in_err-replayed_held.ensures.1 in
    let rejected = rw c.in_ok-stopped.ensures.other_limit at c.in_err-replayed_held.ensures.rejected in
    rw (from.1, from.2) (fails_replayed _ _ _ _ _ _ _ _ replayed.side_is
    (rejected_on c.args.journals.version _ c.args.options.is_strict _ _ _ _ _ _ _ _ _ replayed.noted_is
    c.in_ok-stopped.ensures.other_stopped.ended replayed.read_on rejected))
