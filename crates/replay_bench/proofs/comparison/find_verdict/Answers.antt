use Rattle.std.proofs.Common.{◌∙◌, arith, sym}
use Rattle.std.proofs.lemmas.Result.{err_from_is_err_and}
use Rattle.replay_bench.proofs.Endings.{both_go_on, ends_next, goes_after, returns_next_error, returns_verdict}
use Rattle.replay_bench.proofs.Places.{after_more, fields_next}
use Rattle.replay_bench.proofs.Readings.{on_more}
use Rattle.replay_bench.proofs.Rejections.{fails_recorded, fails_replayed, rejects_recorded, rejects_replayed}
use Rattle.replay_bench.proofs.Saying.{said_next}
use Rattle.replay_bench.proofs.Seen.{seen_next}
use Rattle.replay_bench.proofs.Stops.{stops}
use Rattle.replay_bench.proofs.comparison.find_verdict.Goals as goal

pub next_command-requires-clause-same : goal.next_command-requires-clause-same
next_command-requires-clause-same g c = c.loop-replayed.invariant.version ∙ sym c.loop-replayed.invariant.same

pub next_command-requires-clause-read : goal.next_command-requires-clause-read
next_command-requires-clause-read g c =
    let inv = c.loop-replayed.invariant in
    (c.args.options.is_strict, g.A.Source.coming c.args.journals.recorded, rw inv.same inv.read)

pub compare-requires-clause-index : goal.compare-requires-clause-index
compare-requires-clause-index g c =
    omega (arith, c.loop-replayed.invariant.longer, c.loop-replayed.invariant.fits)

pub returns-in_err-recorded_next-clause-compared : goal.returns-in_err-recorded_next-clause-compared
returns-in_err-recorded_next-clause-compared g c =
    let inv = c.loop-replayed.invariant in
    let from = err_from_is_err_and c.from_residual.result c.from_residual.ensures.1 in
    let rejected = rw inv.same at c.in_err-recorded_next.ensures.rejected in
    rw (from.1, from.2) (rejects_recorded _ _ _ _ _ _ _ _ inv.side (rejected _ _ inv.read))

pub returns-in_err-recorded_next-clause-failed : goal.returns-in_err-recorded_next-clause-failed
returns-in_err-recorded_next-clause-failed g c =
    let inv = c.loop-replayed.invariant in
    let from = err_from_is_err_and c.from_residual.result c.from_residual.ensures.1 in
    let rejected = rw (inv.same, inv.limit) at c.in_err-recorded_next.ensures.rejected in
    rw (from.1, from.2) (fails_recorded _ _ _ _ _ _ _ _ inv.side (rejected _ _ inv.read))

pub returns-in_err-replayed_next-clause-compared : goal.returns-in_err-replayed_next-clause-compared
returns-in_err-replayed_next-clause-compared g c =
    let inv = c.loop-replayed.invariant in
    let from = err_from_is_err_and c.from_residual-in_err-replayed_next.result
    c.from_residual-in_err-replayed_next.ensures.1 in
    let rejected = rw inv.other_same at c.in_err-replayed_next.ensures.rejected in
    rw (from.1, from.2) (rejects_replayed _ _ _ _ _ _ _ _ inv.other_side (rejected _ _ inv.other_read))

pub returns-in_err-replayed_next-clause-failed : goal.returns-in_err-replayed_next-clause-failed
returns-in_err-replayed_next-clause-failed g c =
    let inv = c.loop-replayed.invariant in
    let from = err_from_is_err_and c.from_residual-in_err-replayed_next.result
    c.from_residual-in_err-replayed_next.ensures.1 in
    let rejected = rw (inv.other_same, inv.other_limit) at c.in_err-replayed_next.ensures.rejected in
    rw (from.1, from.2) (fails_replayed _ _ _ _ _ _ _ _ inv.other_side (rejected _ _ inv.other_read))

pub returns-in_err-found-clause-compared : goal.returns-in_err-found-clause-compared
returns-in_err-found-clause-compared g c =
    let inv = c.loop-replayed.invariant in
    let one = rw inv.same at c.in_ok-recorded_next.ensures.taken in
    let other = rw inv.other_same at c.in_ok-replayed_next.ensures.taken in
    let from = err_from_is_err_and c.from_residual-in_err-found.result c.from_residual-in_err-found.ensures.1 in
    rw (from.1, from.2) (returns_next_error _ _ _ _ _ _ _ _ _ _ _ _ _ inv.goes_on one other c.in_err-found.ensures)

pub returns-in-Some-clause-compared : goal.returns-in-Some-clause-compared
returns-in-Some-clause-compared g c =
    let inv = c.loop-replayed.invariant in
    let one = rw inv.same at c.in_ok-recorded_next.ensures.taken in
    let other = rw inv.other_same at c.in_ok-replayed_next.ensures.taken in
    let found = rw c.in-Some.is at c.in_ok-found.ensures in
    returns_verdict _ _ _ _ _ (ends_next _ _ _ _ _ _ _ _ _ _ _ _ _ inv.goes_on one other found)

pub returns-in-Some-clause-fields : goal.returns-in-Some-clause-fields
returns-in-Some-clause-fields g c is_listed =
    let inv = c.loop-replayed.invariant in
    let one = rw inv.same at c.in_ok-recorded_next.ensures.taken in
    let other = rw inv.other_same at c.in_ok-replayed_next.ensures.taken in
    let found = rw c.in-Some.is at c.in_ok-found.ensures in
    fields_next c.args.journals.version _ _ _ _ _ _ _ _ _ _ _ _ inv.after inv.other_after one other found is_listed

pub returns-in-Some-clause-said : goal.returns-in-Some-clause-said
returns-in-Some-clause-said g c is_listed =
    said_next c.args.journals.version _ _ _ _ _ _ (rw c.in-Some.is at c.in_ok-found.ensures) is_listed

pub returns-in-Some-clause-recorded : goal.returns-in-Some-clause-recorded
returns-in-Some-clause-recorded g c =
    let inv = c.loop-replayed.invariant in
    let reads = rw inv.same at c.in_ok-recorded_next.ensures.read in
    let seen = seen_next c.args.journals.version _ _ _ _ _ _ (rw c.in-Some.is at c.in_ok-found.ensures) in
    rw (seen.recorded_goes, seen.recorded) (record {
      side_is = c.in_ok-recorded_next.ensures.side ∙ inv.side;
      noted_is = c.in_ok-recorded_next.ensures.same ∙ inv.same;
      version_is = c.in_ok-recorded_next.ensures.version ∙ inv.version;
      fits = c.in_ok-recorded_next.ensures.fits;
      read_on = reads _ _ inv.read;
      counted = omega (arith, c.in_ok-recorded_next.ensures.commands, inv.commands);
    })

pub returns-in-Some-clause-replayed : goal.returns-in-Some-clause-replayed
returns-in-Some-clause-replayed g c =
    let inv = c.loop-replayed.invariant in
    let reads = rw inv.other_same at c.in_ok-replayed_next.ensures.read in
    let seen = seen_next c.args.journals.version _ _ _ _ _ _ (rw c.in-Some.is at c.in_ok-found.ensures) in
    rw (seen.replayed_goes, seen.replayed) (record {
      side_is = c.in_ok-replayed_next.ensures.side ∙ inv.other_side;
      noted_is = c.in_ok-replayed_next.ensures.same ∙ inv.other_same;
      version_is = c.in_ok-replayed_next.ensures.version ∙ inv.other_version;
      fits = c.in_ok-replayed_next.ensures.fits;
      read_on = reads _ _ inv.other_read;
      counted = omega (arith, c.in_ok-replayed_next.ensures.commands, inv.other_commands);
    })

pub returns-in-Some-clause-stopped : goal.returns-in-Some-clause-stopped
returns-in-Some-clause-stopped g c =
    let inv = c.loop-replayed.invariant in
    let next = rw inv.same at c.in_ok-recorded_next.ensures.taken in
    let seen = seen_next c.args.journals.version _ _ _ _ _ _ (rw c.in-Some.is at c.in_ok-found.ensures) in
    rw seen.stopped
    (stops c.args.journals.version _ _ _ _ _ _ inv.after next c.in_ok-recorded_next.ensures.command
    (sym seen.recorded_goes))

pub returns-in-Some-clause-other_stopped : goal.returns-in-Some-clause-other_stopped
returns-in-Some-clause-other_stopped g c =
    let inv = c.loop-replayed.invariant in
    let next = rw inv.other_same at c.in_ok-replayed_next.ensures.taken in
    let seen = seen_next c.args.journals.version _ _ _ _ _ _ (rw c.in-Some.is at c.in_ok-found.ensures) in
    rw seen.stopped
    (stops c.args.journals.version _ _ _ _ _ _ inv.other_after next c.in_ok-replayed_next.ensures.command
    (sym seen.replayed_goes))

pub loop-replayed-preserved : goal.loop-replayed-preserved
loop-replayed-preserved g c =
    let inv = c.loop-replayed.invariant in
    let (one, other, is, is_other, alike) = both_go_on c.args.journals.version _ _ _ _ _
    (rw c.in_default.is at c.in_ok-found.ensures) in
    let taken = rw (inv.same, is) at c.in_ok-recorded_next.ensures.taken in
    let other_taken = rw (inv.other_same, is_other) at c.in_ok-replayed_next.ensures.taken in
    let longer = rw is at c.in_ok-recorded_next.ensures.longer in
    let reads = rw (inv.same, is) at c.in_ok-recorded_next.ensures.read in
    let other_reads = rw (inv.other_same, is_other) at c.in_ok-replayed_next.ensures.read in
    let commands = rw is at c.in_ok-recorded_next.ensures.commands in
    let other_commands = rw is_other at c.in_ok-replayed_next.ensures.commands in
    record {
      version = c.in_ok-recorded_next.ensures.version ∙ inv.version;
      other_version = c.in_ok-replayed_next.ensures.version ∙ inv.other_version;
      limit = c.in_ok-recorded_next.ensures.limit ∙ inv.limit;
      other_limit = c.in_ok-replayed_next.ensures.limit ∙ inv.other_limit;
      same = c.in_ok-recorded_next.ensures.same ∙ inv.same;
      other_same = c.in_ok-replayed_next.ensures.same ∙ inv.other_same;
      side = c.in_ok-recorded_next.ensures.side ∙ inv.side;
      other_side = c.in_ok-replayed_next.ensures.side ∙ inv.other_side;
      fits = c.in_ok-recorded_next.ensures.fits;
      other_fits = c.in_ok-replayed_next.ensures.fits;
      longer = omega (arith, inv.longer, longer);
      commands = omega (arith, commands, inv.commands);
      other_commands = omega (arith, other_commands, inv.other_commands);
      read = on_more _ _ _ _ _ (reads _ _ inv.read);
      other_read = on_more _ _ _ _ _ (other_reads _ _ inv.other_read);
      after = after_more _ _ _ _ _ _ inv.after taken;
      other_after = after_more _ _ _ _ _ _ inv.other_after other_taken;
      goes_on = goes_after _ _ _ _ _ _ _ _ _ _ _ inv.goes_on taken other_taken alike;
    }
