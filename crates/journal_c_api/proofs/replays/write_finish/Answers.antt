use Rattle.std.proofs.Common.{◌∙◌, ap}
use Rattle.std.proofs.lemmas.Bool.{le-ltb}
use Rattle.journal_c_api.specs.Outcomes.{written_over}
use Rattle.journal_c_api.proofs.FollowedReplays.{finish_written}
use Rattle.journal_c_api.proofs.replays.write_finish.Goals as goal

pub returns : goal.returns
returns c =
    let place = c.in_ok-place.ensures.ok in
    finish_written c.args.recorded.now c.args.replay.now c.args.mismatch.now c.write_over.new.out c.in_ok-place.place
    place.0 place.1 c.in_ok-rules.rules c.in_ok-rules.ensures c.commands_around.result c.commands_around.ensures.around
    c.if-is_none.ensures (le-ltb _ _ c.if-mismatch-lt-MISMATCH_NUMBERS.false) (le-ltb _ _ c.if-place-gt0.false)
    (c.write_over.ensures ∙ ap (λ l. written_over l c.args.mismatch.now) c.mismatch.ensures)
