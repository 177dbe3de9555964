use Rattle.std.proofs.Common.{◌∙◌, ap}
use Rattle.std.proofs.lemmas.Bool.{le-ltb}
use Rattle.journal_c_api.specs.Outcomes.{written_over}
use Rattle.journal_c_api.proofs.FollowedReplays.{expected_written}
use Rattle.journal_c_api.proofs.replays.write_expected.Goals as goal

pub returns : goal.returns
returns c =
    let place = c.in_ok-place.ensures.ok in
    expected_written c.args.recorded.now c.args.replay.now c.args.command.now c.write_over.new.out c.in_ok-place.place
    place.0 place.1 c.in_ok-rules.rules c.in_ok-rules.ensures c.commands_around.result c.commands_around.ensures.around
    c.if-is_none.ensures (le-ltb _ _ c.if-command-lt-COMMAND_NUMBERS.false)
    (c.write_over.ensures ∙ ap (λ l. written_over l c.args.command.now) c.numbers_of.ensures)
