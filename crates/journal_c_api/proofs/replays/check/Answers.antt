use Rattle.std.proofs.Common.{◌∙◌, sym}
use Rattle.std.proofs.lemmas.Bool.{le-ltb}
use Rattle.journal_c_api.proofs.FollowedReplays.{checked_left}
use Rattle.journal_c_api.proofs.replays.check.Goals as goal

pub returns-in-Some-2 : goal.returns-in-Some-2
returns-in-Some-2 c =
    let place = c.in_ok-place.ensures.ok in
    checked_left c.args.code c.args.recorded.now c.args.payload.now c.args.replay.now c.in_ok-place.place place.0
    place.1 c.in_ok-rules.rules c.in_ok-rules.ensures (le-ltb _ _ c.if-place-gt0.false)
    (sym c.is_beyond.ensures ∙ c.if-is_beyond.false) c.in-Some.ty (c.in-Some.ensures.1 c.args.payload.now)
    c.commands_around-around.result c.commands_around-around.ensures.around c.in-Some-next.next c.in-Some-next.is
    c.in_ok-report.field-0 c.in_ok-report.ensures c.in-Some-2.report c.in-Some-2.is c.left-in-Some-2.result
    c.left-in-Some-2.ensures
