use Rattle.std.proofs.Common.{◌≡◌, ◌<◌, length, sym, ◌∙◌, rules}
use Rattle.std.proofs.lemmas.List.{nil_from_length}
use Rattle.explain_lines.specs.Explanation.{raw}
use Rattle.explain_lines.proofs.Records.{accepts_nothing, accepts_stop, raw_turn, record_front}
use Rattle.explain_lines.proofs.payload.is_message.Goals as goal

pub returns-in_default : goal.returns-in_default
returns-in_default c =
    let some : 0 < length c.loop-rest.rest.now = search rules in
    sym (accepts_stop c.args.left raw c.loop-rest.rest.now some c.in_default.ensures) ∙ c.loop-rest.invariant

pub loop-rest-smaller : goal.loop-rest-smaller
loop-rest-smaller c = (record_front c.args.left c.loop-rest.rest.now _ c.in-Some.after.now c.in-Some.ensures).shorter

pub loop-rest-preserved : goal.loop-rest-preserved
loop-rest-preserved c = sym (raw_turn c.args.left c.loop-rest.rest.now _ c.in-Some.after.now c.in-Some.ensures)
    ∙ c.loop-rest.invariant

pub returns : goal.returns
returns c =
    let nil : length c.loop-rest.rest.now ≡ 0 = search rules in
    sym (accepts_nothing c.args.left raw c.loop-rest.rest.now (nil_from_length c.loop-rest.rest.now nil))
    ∙ c.loop-rest.invariant
