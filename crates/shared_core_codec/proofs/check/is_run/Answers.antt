use Rattle.std.proofs.Common.{◌≡◌, ◌<◌, length, sym, ◌∙◌, rules}
use Rattle.std.proofs.lemmas.List.{nil_from_length}
use Rattle.shared_core_codec.proofs.Checked.{run_turn, run_stop, run_end}
use Rattle.shared_core_codec.proofs.check.is_run.Goals as goal

pub returns-in_default : goal.returns-in_default
returns-in_default c =
    let some : 0 < length c.loop-rest.rest.now = search rules in
    sym (run_stop c.loop-rest.rest.now some c.in_default.ensures) ∙ c.loop-rest.invariant

pub loop-rest-smaller : goal.loop-rest-smaller
loop-rest-smaller c = (run_turn c.loop-rest.rest.now c.in-Some._number c.in-Some.after.now c.in-Some.ensures).shorter

pub loop-rest-preserved : goal.loop-rest-preserved
loop-rest-preserved c = sym (run_turn c.loop-rest.rest.now c.in-Some._number c.in-Some.after.now c.in-Some.ensures).same
    ∙ c.loop-rest.invariant

pub returns : goal.returns
returns c =
    let nil : length c.loop-rest.rest.now ≡ 0 = search rules in
    sym (run_end c.loop-rest.rest.now (nil_from_length c.loop-rest.rest.now nil)) ∙ c.loop-rest.invariant
