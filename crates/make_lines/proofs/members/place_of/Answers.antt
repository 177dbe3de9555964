use Rattle.std.proofs.Common.{refl, sym, ◌∙◌}
use Rattle.make_lines.specs.Places.{place_of}
use Rattle.make_lines.proofs.Placing.{at_place, past_place}
use Rattle.make_lines.proofs.members.place_of.Goals as goal

pub loop-place-init : goal.loop-place-init
unfolding place_of
loop-place-init c = refl

pub returns-then-eq : goal.returns-then-eq
returns-then-eq c =
    at_place c.names-names.result.now c.loop-place.place _ c.args.key.now c.names-names.ensures c.loop-place-test.true
    c.loop-place.invariant (sym c.eq.ensures ∙ c.if-eq.true)

pub loop-place-preserved : goal.loop-place-preserved
loop-place-preserved c =
    past_place c.names-names.result.now c.loop-place.place _ c.args.key.now c.names-names.ensures
    c.loop-place-test.true c.loop-place.invariant (sym c.eq.ensures ∙ c.if-eq.false)
