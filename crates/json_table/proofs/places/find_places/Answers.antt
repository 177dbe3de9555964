use Rattle.std.proofs.Common.{◌∙◌, subst, sym, ap}
use Rattle.json.specs.Json.{Members}
use Rattle.json_table.specs.Entries.{members_len}
use Rattle.json_table.specs.Places.{Say, first_unknown}
use Rattle.json_table.proofs.Placing.{Steps, first_step, step_placed, step_past, unknown_here}
use Rattle.json_table.proofs.places.find_places.Goals as goal

pub loop-next-init : goal.loop-next-init
loop-next-init g c =
    let finds = g.N.Names.finds c.args.names.now in
    subst (λ (rest : Members). Steps finds g.row.COUNT c.args.members.now rest c.args.places.now _)
    (sym c.copy-rest.ensures) (first_step finds g.row.COUNT c.args.members.now c.args.places.now c.requires)

pub returns-in_default-clause-places : goal.returns-in_default-clause-places
returns-in_default-clause-places g c =
    subst (λ (rest : Members). Say (g.N.Names.finds c.args.names.now) g.row.COUNT c.args.members.now rest
    c.loop-next.places) c.in_default.ensures.0 c.loop-next.invariant.say

pub returns-in_default-clause-several : goal.returns-in_default-clause-several
returns-in_default-clause-several g c = c.loop-next.invariant.are_several

pub returns-in_default-clause-known : goal.returns-in_default-clause-known
returns-in_default-clause-known g c =
    sym c.loop-next.invariant.unknown ∙ ap (first_unknown (g.N.Names.finds c.args.names.now)) c.in_default.ensures.0

pub returns-in_default-next_place-clause-known : goal.returns-in_default-next_place-clause-known
returns-in_default-next_place-clause-known g c =
    let finds = g.N.Names.finds c.args.names.now in
    sym c.loop-next.invariant.unknown
    ∙ ap (first_unknown finds) c.in-Some.ensures
    ∙ unknown_here finds c.in-Some.key.now c.in-Some.field-0-1 c.next.new.self
    (sym c.next_place.ensures ∙ c.in_default-next_place.is)

pub loop-next-preserved-then-place : goal.loop-next-preserved-then-place
loop-next-preserved-then-place g c =
    let l = c.loop-next in
    let finds = g.N.Names.finds c.args.names.now in
    step_placed finds g.row.COUNT c.in-Some-next_place.place c.args.members.now c.next.new.self c.in-Some.key.now
    c.in-Some.field-0-1 l.places l.are_several (sym c.next_place.ensures ∙ c.in-Some-next_place.is)
    (subst (λ (rest : Members). Steps finds g.row.COUNT c.args.members.now rest l.places l.are_several)
    c.in-Some.ensures l.invariant) c.place_after.result c.left-left.result c.is_taken-are_several.result c.if-place.true
    (c.left-left.ensures ∙ ap members_len c.in-Some.ensures) c.place_after.ensures c.is_taken-are_several.ensures

pub loop-next-preserved : goal.loop-next-preserved
loop-next-preserved g c =
    let l = c.loop-next in
    let finds = g.N.Names.finds c.args.names.now in
    step_past finds g.row.COUNT c.in-Some-next_place.place c.args.members.now c.next.new.self c.in-Some.key.now
    c.in-Some.field-0-1 l.places l.are_several (sym c.next_place.ensures ∙ c.in-Some-next_place.is)
    (subst (λ (rest : Members). Steps finds g.row.COUNT c.args.members.now rest l.places l.are_several)
    c.in-Some.ensures l.invariant) c.if-place.false
