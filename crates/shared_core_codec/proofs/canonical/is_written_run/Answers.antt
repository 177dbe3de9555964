use Rattle.std.proofs.Common.{◌≡◌, ◌<◌, length, sym, ◌∙◌, rules}
use Rattle.std.proofs.lemmas.List.{nil_from_length}
use Rattle.shared_core_codec.proofs.Canonicity.{written_turn, written_stop, written_end, none_written}
use Rattle.shared_core_codec.proofs.Canonicity.{some_written}
use Rattle.shared_core_codec.specs.ProgramRows.{kind_view}
use Rattle.shared_core_codec.proofs.canonical.is_written_run.Goals as goal

pub returns-in_default : goal.returns-in_default
returns-in_default c =
    let some : 0 < length c.loop-rest.rest.now = search rules in
    none_written (kind_view c.args.kind) c.args.run.now (sym c.loop-rest.invariant ∙ written_stop (kind_view
    c.args.kind) c.loop-rest.rest.now some c.in_default.ensures)

pub loop-rest-smaller : goal.loop-rest-smaller
loop-rest-smaller c = (written_turn (kind_view c.args.kind) c.loop-rest.rest.now c.in-Some._number c.in-Some.after.now
    c.in-Some.ensures).shorter

pub loop-rest-preserved : goal.loop-rest-preserved
loop-rest-preserved c = sym (written_turn (kind_view c.args.kind) c.loop-rest.rest.now c.in-Some._number
    c.in-Some.after.now c.in-Some.ensures).same
    ∙ c.loop-rest.invariant

pub returns : goal.returns
returns c =
    let nil : length c.loop-rest.rest.now ≡ 0 = search rules in
    some_written (kind_view c.args.kind) c.args.run.now (sym c.is_empty.ensures ∙ c.if-is_empty.false)
    (sym c.loop-rest.invariant ∙ written_end (kind_view c.args.kind) c.loop-rest.rest.now (nil_from_length
    c.loop-rest.rest.now nil))
