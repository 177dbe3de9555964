use Rattle.std.proofs.Common.{arith}
use Rattle.shared_core_codec.proofs.ElementLoops.{measure_step}
use Rattle.shared_core_codec.proofs.FittingRows.{fit_end}
use Rattle.shared_core_codec.proofs.Measuring.{count_from}
use Rattle.shared_core_codec.proofs.repeated.measure.Goals as goal

pub loop-element-preserved : goal.loop-element-preserved
loop-element-preserved g c =
    measure_step g.V.FieldKind.part c.args.number g.V.FieldKind.kind c.args.field.now.items c.loop-element.element-index
    c.element-item.result c.args.size.now c.loop-element.size c.measure_value.new.size (omega arith)
    (rw c.deref-element-items.ensures.value at c.element-item.is) c.measure_value.ensures.sum
    c.measure_value.ensures.fit c.loop-element.invariant

pub returns-clause-sum : goal.returns-clause-sum
returns-clause-sum g c =
    count_from g.V.FieldKind.part c.args.number g.V.FieldKind.kind c.args.field.now.items c.args.size.now
    c.loop-element.size c.loop-element.element-index c.loop-element.invariant.1 (omega arith)
    g.met.V.Element.one_by_one c.loop-element.invariant.0

pub returns-clause-fit : goal.returns-clause-fit
returns-clause-fit g c = fit_end g.V.FieldKind.part c.args.number g.V.FieldKind.kind c.args.field.now.items
    c.loop-element.element-index (omega arith) c.loop-element.invariant.2
