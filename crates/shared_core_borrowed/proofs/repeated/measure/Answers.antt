use Rattle.std.proofs.Common.{arith}
use Rattle.shared_core_borrowed.proofs.Lists.{all_fit, all_measured, measure_step}
use Rattle.shared_core_borrowed.proofs.repeated.measure.Goals as goal

pub loop-element-preserved : goal.loop-element-preserved
loop-element-preserved g c =
    measure_step g.V.FieldValue.part c.args.number g.V.FieldValue.kind c.args.field.now c.loop-element.element-index
    c.element-item.result c.args.measure.now.size c.loop-element.measure.size c.measure_value.new.measure.size
    c.args.measure.now.fits c.loop-element.measure.fits c.measure_value.new.measure.fits (omega arith)
    c.element-item.is c.measure_value.ensures.sum
    c.measure_value.ensures.fit c.loop-element.invariant

pub returns-clause-sum : goal.returns-clause-sum
returns-clause-sum g c = all_measured g.V.FieldValue.part c.args.number g.V.FieldValue.kind c.args.field.now
    c.args.measure.now.size c.loop-element.measure.size c.loop-element.element-index (omega arith)
    g.met.V.Element.one_by_one _ _ c.loop-element.invariant

pub returns-clause-fit : goal.returns-clause-fit
returns-clause-fit g c = all_fit g.V.FieldValue.part c.args.number g.V.FieldValue.kind c.args.field.now
    c.args.measure.now.fits c.loop-element.measure.fits c.loop-element.element-index (omega arith)
    _ _ c.loop-element.invariant
