use Rattle.shared_core_borrowed.proofs.Lists.{IsMeasured}
use Rattle.shared_core_borrowed.proofs.repeated.measure.Given as goal

abbrev pub invariant-loop-element : goal.invariant-loop-element
invariant-loop-element g l = IsMeasured g.V.FieldValue.part l.number g.V.FieldValue.kind l.field
    l.initial.measure.size l.initial.measure.fits l.element-index l.measure.size l.measure.fits
