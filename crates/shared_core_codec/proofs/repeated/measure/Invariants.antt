use Rattle.shared_core_codec.proofs.ElementLoops.{IsMeasured}
use Rattle.shared_core_codec.proofs.repeated.measure.Given as goal

abbrev pub invariant-loop-element : goal.invariant-loop-element
invariant-loop-element g l = IsMeasured g.V.FieldKind.part l.number g.V.FieldKind.kind l.field.items l.initial.size
    l.element-index l.size
