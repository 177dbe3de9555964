use Rattle.std.proofs.Common.{◌≡◌}
use Rattle.shared_core_frames.proofs.Joining.{AreAppended}
use Rattle.shared_core_frames.proofs.fields.repeated.Given as goal

abbrev pub invariant-loop-element : goal.invariant-loop-element
invariant-loop-element g l =
    AreAppended g.V.FieldKind.part l.number g.V.FieldKind.kind l.field.items (g.S.PayloadSink.contents l.initial.out)
    l.element-index (g.S.PayloadSink.contents l.out)
    × (g.S.PayloadSink.rest l.out ≡ g.S.PayloadSink.rest l.initial.out)
