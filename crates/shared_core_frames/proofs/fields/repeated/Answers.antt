use Rattle.std.proofs.Common.{arith, ◌∙◌}
use Rattle.shared_core_frames.proofs.Joining.{append_end, append_step}
use Rattle.shared_core_frames.proofs.fields.repeated.Goals as goal

pub loop-element-preserved : goal.loop-element-preserved
loop-element-preserved g c = (
  append_step g.V.FieldKind.part c.args.number g.V.FieldKind.kind c.args.field.now.items
      c.loop-element.element-index c.element-item.result (g.S.PayloadSink.contents c.args.out.now)
      (g.S.PayloadSink.contents c.loop-element.out) (g.S.PayloadSink.contents c.append_value.new.out) (omega arith)
      (rw c.deref-element-items.ensures.value at c.element-item.is) c.in_ok-append_value.ensures.ok
      c.loop-element.invariant.0,
  c.append_value.ensures.rest ∙ c.loop-element.invariant.1,
)

pub returns-clause-ok : goal.returns-clause-ok
returns-clause-ok g c =
    append_end g.V.FieldKind.part c.args.number g.V.FieldKind.kind c.args.field.now.items
    c.loop-element.element-index (g.S.PayloadSink.contents c.args.out.now) (g.S.PayloadSink.contents c.loop-element.out)
    (rw c.deref-element-items.ensures.value at c.loop-element-test.false) g.met.V.Element.one_by_one
    c.loop-element.invariant.0
