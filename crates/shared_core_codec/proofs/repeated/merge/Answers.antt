use Rattle.std.proofs.Common.{refl}
use Rattle.std.specs.Prelude.{IsOk}
use Rattle.shared_core_wire.specs.Acceptance.{accepts_message}
use Rattle.shared_core_wire.specs.Overlay.{message_overlay}
use Rattle.shared_core_codec.specs.Table.{table}
use Rattle.shared_core_codec.specs.Occurrences.{value_in}
use Rattle.shared_core_codec.proofs.FieldElements.{element_appended}
use Rattle.shared_core_codec.proofs.Keeping.{same_elements, pushed_elements}
use Rattle.shared_core_codec.proofs.repeated.merge.Goals as goal

pub returns-clause-ok : goal.returns-clause-ok
returns-clause-ok g c =
    let left = c.args.found.now.left in
    let merged = c.merge_value.new.self in
    let pushed : IsOk c.push_mut.result = rw c.in_ok-element.was refl in
    let same = (c.push_mut.follows.holds merged pushed).0 in
    element_appended c.merge_value.result g.V.FieldKind.part c.args.field.now.items
    (c.push_mut.follows.lender merged).items c.in_ok-element.element.now merged g.V.FieldKind.kind
    (message_overlay table left)
    (accepts_message table left) (value_in c.args.found.now) g.met.V.Element.one_by_one
    (rw c.in_ok-element.ensures.value c.empty_value.ensures) same c.merge_value.ensures.ok

pub returns-in_err-element-clause-kept : goal.returns-in_err-element-clause-kept
returns-in_err-element-clause-kept g c =
    let rested = rw c.in_err-element.was at c.push_mut.follows.holds-at-none in
    same_elements g.V.FieldKind.part c.args.field.now.items _ rested.0

pub returns-clause-kept : goal.returns-clause-kept
returns-clause-kept g c =
    let merged = c.merge_value.new.self in
    let pushed : IsOk c.push_mut.result = rw c.in_ok-element.was refl in
    pushed_elements g.V.FieldKind.part c.args.field.now.items _ merged (c.push_mut.follows.holds merged pushed).0
