use Rattle.std.proofs.Common.{◌≡◌, true, subst, List}
use Rattle.shared_core_codec.specs.EqualityRules.{equal_elements}
use Rattle.shared_core_codec.specs.FieldParts.{elements_part}
use Rattle.shared_core_wire.specs.Value.{Part}
use Rattle.shared_core_compare.specs.Differences.{FieldTexts, HasWrittenFields, kind_text}
use Rattle.shared_core_compare.proofs.Fields.{list_field_is}
use Rattle.shared_core_compare.proofs.values.write_list.Goals as goal

pub returns : goal.returns
returns g c ok =
    let p : Part = elements_part g.K.FieldKind.part c.args.actual.now.items in
    let q : Part = elements_part g.K.FieldKind.part c.args.expected.now.items in
    let decided = equal_elements _ g.K.FieldKind.part (λ x y. g.met.K.PrintedValue.same x y) c.args.actual.now.items
    c.args.expected.now.items in
    let same : (c.eq.result ≡ true → p ≡ q) × (p ≡ q → c.eq.result ≡ true) = rw c.eq.ensures
    (decided.sound, decided.complete) in
    subst (λ (fields : List FieldTexts). HasWrittenFields (g.F.DifferenceForm.writes c.args.form.now) c.args.out.now
    fields c.write_unless.new.out)
    (list_field_is g.K.FieldKind.part (kind_text g.K.FieldKind.kind) c.eq.result c.args.field.now
    c.args.actual.now.items c.args.expected.now.items same)
    (rw (← c.deref.ensures.value, ← c.deref-2.ensures.value) (c.write_unless.ensures ok))
