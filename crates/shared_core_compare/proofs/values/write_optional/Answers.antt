use Rattle.std.proofs.Common.{◌≡◌, true}
use Rattle.shared_core_codec.specs.EqualityRules.{equal_options}
use Rattle.shared_core_codec.specs.FieldParts.{option_part}
use Rattle.shared_core_wire.specs.Value.{Part}
use Rattle.shared_core_compare.specs.Differences.{kind_text, present_text}
use Rattle.shared_core_compare.proofs.Fields.{field_is}
use Rattle.shared_core_compare.proofs.values.write_optional.Goals as goal

pub returns : goal.returns
returns g c ok =
    let p : Part = option_part g.K.FieldKind.part c.args.actual.now in
    let q : Part = option_part g.K.FieldKind.part c.args.expected.now in
    let decided = equal_options _ g.K.FieldKind.part g.met.K.FieldKind.present (λ x y. g.met.K.PrintedValue.same x y)
    c.args.actual.now c.args.expected.now in
    let same : (c.eq.result ≡ true → p ≡ q) × (p ≡ q → c.eq.result ≡ true) = rw c.eq.ensures
    (decided.sound, decided.complete) in
    rw (← field_is c.eq.result c.args.field.now (present_text (kind_text g.K.FieldKind.kind)) p q same)
    (c.write_unless.ensures ok)
