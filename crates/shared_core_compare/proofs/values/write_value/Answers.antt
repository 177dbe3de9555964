use Rattle.std.proofs.Common.{◌≡◌, true}
use Rattle.shared_core_compare.specs.Differences.{kind_text}
use Rattle.shared_core_compare.proofs.Fields.{field_is}
use Rattle.shared_core_compare.proofs.values.write_value.Goals as goal

pub returns : goal.returns
returns g c ok =
    let part = g.K.FieldKind.part in
    let decided = g.met.K.PrintedValue.same c.args.actual.now c.args.expected.now in
    let same : (c.eq.result ≡ true → part c.args.actual.now ≡ part c.args.expected.now) ×
    (part c.args.actual.now ≡ part c.args.expected.now → c.eq.result ≡ true) =
    rw c.eq.ensures (decided.sound, decided.complete) in
    rw (← field_is c.eq.result c.args.field.now (kind_text g.K.FieldKind.kind) (part c.args.actual.now)
    (part c.args.expected.now) same) (c.write_unless.ensures ok)
