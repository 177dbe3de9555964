use Rattle.std.proofs.Common.{subst, List}
use Rattle.shared_core_compare.specs.Differences.{FieldTexts, HasWrittenFields}
use Rattle.shared_core_compare.proofs.Fields.{headers_field_is}
use Rattle.shared_core_compare.proofs.difference.write_headers.Goals as goal

pub returns : goal.returns
returns g c ok =
    subst (λ (fields : List FieldTexts). HasWrittenFields (g.F.DifferenceForm.writes c.args.form.now) c.args.out.now
    fields c.write_unless.new.out)
    (headers_field_is c.same_messages.result c.args.field.now c.args.actual.now.items c.args.expected.now.items
    c.same_messages.ensures)
    (rw (← c.deref.ensures.value, ← c.deref-2.ensures.value) (c.write_unless.ensures ok))
