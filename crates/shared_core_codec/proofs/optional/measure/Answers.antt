use Rattle.std.proofs.Common.{◌∙◌}
use Rattle.shared_core_codec.proofs.Measuring.{count_present}
use Rattle.shared_core_codec.proofs.optional.measure.Goals as goal

pub returns-in-Some-clause-sum : goal.returns-in-Some-clause-sum
returns-in-Some-clause-sum g c =
    rw c.in-Some.is (c.measure_value.ensures.sum ∙ count_present c.args.number g.V.FieldKind.kind
    (g.V.FieldKind.part c.in-Some.value) c.args.size.now (g.met.V.FieldKind.present c.in-Some.value))
