use Rattle.std.proofs.Common.{arith, drop, ◌∙◌}
use Rattle.shared_core_codec.proofs.Backwards.{present_before, present_size}
use Rattle.shared_core_codec.proofs.optional.write.Goals as goal

pub write_value-requires-clause-room : goal.write_value-requires-clause-room
write_value-requires-clause-room g c =
    omega (
      arith,
      present_size c.args.number g.V.FieldKind.kind (g.V.FieldKind.part c.in-Some.value)
          (g.met.V.FieldKind.present c.in-Some.value),
      rw c.in-Some.is at c.requires.room,
    )

pub returns-in-Some-clause-start : goal.returns-in-Some-clause-start
returns-in-Some-clause-start g c =
    rw c.in-Some.is (omega (
      arith,
      c.write_value.ensures.start,
      present_size c.args.number g.V.FieldKind.kind
          (g.V.FieldKind.part c.in-Some.value) (g.met.V.FieldKind.present c.in-Some.value),
    ))

pub returns-in-Some-clause-written : goal.returns-in-Some-clause-written
returns-in-Some-clause-written g c =
    rw c.in-Some.is (c.write_value.ensures.written ∙ present_before c.args.number g.V.FieldKind.kind
    (g.V.FieldKind.part c.in-Some.value) (drop c.args.end c.args.out.now)
    (g.met.V.FieldKind.present c.in-Some.value))
