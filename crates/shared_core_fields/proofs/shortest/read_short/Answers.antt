use Rattle.std.proofs.Common.{arith, refl}
use Rattle.shared_core_fields.proofs.WrittenRecords.{short_number, short_content}
use Rattle.shared_core_fields.proofs.shortest.read_short.Goals as goal

pub returns-in-0 : goal.returns-in-0
returns-in-0 c =
    short_number c.args.bytes.now c.in_ok-key.rest.now c.in_ok-number.rest.now c.in_ok-key.key.now
    c.in_ok-number.number c.from-field.result c.in_ok-number.number c.in_ok-key.ensures.cases.0 c.in_ok-number.ensures
    (omega (arith, c.if-key-lt8.false)) (omega (arith, c.if-key-ge128.false)) c.in-0.is c.from-field.ensures refl

pub returns-else-rest-number : goal.returns-else-rest-number
returns-else-rest-number c =
    short_content c.args.bytes.now c.in_ok-key.rest.now c.in_ok-number.rest.now c.split_at.result.0.now
    c.split_at.result.1.now c.in_ok-key.key.now c.in_ok-number.number c.from-field.result _
    c.in_ok-key.ensures.cases.0 c.in_ok-number.ensures (omega (arith, c.if-key-lt8.false))
    (omega (arith, c.if-key-ge128.false)) c.in-2.is c.from-field.ensures refl (omega (arith, c.if-rest-number.false))
    c.split_at.ensures.front c.split_at.ensures.back
