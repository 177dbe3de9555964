use Rattle.std.proofs.Common.{arith}
use Rattle.shared_core_wire.specs.View.{value_of}
use Rattle.shared_core_wire.proofs.ReadRecords.{step}
use Rattle.shared_core_fields.proofs.WrittenRecords.{numbered, written_is}
use Rattle.shared_core_fields.proofs.shortest.read_long.Goals as goal

pub overflow_sub-bytes : goal.overflow_sub-bytes
overflow_sub-bytes c =
    let r = numbered c.in_ok-number.number (value_of c.in_ok-number.value) in
    let s = step 0 0 c.args.bytes.now r c.in_ok-number.rest.now c.in_ok-number.ensures in
    omega (arith, s.shorter)

pub returns-then-written_size-bytes : goal.returns-then-written_size-bytes
returns-then-written_size-bytes c =
    let r = numbered c.in_ok-number.number (value_of c.in_ok-number.value) in
    let s = step 0 0 c.args.bytes.now r c.in_ok-number.rest.now c.in_ok-number.ensures in
    written_is c.args.bytes.now r c.in_ok-number.rest.now c.in_ok-number.ensures
    (omega (arith, c.written_size.ensures, c.if-written_size-bytes.true, s.shorter))
