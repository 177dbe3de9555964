use Rattle.std.proofs.Common.{arith}
use Rattle.shared_core_fields.proofs.WrittenRecords.{one_written, last_written, varint_shorter}
use Rattle.shared_core_fields.proofs.shortest.read_written_varint.Goals as goal

pub returns-then-first-lt128 : goal.returns-then-first-lt128
returns-then-first-lt128 c =
    one_written c.args.bytes.now c.in_ok-first.rest.now c.in_ok-first.first.now c.from.result
    c.in_ok-first.ensures.cases.0 (omega (arith, c.if-first-lt128.true)) c.from.ensures

pub overflow_sub-bytes : goal.overflow_sub-bytes
overflow_sub-bytes c =
    let read = c.in_ok-number in
    omega (arith, varint_shorter c.args.bytes.now read.rest.now read.number read.ensures)

pub overflow_sub-bytes-2 : goal.overflow_sub-bytes-2
overflow_sub-bytes-2 c =
    let read = c.in_ok-number in
    omega (arith, varint_shorter c.args.bytes.now read.rest.now read.number read.ensures)

pub bounds-bytes-bytes : goal.bounds-bytes-bytes
bounds-bytes-bytes c =
    let read = c.in_ok-number in
    omega (arith, varint_shorter c.args.bytes.now read.rest.now read.number read.ensures)

pub returns : goal.returns
returns c =
    let read = c.in_ok-number in
    last_written c.args.bytes.now read.rest.now read.number read.ensures (omega (arith, c.if-bytes-rest-eq0.false))
