use Rattle.std.proofs.Common.{drop, length, arith}
use Rattle.shared_core_codec.proofs.Backwards.{packed_after, packed_after_all, packed_room, packed_start}
use Rattle.shared_core_borrowed.proofs.packed.write_run.Goals as goal

pub loop-i-init : goal.loop-i-init
loop-i-init c = packed_start c.args.numbers.now (length c.args.numbers.now) c.args.end (drop c.args.end c.args.out.now)
    (omega arith)

pub write_varint-start-requires-clause-room : goal.write_varint-start-requires-clause-room
write_varint-start-requires-clause-room c = packed_room c.args.numbers.now c.loop-i.i c.from.result
    0 c.args.end c.loop-i.start (omega arith) (omega arith) c.from.ensures
    c.loop-i.invariant.0 c.requires.room

pub loop-i-preserved : goal.loop-i-preserved
loop-i-preserved c = packed_after c.args.numbers.now c.loop-i.i c.from.result 0 c.args.end
    c.loop-i.start c.write_varint-start.result (drop c.args.end c.args.out.now) (drop c.loop-i.start c.loop-i.out)
    (drop c.write_varint-start.result c.write_varint-start.new.out) (omega arith) (omega arith)
    c.from.ensures c.write_varint-start.ensures.start c.write_varint-start.ensures.written
    c.loop-i.invariant

pub returns : goal.returns
returns c =
    let b = packed_after_all c.args.numbers.now c.loop-i.i c.args.end c.loop-i.start
    (drop c.args.end c.args.out.now) (drop c.loop-i.start c.loop-i.out) (omega arith) c.loop-i.invariant in
    record { start = b.0; written = b.1 }
