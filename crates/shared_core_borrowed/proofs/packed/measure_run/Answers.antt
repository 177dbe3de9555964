use Rattle.std.proofs.Common.{arith}
use Rattle.shared_core_codec.proofs.ElementLoops.{packed_step}
use Rattle.shared_core_borrowed.proofs.packed.measure_run.Goals as goal

pub loop-number-preserved : goal.loop-number-preserved
loop-number-preserved c =
    packed_step c.args.numbers.now c.loop-number.number-index c.from.result c.args.size.now c.loop-number.size
    c.add_varint.new.self (omega arith) c.from.ensures (omega arith)
    c.add_varint.ensures c.loop-number.invariant
