use Rattle.std.proofs.Common.{arith, length-set}
use Rattle.shared_core_codec.proofs.Backwards.{two_bytes_size}
use Rattle.shared_core_codec.proofs.write.+write_long_varint.Goals as goal

pub bounds-out-start-then-number-lt16384 : goal.bounds-out-start-then-number-lt16384
bounds-out-start-then-number-lt16384 t c = simp length-set (omega
    (arith, two_bytes_size c.args.number c.requires.long c.if-number-lt16384.true))
