use Rattle.std.proofs.Common.{arith}
use Rattle.shared_core_fields_writer.proofs.Rooms.{wrote_short_number}
use Rattle.shared_core_fields_writer.proofs.ShortRecords.{by_some}
use Rattle.shared_core_fields_writer.proofs.room.write_number.Goals as goal

pub returns : goal.returns
returns c =
    wrote_short_number c.args.plain c.args.number c.args.value c.args.out.now c.args.at (omega arith) (omega arith)
    (by_some c.args.plain c.args.value (omega arith)) (omega arith) (omega arith)
