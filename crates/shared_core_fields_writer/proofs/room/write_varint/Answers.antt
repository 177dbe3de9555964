use Rattle.shared_core_fields_writer.proofs.Rooms.{wrote_small}
use Rattle.shared_core_fields_writer.proofs.room.write_varint.Goals as goal

pub returns-then-number-lt128-clause-written : goal.returns-then-number-lt128-clause-written
returns-then-number-lt128-clause-written c =
    wrote_small c.args.out.now c.write_byte.new.out c.args.at c.write_byte.result c.args.number c.if-number-lt128.true
    c.write_byte.ensures.written
