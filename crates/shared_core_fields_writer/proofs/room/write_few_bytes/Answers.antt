use Rattle.std.proofs.Common.{true, arith}
use Rattle.shared_core_fields_writer.proofs.Rooms.{wrote_after_head}
use Rattle.shared_core_fields_writer.proofs.room.write_few_bytes.Goals as goal

pub returns-clause-written : goal.returns-clause-written
returns-clause-written c =
    wrote_after_head c.args.out.now c.write_few_head.new.out c.write_few.new.out c.args.content.now c.args.at
    c.args.number c.in_ok-end.end c.write_few.result (omega arith) c.in_ok-end.ensures.written c.write_few.ensures

pub returns-clause-before : goal.returns-clause-before
returns-clause-before c = (returns-clause-written c true).before
