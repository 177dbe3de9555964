use Rattle.std.proofs.Common.{◌∙◌}
use Rattle.shared_core_fields_writer.proofs.Rooms.{wrote_small, wrote_large, more_stays}
use Rattle.shared_core_fields_writer.proofs.room.+write_long_varint.Goals as goal

pub returns-then-number-lt128-clause-written : goal.returns-then-number-lt128-clause-written
returns-then-number-lt128-clause-written t c =
    wrote_small c.args.out.now c.write_byte.new.out c.args.at c.write_byte.result c.args.number c.if-number-lt128.true
    c.write_byte.ensures.written

pub returns-clause-written : goal.returns-clause-written
returns-clause-written t c =
    wrote_large c.args.out.now c.write_byte-next.new.out c.write_long_varint.new.out c.args.at c.write_byte-next.result
    c.write_long_varint.result c.args.number c.if-number-lt128.false c.write_byte-next.ensures.written
    c.write_long_varint.ensures.written

pub returns-clause-after : goal.returns-clause-after
returns-clause-after t c =
    c.write_long_varint.ensures.after
    ∙ more_stays c.write_byte-next.result c.write_long_varint.result c.write_byte-next.new.out c.args.out.now
    c.write_long_varint.ensures.written.up c.write_byte-next.ensures.after
