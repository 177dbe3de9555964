use Rattle.shared_core_fields_writer.proofs.Rooms.{wrote_number}
use Rattle.shared_core_fields_writer.proofs.ShortRecords.{by_either}
use Rattle.shared_core_fields_writer.proofs.room.write_long_number.Goals as goal

pub returns : goal.returns
returns c =
    wrote_number c.args.plain c.args.number c.args.value c.args.out.now c.write_key-start.new.out c.write_varint.new.out
    c.args.at c.write_key-start.result c.write_varint.result
    (by_either c.args.plain c.args.value c.else-plain.either) c.write_key-start.ensures c.write_varint.ensures.written
