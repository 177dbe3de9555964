use Rattle.std.proofs.Common.{length}
use Rattle.shared_core_fields_writer.proofs.Rooms.{wrote_content}
use Rattle.shared_core_fields_writer.proofs.ShortRecords.{by_either}
use Rattle.shared_core_fields_writer.proofs.room.write_long_content.Goals as goal

pub returns : goal.returns
returns c =
    wrote_content c.args.plain c.args.number c.args.content.now c.args.out.now c.write_key-key.new.out
    c.write_varint-start.new.out c.write_bytes.new.out c.args.at c.write_key-key.result c.write_varint-start.result
    c.write_bytes.result (by_either c.args.plain (length c.args.content.now) c.else-plain.either)
    c.write_key-key.ensures c.write_varint-start.ensures.written c.write_bytes.ensures
