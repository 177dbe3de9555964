use Rattle.shared_core_fields_writer.proofs.room.+write_long_varint.Given as goal

abbrev pub decreases-write_long_varint : goal.decreases-write_long_varint
decreases-write_long_varint l = l.number
