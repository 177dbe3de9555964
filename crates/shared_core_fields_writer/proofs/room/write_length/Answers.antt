use Rattle.std.proofs.Common.{◌-◌, refl, arith}
use Rattle.shared_core_fields_writer.proofs.Rooms.{wrote_short_length}
use Rattle.shared_core_fields_writer.proofs.room.write_length.Goals as goal

pub returns : goal.returns
returns c =
    wrote_short_length c.args.out.now c.args.at c.args.start c.args.end (c.args.end - c.args.start) refl
    c.if-len-ge128.false (omega (arith, c.requires.room, c.if-end-out.false)) c.requires.after c.requires.few (omega
    arith) c.if-end-out.false
