use Rattle.shared_core_codec.proofs.Copying.{copied_ends}
use Rattle.shared_core_codec.proofs.copy.copy_ends.Goals as goal

pub returns : goal.returns
returns g c =
    copied_ends c.args.out.now c.args.bytes.now g.row.N c.requires.long c.requires.short c.requires.room
