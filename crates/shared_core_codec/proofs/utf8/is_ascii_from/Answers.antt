use Rattle.shared_core_codec.proofs.Ascii.{ascii_lanes}
use Rattle.shared_core_codec.proofs.utf8.is_ascii_from.Goals as goal

pub returns : goal.returns
returns g c = ascii_lanes c.args.bytes.now c.args.at g.row.N c.requires.lanes c.requires.long
