use Rattle.make_lines.proofs.KeptDumps.{dump_again_made}
use Rattle.make_lines.proofs.laws.dumps_are_made_again.Goals as goal

pub returns : goal.returns
returns c = dump_again_made
