use Rattle.make_lines.proofs.KeptDumps.{item_again_made}
use Rattle.make_lines.proofs.laws.items_are_made_again.Goals as goal

pub returns : goal.returns
returns c = item_again_made
