use Rattle.make_lines.proofs.Placing.{place_here}
use Rattle.make_lines.proofs.members.LineNamesNames.name_at.Goals as goal

pub returns : goal.returns
returns c = place_here c.names.result.now c.args.index _ c.names.ensures c.requires
