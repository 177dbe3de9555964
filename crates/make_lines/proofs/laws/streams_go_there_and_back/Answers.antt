use Rattle.make_lines.proofs.KeptDumps.{there_and_back}
use Rattle.make_lines.proofs.laws.streams_go_there_and_back.Goals as goal

pub returns : goal.returns
returns c = there_and_back
