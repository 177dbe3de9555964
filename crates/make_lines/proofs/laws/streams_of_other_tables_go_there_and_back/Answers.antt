use Rattle.make_lines.proofs.KeptDumps.{other_there_and_back}
use Rattle.make_lines.proofs.laws.streams_of_other_tables_go_there_and_back.Goals as goal

pub returns : goal.returns
returns c = other_there_and_back
