use Rattle.schema_lines.proofs.Read.{read_few}
use Rattle.schema_lines.proofs.numbering.numbering_of.Goals as goal

pub entries_of-requires : goal.entries_of-requires
entries_of-requires c = read_few _ _ _ c.in_ok-pairs.ensures.2
