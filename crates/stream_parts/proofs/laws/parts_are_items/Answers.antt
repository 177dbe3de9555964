use Rattle.stream_parts.proofs.Kept.{part_has, whole_has}
use Rattle.stream_parts.proofs.laws.parts_are_items.Goals as goal

pub returns-clause-part : goal.returns-clause-part
returns-clause-part c = part_has

pub returns-clause-whole : goal.returns-clause-whole
returns-clause-whole c = whole_has
