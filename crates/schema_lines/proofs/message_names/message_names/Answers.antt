use Rattle.std.proofs.Common.{refl}
use Rattle.schema_lines.specs.MessageNames.{message_names}
use Rattle.schema_lines.proofs.message_names.message_names.Goals as goal

pub returns : goal.returns
unfolding message_names
returns c = refl
