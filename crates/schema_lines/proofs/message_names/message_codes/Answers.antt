use Rattle.std.proofs.Common.{refl}
use Rattle.schema_lines.specs.MessageNames.{message_codes}
use Rattle.schema_lines.proofs.message_names.message_codes.Goals as goal

pub returns : goal.returns
unfolding message_codes
returns c = refl
