use Rattle.shared_core_codec.proofs.Tables.{are_schemas}
use Rattle.shared_core_codec.proofs.laws.messages_are_schemas.Goals as goal

pub returns : goal.returns
returns c = are_schemas
