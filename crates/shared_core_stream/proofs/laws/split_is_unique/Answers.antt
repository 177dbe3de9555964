use Rattle.shared_core_stream.proofs.Items.{split_is_unique}
use Rattle.shared_core_stream.proofs.laws.split_is_unique.Goals as goal

pub returns : goal.returns
returns c = split_is_unique
