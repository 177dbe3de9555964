use Rattle.shared_core_stream.proofs.Items.{split_of}
use Rattle.shared_core_stream.proofs.laws.split_exists.Goals as goal

pub returns : goal.returns
returns c = split_of
