use Rattle.shared_core_stream.proofs.LimitedSplits.{limited_split_is_unique}
use Rattle.shared_core_stream.proofs.laws.limited_split_is_unique.Goals as goal

pub returns : goal.returns
returns c = limited_split_is_unique
