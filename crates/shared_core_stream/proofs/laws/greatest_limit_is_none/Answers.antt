use Rattle.shared_core_stream.proofs.LimitedSplits.{greatest_accepts, greatest_splits}
use Rattle.shared_core_stream.proofs.laws.greatest_limit_is_none.Goals as goal

pub returns-clause-accepts : goal.returns-clause-accepts
returns-clause-accepts c = greatest_accepts

pub returns-clause-splits : goal.returns-clause-splits
returns-clause-splits c version stream items rest = greatest_splits version stream items rest
