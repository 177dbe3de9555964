use Rattle.replay_bench.proofs.OneOutcome.{journals_have_outcome, journals_have_one_outcome}
use Rattle.replay_bench.proofs.laws.verdict_exists_and_is_unique.Goals as goal

pub returns-clause-some : goal.returns-clause-some
returns-clause-some c = journals_have_outcome

pub returns-clause-one : goal.returns-clause-one
returns-clause-one c = journals_have_one_outcome
