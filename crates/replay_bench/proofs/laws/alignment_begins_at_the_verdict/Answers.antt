use Rattle.replay_bench.proofs.Agreement.{agrees}
use Rattle.replay_bench.proofs.laws.alignment_begins_at_the_verdict.Goals as goal

pub returns : goal.returns
returns c = agrees
