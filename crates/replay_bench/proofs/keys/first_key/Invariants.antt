use Rattle.std.proofs.Common.{◌≡◌, length}
use Rattle.replay_bench.specs.Fields.{listed_texts}
use Rattle.replay_bench.specs.Keys.{first_key}
use Rattle.replay_bench.proofs.keys.first_key.Given as goal

abbrev pub invariant-loop-left : goal.invariant-loop-left
invariant-loop-left l = first_key (listed_texts l.left) ≡ first_key (listed_texts l.fn.fields)

abbrev pub decreases-loop-left : goal.decreases-loop-left
decreases-loop-left l = length l.left
