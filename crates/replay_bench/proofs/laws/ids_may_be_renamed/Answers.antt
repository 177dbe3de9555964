use Rattle.replay_bench.proofs.Renamings.{are_one_to_one, renamed_are_the_same, still_the_same}
use Rattle.replay_bench.proofs.laws.ids_may_be_renamed.Goals as goal

pub returns-clause-same : goal.returns-clause-same
returns-clause-same c = λ version payloads recorded replayed count.
    still_the_same payloads version recorded replayed count

pub returns-clause-renamed : goal.returns-clause-renamed
returns-clause-renamed c = λ version rename payloads recorded replayed.
    renamed_are_the_same payloads rename version recorded replayed

pub returns-clause-one_to_one : goal.returns-clause-one_to_one
returns-clause-one_to_one c = λ version payloads recorded replayed count.
    are_one_to_one payloads version recorded replayed count
