use Rattle.shared_core_wire.proofs.GrammarLaws as grammar
use Rattle.shared_core_wire.proofs.laws.record_list_is_unique.Goals as goal

pub returns : goal.returns
returns c = grammar.one_list
