use Rattle.shared_core_wire.proofs.GrammarLaws as grammar
use Rattle.shared_core_wire.proofs.laws.varints_are_prefix_free.Goals as goal

pub returns : goal.returns
returns c = grammar.one_varint
