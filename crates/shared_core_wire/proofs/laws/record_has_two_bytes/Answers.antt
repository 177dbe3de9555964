use Rattle.shared_core_wire.proofs.GrammarLaws.{two_bytes}
use Rattle.shared_core_wire.proofs.laws.record_has_two_bytes.Goals as goal

pub returns : goal.returns
returns c = λ left payload rs p. two_bytes left rs payload p
