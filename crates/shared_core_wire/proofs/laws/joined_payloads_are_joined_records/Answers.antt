use Rattle.shared_core_wire.specs.Grammar.{IsRecordWithin}
use Rattle.shared_core_wire.proofs.GrammarLaws.{joined_lists}
use Rattle.shared_core_wire.proofs.laws.joined_payloads_are_joined_records.Goals as goal

pub returns : goal.returns
returns c = λ left a b rs ss p q. joined_lists (IsRecordWithin left) a b rs ss p q
