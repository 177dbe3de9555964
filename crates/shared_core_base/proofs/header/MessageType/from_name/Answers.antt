use Rattle.shared_core_base.proofs.TypeNames.{type_of_name}
use Rattle.shared_core_base.proofs.header.MessageType.from_name.Goals as goal

pub returns : goal.returns
returns c ty = rw c.first_named.ensures (type_of_name _ ty)
