use Rattle.shared_core_stream.proofs.Items.{one_item}
use Rattle.shared_core_stream.proofs.laws.items_are_prefix_free.Goals as goal

pub returns : goal.returns
returns c = one_item
