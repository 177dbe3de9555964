use Rattle.shared_core_stream.proofs.Items.{skipped_item_version, unknown_item_version}
use Rattle.shared_core_stream.proofs.laws.version_decides_untyped_items.Goals as goal

pub returns-clause-unknown : goal.returns-clause-unknown
returns-clause-unknown c = unknown_item_version

pub returns-clause-skipped : goal.returns-clause-skipped
returns-clause-skipped c = skipped_item_version
