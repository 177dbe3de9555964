use Rattle.json_table.specs.Counts.{items_count}
use Rattle.shared_core_json_reader.proofs.measure.run_len.Given as goal

abbrev pub decreases-loop-item : goal.decreases-loop-item
decreases-loop-item g l = items_count l.items
