use Rattle.json_table.specs.Counts.{items_count}
use Rattle.std.proofs.Common.{◌+◌, ◌*◌}
use Rattle.shared_core_json_reader.proofs.measure.+measure.Given as goal

abbrev pub decreases-measure_message : goal.decreases-measure_message
decreases-measure_message g l = 6 * l.levels

abbrev pub decreases-measure_members : goal.decreases-measure_members
decreases-measure_members g l = 6 * l.left + 5

abbrev pub decreases-measure_row : goal.decreases-measure_row
decreases-measure_row g l = 6 * l.object.now.left + 4

abbrev pub decreases-measure_oneof : goal.decreases-measure_oneof
decreases-measure_oneof g l = 6 * l.object.now.left + 3

abbrev pub decreases-measure_given : goal.decreases-measure_given
decreases-measure_given g l = 6 * l.object.now.left + 2

abbrev pub decreases-measure_value : goal.decreases-measure_value
decreases-measure_value g l = 6 * l.object.now.left + 1

abbrev pub decreases-measure_given-loop-item : goal.decreases-measure_given-loop-item
decreases-measure_given-loop-item g l = items_count l.items
