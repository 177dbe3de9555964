use Rattle.std.proofs.Common.{◌+◌, ◌*◌, ◌-◌, ◌≤◌, length}
use Rattle.shared_core_fields_writer.proofs.measure.+measure.Given as goal

abbrev pub decreases-measure_message : goal.decreases-measure_message
decreases-measure_message l = 2 * l.depth + 1

abbrev pub decreases-measure_field : goal.decreases-measure_field
decreases-measure_field l = 2 * l.depth

abbrev pub invariant-measure_message-loop-measuring : goal.invariant-measure_message-loop-measuring
invariant-measure_message-loop-measuring l =
    (l.initial.measuring.at ≤ l.measuring.at) × (l.measuring.at ≤ length l.source.entries.now)

abbrev pub decreases-measure_message-loop-measuring : goal.decreases-measure_message-loop-measuring
decreases-measure_message-loop-measuring l = length l.source.entries.now - l.measuring.at
