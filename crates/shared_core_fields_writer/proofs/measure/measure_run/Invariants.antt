use Rattle.std.proofs.Common.{◌-◌, ◌≤◌, length}
use Rattle.shared_core_fields_writer.proofs.measure.measure_run.Given as goal

abbrev pub invariant-loop-measuring : goal.invariant-loop-measuring
invariant-loop-measuring l = (l.initial.measuring.at ≤ l.measuring.at) × (l.measuring.at ≤ length l.source.entries.now)

abbrev pub decreases-loop-measuring : goal.decreases-loop-measuring
decreases-loop-measuring l = length l.source.entries.now - l.measuring.at
