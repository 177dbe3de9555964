use Rattle.std.proofs.Common.{refl}
use Rattle.std.proofs.Output.{has_written_append}
use Rattle.shared_core_errors.proofs.uncompleted.UncompletedDoProgressDuringReplayDisplay.fmt.Goals as goal

pub returns-clause-writes : goal.returns-clause-writes
returns-clause-writes g c plain ok =
    let head = c.in_ok-write_str.ensures.writes plain refl in
    let lines = c.write_lines.ensures head.plain ok in
    has_written_append _ _ _ _ _ _ head (rw c.deref.ensures.value at lines)
