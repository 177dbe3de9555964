use Rattle.std.proofs.Common.{◌+◌, ◌<◌, ◌^◌, drop, length}
use Rattle.journal_c_api.proofs.FollowedReplays.{HasPassed}
use Rattle.journal_c_api.proofs.replays.next_command.Given as goal

abbrev pub invariant-loop-item : goal.invariant-loop-item
invariant-loop-item l = record {
  passed : HasPassed l.fn.version (drop l.fn.offset l.fn.recorded) l.fn.offset l.rest l.offset;
  fits : l.offset + length l.rest < 2 ^ 64;
}

abbrev pub decreases-loop-item : goal.decreases-loop-item
decreases-loop-item l = length l.rest
