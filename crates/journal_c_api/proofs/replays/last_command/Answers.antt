use Rattle.journal_c_api.proofs.FollowedReplays.{last_missing}
use Rattle.journal_c_api.proofs.replays.last_command.Goals as goal

pub returns-in-Err-clause-last : goal.returns-in-Err-clause-last
returns-in-Err-clause-last c =
    last_missing c.args.version c.args.recorded.now c.args.place.now _ (rw c.after.ensures at c.in-Err.ensures.missing)
