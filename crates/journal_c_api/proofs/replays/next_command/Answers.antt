use Rattle.std.proofs.Common.{arith, drop}
use Rattle.journal_c_api.proofs.FollowedReplays.{front_long, item_passed, next_ended, next_found}
use Rattle.journal_c_api.proofs.replays.next_command.Goals as goal

pub returns-in-Some-clause-next : goal.returns-in-Some-clause-next
returns-in-Some-clause-next c =
    next_found c.args.version c.args.recorded.now c.args.offset c.loop-item.rest.now c.loop-item.offset
    c.loop-item.invariant.passed c.in-Ok.item c.in-Ok.more.now c.in-Some.found c.in-Ok.ensures.item c.in-Some.ensures

pub loop-item-preserved : goal.loop-item-preserved
loop-item-preserved c =
    let inv = c.loop-item.invariant in
    record {
      passed = rw c.size-offset.ensures (item_passed c.args.version (drop c.args.offset c.args.recorded.now)
          c.args.offset c.loop-item.rest.now c.loop-item.offset inv.passed c.in-Ok.item c.in-Ok.more.now
          c.in-Ok.ensures.item c.in_default-command_at.ensures);
      fits = omega (
        arith,
        c.size-offset.ensures,
        inv.fits,
        front_long c.args.version c.loop-item.rest.now c.in-Ok.item c.in-Ok.more.now c.in-Ok.ensures.item,
      );
    }

pub returns-clause-next : goal.returns-clause-next
returns-clause-next c =
    next_ended c.args.version c.args.recorded.now c.args.offset c.loop-item.rest.now c.loop-item.offset
    c.loop-item.invariant.passed _ c.in_default.ensures.missing
