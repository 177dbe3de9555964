use Rattle.std.proofs.Common.{Err, ap}
use Rattle.replay_bench.specs.Verdicts.{command_message}
use Rattle.replay_bench.proofs.Pairs.{are_typed, pair_recorded, pair_replayed}
use Rattle.replay_bench.proofs.mismatches.Pair.decode.Goals as goal

pub returns-in-Err-clause-rejected : goal.returns-in-Err-clause-rejected
returns-in-Err-clause-rejected g c =
    let pair = c.args.self.now in
    let one = command_message pair.recorded in
    let other = command_message pair.replayed in
    let s = g.M.WireRecord.schema in
    let typed = are_typed pair.index one other g.M.RestateMessage.message_type s
    c.requires.allowed c.requires.own in
    rw c.bench_error.ensures
    (pair_recorded pair.ignore pair.is_listed pair.index one other s typed c.in-Err.error
    (λ is. c.in-Err.ensures.malformed (ap Err is)))

pub returns-in-Err-decode_payload-clause-rejected : goal.returns-in-Err-decode_payload-clause-rejected
returns-in-Err-decode_payload-clause-rejected g c =
    let pair = c.args.self.now in
    let one = command_message pair.recorded in
    let other = command_message pair.replayed in
    let s = g.M.WireRecord.schema in
    let typed = are_typed pair.index one other g.M.RestateMessage.message_type s
    c.requires.allowed c.requires.own in
    rw c.bench_error-in-Err-decode_payload.ensures
    (pair_replayed pair.ignore pair.is_listed pair.index one other s typed
    (g.M.WireRecord.parts c.in-Ok.recorded) c.in-Err-decode_payload.error
    (c.in-Ok.ensures.accepted, c.in-Ok.ensures.meaning)
    (λ is. c.in-Err-decode_payload.ensures.malformed (ap Err is)))
