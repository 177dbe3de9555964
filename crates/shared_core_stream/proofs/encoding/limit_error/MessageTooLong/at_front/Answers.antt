use Rattle.std.proofs.Common.{arith}
use Rattle.shared_core_stream.proofs.Limits.{lent_front}
use Rattle.shared_core_stream.proofs.encoding.limit_error.MessageTooLong.at_front.Goals as goal

pub returns : goal.returns
returns c =
    let cases = c.in_ok-head.ensures.cases in
    lent_front c.args.version c.args.limit c.args.offset c.args.bytes.now c.in_ok-head.head.now _ _ cases.0
    (omega (arith, cases.2)) c.from_be_bytes.ensures c.by.ensures
