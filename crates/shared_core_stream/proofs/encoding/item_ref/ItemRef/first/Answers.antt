use Rattle.std.proofs.Common.{rules, ◌<◌, ◌≤◌, length, refl}
use Rattle.shared_core_stream.specs.Borrowed.{announced_length}
use Rattle.shared_core_stream.proofs.Borrowed.{at_front, header_missing, payload_missing}
use Rattle.shared_core_stream.proofs.encoding.item_ref.ItemRef.first.Goals as goal

pub returns-in_default-clause-missing : goal.returns-in_default-clause-missing
returns-in_default-clause-missing c =
    let short : length c.args.bytes.now < 8 = search rules in
    header_missing c.args.version c.args.bytes.now short

pub returns-then-body-length-clause-missing : goal.returns-then-body-length-clause-missing
returns-then-body-length-clause-missing c =
    let cases = c.in-Some.ensures.cases in
    let short : length c.in-Some.body.now < announced_length c.by-announced.result = rw c.payload_len-length.ensures at
    c.if-body-length.true in
    rw c.payload_len-length.ensures
    (payload_missing c.args.version c.args.bytes.now c.in-Some.head.now c.in-Some.body.now _ _ cases.0 cases.1 cases.2
    c.from_be_bytes-word.ensures c.by-announced.ensures short)

pub returns-clause-item : goal.returns-clause-item
returns-clause-item c =
    let cases = c.in-Some.ensures.cases in
    let fits : announced_length c.by-announced.result ≤ length c.in-Some.body.now = rw c.payload_len-length.ensures at
    c.if-body-length.false in
    at_front c.args.version c.args.bytes.now c.in-Some.head.now c.in-Some.body.now _ _ cases.0 cases.1 cases.2
    c.from_be_bytes-word.ensures c.by-announced.ensures
    _ _ fits refl c.kind.ensures (rw c.payload_len-length.ensures at c.split_at.ensures.front)
    (rw c.payload_len-length.ensures at c.split_at.ensures.back)
