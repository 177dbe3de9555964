use Rattle.std.proofs.Common.{◌^◌, ◌<◌, length, rules}
use Rattle.std.proofs.lemmas.Result.{err_from_is_err_and}
use Rattle.shared_core_json_reader.proofs.Whole.{appended_payload, no_payload, payload_means}
use Rattle.shared_core_json_reader.proofs.read.append_payload.Goals as goal

pub returns-clause-ok : goal.returns-clause-ok
returns-clause-ok g c = appended_payload (g.T.ReadableSchemas.format c.args.of.schemas.now)
    (g.met.T.ReadableSchemas.readable c.args.of.schemas.now) c.args.of.schema c.args.node.now
    c.args.walk.now.out.items c.append_message.new.walk.out.items c.requires.out
    c.in_ok-append_message.ensures.appended

pub returns-clause-means : goal.returns-clause-means
returns-clause-means g c =
    let short : length c.append_message.new.walk.out.items < 2 ^ 64 = search rules in
    payload_means (g.T.ReadableSchemas.format c.args.of.schemas.now)
    (g.met.T.ReadableSchemas.readable c.args.of.schemas.now) c.args.of.schema c.args.node.now
    c.append_message.new.walk.out.items (returns-clause-ok g c) short

pub returns-in_err-append_message-clause-rejected : goal.returns-in_err-append_message-clause-rejected
returns-in_err-append_message-clause-rejected g c =
    let from = err_from_is_err_and c.from_residual.result c.from_residual.ensures.1 in
    rw (from.1, from.2) (λ n. no_payload (g.T.ReadableSchemas.format c.args.of.schemas.now)
    (g.met.T.ReadableSchemas.readable c.args.of.schemas.now) c.args.of.schema c.args.node.now
    (c.in_err-append_message.ensures.appended n))
