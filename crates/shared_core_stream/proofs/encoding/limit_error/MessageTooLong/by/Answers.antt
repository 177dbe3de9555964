use Rattle.std.proofs.Common.{◌≡◌, ◌∙◌, sym, arith}
use Rattle.shared_core_stream.proofs.Limits.{past_limit, within_limit}
use Rattle.shared_core_stream.specs.Items.{body_length}
use Rattle.shared_core_stream.proofs.encoding.limit_error.MessageTooLong.by.Goals as goal

pub returns-then-length-limit : goal.returns-then-length-limit
returns-then-length-limit c =
    sym (within_limit c.args.version c.args.limit c.args.offset c.args.word
    (omega (arith, c.if-length-limit.true, c.payload_len-length.ensures, c.by.ensures.length_is)))

pub returns : goal.returns
returns c =
    let is : c.payload_len-length.result ≡ body_length c.args.version c.args.word = c.payload_len-length.ensures ∙
    c.by.ensures.length_is in
    rw is (sym (past_limit c.args.version c.args.limit c.args.offset c.args.word
    (omega (arith, c.if-length-limit.false, is))))
