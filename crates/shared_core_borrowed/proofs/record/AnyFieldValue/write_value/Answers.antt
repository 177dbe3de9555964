use Rattle.shared_core_codec.proofs.Backwards.{message_before}
use Rattle.shared_core_borrowed.proofs.record.AnyFieldValue.write_value.Goals as goal

pub returns-clause-written : goal.returns-clause-written
returns-clause-written g c =
    message_before c.args.number g.R.Record.schema c.encode_back-start.result c.args.end
    (g.R.Record.parts c.args.self.now) _ _ _ c.write_length.ensures.written c.encode_back-start.ensures.start
    c.encode_back-start.ensures.written
