use Rattle.std.proofs.Common.{◌∙◌, ap}
use Rattle.shared_core_message.specs.Messages.{message_schema}
use Rattle.shared_core_compare.specs.Erasure.{erased}
use Rattle.replay_bench.proofs.EqualForms.{made_form_of}
use Rattle.replay_bench.proofs.erase.form_as.Goals as goal

pub returns-in-Ok-encode_payload : goal.returns-in-Ok-encode_payload
returns-in-Ok-encode_payload g c =
    made_form_of c.args.ignore (message_schema c.args.command.now.header.ty) g.M.WireRecord.schema
    c.args.command.now.payload c.in-Ok-encode_payload.form (g.M.WireRecord.parts c.in-Ok.decoded)
    (g.M.WireRecord.parts c.erase-compared.result) (ap message_schema c.requires.typed ∙ c.requires.own)
    c.in-Ok.ensures.ok
    (c.erase-compared.ensures ∙ ap (erased g.M.WireRecord.schema c.args.ignore.payloads) c.seen.ensures)
    g.met.M.Erase.shallow c.encoded_len.ensures.fit c.in-Ok-encode_payload.ensures.ok
    c.in-Ok-encode_payload.ensures.reads_back
