use Rattle.std.proofs.Common.{◌∙◌, true, ap}
use Rattle.std.proofs.lemmas.Option.{IfSome_then}
use Rattle.shared_core_codec.specs.ProgramRows.{kind_view}
use Rattle.shared_core_codec.specs.declared.rows.Kind.{Kind}
use Rattle.shared_core_fields_writer.specs.Given.{given}
use Rattle.shared_core_fields_writer.proofs.Walking.{given_bytes, given_text}
use Rattle.shared_core_fields_writer.proofs.flat.write_few_of.Goals as goal

pub returns-in_ok-content-in-Text-clause-written : goal.returns-in_ok-content-in-Text-clause-written
returns-in_ok-content-in-Text-clause-written c =
    let own = c.in_ok-content-in-Text in
    let bytes = c.args.bytes.now in
    IfSome_then c.write_few_text.result c.write_few_text.ensures.written
    (λ end w. (
      own.content.now,
      ap (λ (k : Kind). given bytes (kind_view k) c.args.entry.now) c.in-Text.is
          ∙ given_text bytes own.content.now c.args.entry.now own.ensures.kind own.ensures.content w.1,
      w.0 true,
    ))

pub returns-in_ok-content-in-ByteString-clause-written : goal.returns-in_ok-content-in-ByteString-clause-written
returns-in_ok-content-in-ByteString-clause-written c =
    let own = c.in_ok-content-in-ByteString in
    let bytes = c.args.bytes.now in
    IfSome_then c.write_few_bytes.result c.write_few_bytes.ensures.written
    (λ end w. (
      own.content.now,
      ap (λ (k : Kind). given bytes (kind_view k) c.args.entry.now) c.in-ByteString.is
          ∙ given_bytes bytes own.content.now c.args.entry.now own.ensures.kind own.ensures.content,
      w true,
    ))
