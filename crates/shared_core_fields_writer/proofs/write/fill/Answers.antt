use Rattle.std.proofs.Common.{◌∙◌, ◌<◌, ℕ, Err, length, ap, arith, length-drop}
use Rattle.shared_core_fields_writer.specs.declared.error.Reason.TheVariants.{TooLong}
use Rattle.shared_core_fields_writer.proofs.Whole.{payload_given, payload_too_long, payload_error}
use Rattle.shared_core_fields_writer.proofs.write.fill.Goals as goal

pub returns-in-Err-clause-error : goal.returns-in-Err-clause-error
returns-in-Err-clause-error c =
    payload_error c.args.schema c.args.source.now.entries.now c.args.source.now.bytes.now c.in-Err.reason _
    c.in-Err.ensures.written
    ∙ ap (λ (n : ℕ). Err (c.in-Err.reason, n)) (length-drop c.write_message.new.at.entry
    c.args.source.now.entries.now)

pub returns-then-at-ge-LIMIT-clause-error : goal.returns-then-at-ge-LIMIT-clause-error
returns-then-at-ge-LIMIT-clause-error c =
    let w = c.in_default.ensures.written in
    payload_too_long c.args.schema c.args.source.now.entries.now c.args.source.now.bytes.now w.0 _ w.1
    (omega (arith, w.2.count, c.if-at-ge-LIMIT.true)) c.in_default.ensures.rest
    ∙ ap (λ (n : ℕ). Err (TooLong, n)) (length-drop c.write_message.new.at.entry c.args.source.now.entries.now)

pub returns-clause-payload : goal.returns-clause-payload
returns-clause-payload c =
    let w = c.in_default.ensures.written in
    let short : length w.0 < 4294967296 = omega (arith, w.2.count, c.if-at-ge-LIMIT.false) in (
      w.0,
      record {
        gives =
            payload_given c.args.schema c.args.source.now.entries.now c.args.source.now.bytes.now w.0 w.1 short;
        has = omega (arith, w.2.count, c.if-at-ge-LIMIT.false);
        written = λ h. w.2.written (omega (arith, h, w.2.same_length));
      },
    )
