use Rattle.std.proofs.Common.{length, ap, ◌∙◌, arith}
use Rattle.std.proofs.lemmas.Str.{is_utf8-from_IsUtf8}
use Rattle.json.specs.Lex.{tokens}
use Rattle.shared_core_codec.proofs.Texts.{not_utf8}
use Rattle.shared_core_json_reader.proofs.FirstErrors.{not_json_at}
use Rattle.shared_core_json_reader.proofs.Whole.{IsText, not_a_text, of_tokens}
use Rattle.shared_core_json_reader.proofs.read.table_of_text.Goals as goal

pub returns-in-Err-clause-rejected : goal.returns-in-Err-clause-rejected
returns-in-Err-clause-rejected c n = not_a_text c.args.text.now (not_utf8 c.args.text.now c.in-Err.ensures.cases.0)

pub returns-in-Ok-parse-clause-ok : goal.returns-in-Ok-parse-clause-ok
returns-in-Ok-parse-clause-ok c =
    let h = c.in-Ok.ensures.cases in
    let text : IsText c.args.text.now c.in-Ok-new.reader = record
    { utf8 = is_utf8-from_IsUtf8 c.args.text.now h.1; lexed = c.in-Ok-new.ensures.ok ∙ ap tokens h.0 } in
    of_tokens c.args.text.now c.in-Ok-new.reader _ text c.in-Ok-parse.ensures.value

pub returns-in-Err-parse-clause-place : goal.returns-in-Err-parse-clause-place
returns-in-Err-parse-clause-place c n =
    let e = c.error_at-in-Err-parse.ensures in
    let reason = c.in-Err-parse.ensures.reason (λ q. n (e.0 ∙ q)) in (
      e.0 ∙ reason,
      e.1,
      not_json_at c.args.text.now c.in-Err-parse.reason c.error_at-in-Err-parse.result.offset
          c.min.result e.2 reason (omega (arith, ap length c.in-Ok.ensures.cases.0))
          (is_utf8-from_IsUtf8 c.args.text.now c.in-Ok.ensures.cases.1),
    )
