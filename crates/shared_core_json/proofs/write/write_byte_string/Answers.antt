use Rattle.std.proofs.Common.{◌++◌, ap, ◌∙◌}
use Rattle.std.proofs.lemmas.Result.{on_ok_weaker}
use Rattle.json.specs.Json.{Json}
use Rattle.json.specs.Tree.{json_tokens}
use Rattle.shared_core_json.proofs.Values.{text_shown, base64_shown}
use Rattle.shared_core_json.proofs.write.write_byte_string.Goals as goal

pub returns-in-Some-clause-tokens : goal.returns-in-Some-clause-tokens
returns-in-Some-clause-tokens c =
    let h = c.in-Some.ensures in
    on_ok_weaker c.write_marked.result
    (λ w. w ∙ ap (λ (j : Json). c.args.out.now.tokens ++ json_tokens j)
    (text_shown c.args.texts c.args.bytes.now c.in-Some.text.now c.if-not-texts.false h.0 h.1))
    c.write_marked.ensures.tokens

pub returns-in-None-clause-tokens : goal.returns-in-None-clause-tokens
returns-in-None-clause-tokens c =
    on_ok_weaker c.write_base64-in-None.result
    (λ w. w ∙ ap (λ (j : Json). c.args.out.now.tokens ++ json_tokens j)
    (base64_shown c.args.texts c.args.bytes.now c.in-None.ensures))
    c.write_base64-in-None.ensures.tokens
