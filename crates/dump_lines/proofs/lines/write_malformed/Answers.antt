use Rattle.std.proofs.Common.{◌≡◌, [], ◌∷◌, ◌++◌, true, rules, ◌∙◌}
use Rattle.std.specs.Prelude.{codes}
use Rattle.json.specs.Token.{key, boolean, end_object}
use Rattle.json.specs.Tree.{json_tokens}
use Rattle.shared_core_json.specs.Form.{byte_string_json}
use Rattle.dump_lines.proofs.Tokens.{then_tokens}
use Rattle.dump_lines.proofs.lines.write_malformed.Goals as goal

pub returns-clause-tokens : goal.returns-clause-tokens
returns-clause-tokens c =
    let json = byte_string_json c.args.texts c.args.payload.now in
    let bytes : c.write_bytes.new.out.tokens ≡ c.write_flag.new.out.tokens ++ (key (codes "bytes") ∷ json_tokens json)
    = search rules in
    then_tokens c.write_flag.new.out.tokens c.write_bytes.new.out.tokens (key (codes "bytes") ∷ json_tokens json)
    (end_object ∷ []) bytes
    ∙ then_tokens c.args.out.now.tokens c.write_flag.new.out.tokens (key (codes "malformed") ∷ boolean true ∷ [])
    ((key (codes "bytes") ∷ json_tokens json) ++ end_object ∷ []) c.in_ok-write_flag.ensures.tokens
