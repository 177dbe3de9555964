use Rattle.std.proofs.Common.{◌≡◌, ◌+◌, ◌*◌, ◌^◌, [], ◌∷◌, ◌++◌, true, rules, length, ◌∙◌}
use Rattle.std.specs.Prelude.{codes, decimal}
use Rattle.json.specs.Token.{key, number, boolean, end_object}
use Rattle.json.specs.Json.{member, no_members}
use Rattle.json.specs.Tree.{json_tokens}
use Rattle.shared_core_json.specs.Form.{byte_string_json}
use Rattle.dump_lines.specs.Lines.{header_tokens}
use Rattle.dump_lines.proofs.Tokens.{length_with_header, then_tokens}
use Rattle.dump_lines.proofs.lines.write_skipped.Goals as goal

pub returns-in_ok-write_bytes-clause-tokens : goal.returns-in_ok-write_bytes-clause-tokens
returns-in_ok-write_bytes-clause-tokens c =
    let payload = c.args.skipped.payload.now in
    let flag : c.write_flag.new.out.tokens ≡ c.args.out.now.tokens ++ (key (codes "skipped") ∷ boolean true ∷ []) =
    search rules in
    let code : c.write_number.new.out.tokens ≡ c.write_flag.new.out.tokens ++
    (key (codes "code") ∷ number (decimal c.args.skipped.code) ∷ []) = search rules in
    let len : c.write_number-2.new.out.tokens ≡ c.write_number.new.out.tokens ++
    (key (codes "length") ∷ number (decimal (length payload)) ∷ []) = search rules in
    let head : c.write_header.new.out.tokens ≡ c.write_number-2.new.out.tokens ++ header_tokens c.args.skipped.word
    (c.args.skipped.code * 2 ^ 48 + length payload) = search rules in
    let json = byte_string_json c.args.options.now.texts payload in
    let bytes : c.write_bytes.new.out.tokens ≡ c.write_header.new.out.tokens ++ (key (codes "bytes") ∷ json_tokens json)
    = search rules in
    let members = member (codes "bytes") json no_members in
    rw c.if-options.true (then_tokens c.write_header.new.out.tokens c.write_bytes.new.out.tokens
    (key (codes "bytes") ∷ json_tokens json) (end_object ∷ []) bytes
    ∙ length_with_header c.args.out.now.tokens _ _ _ _ _ _ _ c.args.skipped.word (c.args.skipped.code * 2 ^ 48 +
    length payload) members
    flag code len head)

pub returns-else-options-clause-tokens : goal.returns-else-options-clause-tokens
returns-else-options-clause-tokens c =
    let payload = c.args.skipped.payload.now in
    let flag : c.write_flag.new.out.tokens ≡ c.args.out.now.tokens ++ (key (codes "skipped") ∷ boolean true ∷ []) =
    search rules in
    let code : c.write_number.new.out.tokens ≡ c.write_flag.new.out.tokens ++
    (key (codes "code") ∷ number (decimal c.args.skipped.code) ∷ []) = search rules in
    let len : c.write_number-2.new.out.tokens ≡ c.write_number.new.out.tokens ++
    (key (codes "length") ∷ number (decimal (length payload)) ∷ []) = search rules in
    let head : c.write_header.new.out.tokens ≡ c.write_number-2.new.out.tokens ++ header_tokens c.args.skipped.word
    (c.args.skipped.code * 2 ^ 48 + length payload) = search rules in
    rw c.if-options.false (length_with_header c.args.out.now.tokens _ _ _ _ _ _ _ c.args.skipped.word
    (c.args.skipped.code * 2 ^ 48 + length payload) no_members flag code len head)
