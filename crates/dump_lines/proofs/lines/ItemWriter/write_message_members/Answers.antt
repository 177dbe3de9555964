use Rattle.std.proofs.Common.{◌≡◌, [], ◌∷◌, ◌++◌, rules, length, ◌∙◌}
use Rattle.std.proofs.lemmas.Result.{on_ok_weaker}
use Rattle.std.specs.Prelude.{codes, decimal}
use Rattle.json.specs.Token.{key, string, number, end_object}
use Rattle.json.specs.Json.{no_members}
use Rattle.json.specs.Tree.{members_tokens}
use Rattle.shared_core_base.specs.MessageType.{code_of, debug_name_of}
use Rattle.shared_core_base.specs.MessageHeader.{word_of}
use Rattle.dump_lines.specs.Lines.{ack_tokens, header_tokens, payload_members_in}
use Rattle.dump_lines.proofs.Tokens.{head_with_header}
use Rattle.dump_lines.proofs.lines.ItemWriter.write_message_members.Goals as goal

pub returns-then-self-clause-tokens : goal.returns-then-self-clause-tokens
returns-then-self-clause-tokens g c =
    let message = c.args.message.now in
    let ty : c.write_type.new.out.tokens ≡ c.args.out.now.tokens ++
    (key (codes "type") ∷ string (debug_name_of message.header.ty) ∷ []) = search rules in
    let code : c.write_number.new.out.tokens ≡ c.write_type.new.out.tokens ++
    (key (codes "code") ∷ number (decimal (code_of message.header.ty)) ∷ []) = search rules in
    let len : c.write_number-2.new.out.tokens ≡ c.write_number.new.out.tokens ++
    (key (codes "length") ∷ number (decimal (length message.payload)) ∷ []) = search rules in
    let ack : c.write_ack.new.out.tokens ≡ c.write_number-2.new.out.tokens ++ ack_tokens message.header.requested_ack =
    search rules in
    let head : c.write_header.new.out.tokens ≡ c.write_ack.new.out.tokens ++ header_tokens
    c.args.self.now.placed.now.word
    (word_of message.header) = search rules in
    let r = g.M.MessageTable.reading c.args.self.now.messages.now in
    let members = payload_members_in r c.args.self.now.options.now.texts
    (r.schema_at c.args.self.now.options.now.version message.header.ty) message.payload in
    rw c.if-self.true (on_ok_weaker c.write_payload.result
    (λ t. let last : c.write_payload.new.out.tokens ++ (end_object ∷ []) ≡ c.write_header.new.out.tokens ++
    members_tokens members = search (rules, t) in last ∙ head_with_header c.args.out.now.tokens _ _ _ _ _ _ _ _
    message.header.requested_ack c.args.self.now.placed.now.word (word_of message.header) members ty code len ack head)
    c.write_payload.ensures.tokens)

pub returns-clause-tokens : goal.returns-clause-tokens
returns-clause-tokens g c =
    let message = c.args.message.now in
    let ty : c.write_type.new.out.tokens ≡ c.args.out.now.tokens ++
    (key (codes "type") ∷ string (debug_name_of message.header.ty) ∷ []) = search rules in
    let code : c.write_number.new.out.tokens ≡ c.write_type.new.out.tokens ++
    (key (codes "code") ∷ number (decimal (code_of message.header.ty)) ∷ []) = search rules in
    let len : c.write_number-2.new.out.tokens ≡ c.write_number.new.out.tokens ++
    (key (codes "length") ∷ number (decimal (length message.payload)) ∷ []) = search rules in
    let ack : c.write_ack.new.out.tokens ≡ c.write_number-2.new.out.tokens ++ ack_tokens message.header.requested_ack =
    search rules in
    let head : c.write_header.new.out.tokens ≡ c.write_ack.new.out.tokens ++ header_tokens
    c.args.self.now.placed.now.word
    (word_of message.header) = search rules in
    rw c.if-self.false (head_with_header c.args.out.now.tokens _ _ _ _ _ _ _ _ message.header.requested_ack
    c.args.self.now.placed.now.word (word_of message.header) no_members ty code len ack head)
