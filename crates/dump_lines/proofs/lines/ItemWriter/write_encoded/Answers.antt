use Rattle.std.proofs.Common.{◌≡◌, ◌++◌, List, ℕ, Option, Ok, Err, Some, None, rules, sym, ap, subst, ◌∙◌}
use Rattle.json.specs.Json.{Members}
use Rattle.json.specs.Tree.{members_tokens}
use Rattle.shared_core_json.specs.declared.error.JsonError.TheVariants.{Malformed}
use Rattle.shared_core_wire.specs.Overlay.{meaning}
use Rattle.dump_lines.specs.Canonical.{ReturnsEncodingIn}
use Rattle.dump_lines.proofs.Tokens.{shown_canonical, shown_malformed}
use Rattle.dump_lines.proofs.lines.ItemWriter.write_encoded.Goals as goal

pub returns-in_ok-write_payload-in-Ok-Some-clause-tokens : goal.returns-in_ok-write_payload-in-Ok-Some-clause-tokens
returns-in_ok-write_payload-in-Ok-Some-clause-tokens g c =
    let r = g.M.MessageTable.reading c.args.self.now.messages.now in
    let s = c.in-Ok-Some.schema in
    let payload = c.args.payload.bytes.now in
    let known = c.known_in-known.result in
    let given = c.known_in-known.ensures.same in
    let found : ReturnsEncodingIn r (r.schema_at c.args.payload.version c.args.payload.ty) payload
    c.canonical_of.new.canonical.items (Ok (Some s)) = search rules in
    let is : known.bytes.now ≡ c.canonical_of.new.canonical.items = search rules in
    shown_canonical r c.args.self.now.options.now.texts _ s payload known.schema known.bytes.now
    (g.M.Table.Tabled.table_of known.schemas) (g.M.Table.NamedSchemas.names known.schemas) c.args.out.now.tokens
    c.key.new.self.tokens c.write_payload.new.out.tokens found.0 found.1
    (ap g.M.Table.Tabled.table_of given.0 ∙ c.table.ensures.table)
    (ap g.M.Table.NamedSchemas.names given.0 ∙ c.table.ensures.names) given.1 (ap (meaning r.table 100 s) is ∙ found.3)
    (search rules) (search rules)

pub returns-in_ok-write_malformed-in-Err-Malformed-clause-tokens :
    goal.returns-in_ok-write_malformed-in-Err-Malformed-clause-tokens
returns-in_ok-write_malformed-in-Err-Malformed-clause-tokens g c =
    let r = g.M.MessageTable.reading c.args.self.now.messages.now in
    let payload = c.args.payload.bytes.now in
    let found : ReturnsEncodingIn r (r.schema_at c.args.payload.version c.args.payload.ty) payload
    c.canonical_of.new.canonical.items (Err Malformed) = search rules in
    c.in_ok-write_malformed-in-Err-Malformed.ensures.tokens
    ∙ ap (λ (ms : Members). c.args.out.now.tokens ++ members_tokens ms)
    (sym (shown_malformed r c.args.self.now.options.now.texts _ found.0 payload found.1 found.2))
