use Rattle.std.proofs.Common.{◌≡◌, Some, sym, ap, subst, rules, ◌∙◌}
use Rattle.shared_core_codec.specs.Canonicity.{IsCanonicalIn}
use Rattle.shared_core_codec.specs.Tables.{IsTable}
use Rattle.shared_core_wire.specs.Overlay.{meaning}
use Rattle.dump_lines.proofs.Tokens.{shown_canonical}
use Rattle.dump_lines.proofs.lines.ItemWriter.write_payload.Goals as goal

pub known_in-known-requires : goal.known_in-known-requires
known_in-known-requires g c =
    let r = g.M.MessageTable.reading c.args.self.now.messages.now in
    let is : IsCanonicalIn r.table c.in-Some.schema c.as_slice.result.now = search rules in
    let same : c.as_slice-2.result.now ≡ c.as_slice.result.now = search rules in
    subst (IsCanonicalIn _ c.in-Some.schema) (sym same)
    (subst (λ t. IsCanonicalIn t c.in-Some.schema c.as_slice.result.now) (sym c.table.ensures.table) is)

pub returns-clause-tokens : goal.returns-clause-tokens
returns-clause-tokens g c =
    let r = g.M.MessageTable.reading c.args.self.now.messages.now in
    let s = c.in-Some.schema in
    let payload = c.args.payload.bytes.now in
    let known = c.known_in-known.result in
    let given = c.known_in-known.ensures.same in
    let found : r.schema_at c.args.payload.version c.args.payload.ty ≡ Some s = search rules in
    let is : known.bytes.now ≡ payload = search rules in
    let at = c.table.ensures.table in
    let canonical : IsCanonicalIn r.table s payload = search rules in
    shown_canonical r c.args.self.now.options.now.texts _ s payload known.schema known.bytes.now
    (g.M.Table.Tabled.table_of known.schemas) (g.M.Table.NamedSchemas.names known.schemas) c.args.out.now.tokens
    c.key.new.self.tokens c.write_payload.new.out.tokens found canonical.accepted
    (ap g.M.Table.Tabled.table_of given.0 ∙ at)
    (ap g.M.Table.NamedSchemas.names given.0 ∙ c.table.ensures.names) given.1 (ap (meaning r.table 100 s) is)
    (search rules) (search rules)
