use Rattle.std.proofs.Common.{◌∙◌, sym, subst, arith}
use Rattle.shared_core_codec.specs.Canonicity.{IsCanonicalIn}
use Rattle.shared_core_codec.specs.Tables.{IsTable}
use Rattle.dump_lines.proofs.ReadPayloads.{test_is}
use Rattle.dump_lines.proofs.lines.is_canonical.Goals as goal

pub returns-clause-test : goal.returns-clause-test
returns-clause-test g c =
    let schemas = c.table.result in
    let at = sym (g.met.M.Table.PayloadTable.same schemas) ∙ c.table.ensures.table in
    let valid = subst IsTable at (g.met.M.Table.Schemas.valid schemas) in
    let table = (g.M.MessageTable.reading c.args.messages.now).table in
    test_is table c.args.schema c.args.payload.now c.is_canonical_in.result valid
    (λ i. omega (arith, c.type_inv.payload i))
    (λ e. subst (λ t. IsCanonicalIn t c.args.schema c.args.payload.now) at (c.is_canonical_in.ensures.0 e))
    (λ h. c.is_canonical_in.ensures.1 (subst (λ t. IsCanonicalIn t c.args.schema c.args.payload.now) (sym at) h))

pub returns-clause-canonical : goal.returns-clause-canonical
returns-clause-canonical g c =
    let at = sym (g.met.M.Table.PayloadTable.same c.table.result) ∙ c.table.ensures.table in
    λ e. subst (λ t. IsCanonicalIn t c.args.schema c.args.payload.now) at (c.is_canonical_in.ensures.0 e)
