use Rattle.std.proofs.Common.{sym, subst}
use Rattle.shared_core_codec.specs.Canonicity.{IsCanonicalIn}
use Rattle.shared_core_codec.specs.Tables.{IsTable}
use Rattle.shared_core_codec.proofs.CanonicityExactIn.{complete}
use Rattle.shared_core_fields.proofs.fields.CanonicalPayload.check_in.Goals as goal

pub invariant_of-result : goal.invariant_of-result
invariant_of-result g c =
    let same = g.met.T.PayloadTable.same c.args.schemas in
    let table = g.T.Tabled.table_of c.args.schemas in
    let valid = subst IsTable (sym same) (g.met.T.Schemas.valid c.args.schemas) in
    let h = subst (λ t. IsCanonicalIn t c.args.schema c.args.payload.now) (sym same)
    (c.is_canonical_in.ensures.0 c.if-is_canonical_in.true) in
    record { short = h.short; canonical = complete table valid c.args.schema c.args.payload.now h }
