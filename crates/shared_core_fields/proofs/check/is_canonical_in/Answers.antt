use Rattle.std.proofs.Common.{◌<◌, ◌^◌, ◌∙◌, length, sym, arith, rules}
use Rattle.shared_core_codec.proofs.CanonicityIn.{sound}
use Rattle.shared_core_codec.proofs.CanonicityExactIn.{complete}
use Rattle.shared_core_fields.proofs.check.is_canonical_in.Goals as goal

pub returns : goal.returns
returns g c =
    let short : length c.args.payload.now < 2 ^ 32 = search rules in
    let table = g.T.Schemas.table c.args.schemas.now in
    let valid = g.met.T.Schemas.valid c.args.schemas.now in (
      λ e. sound table valid c.args.schema c.args.payload.now (λ i. omega (arith, c.type_inv.payload i)) short
          (sym c.is_canonical_bytes.ensures ∙ e),
      λ h. c.is_canonical_bytes.ensures ∙ complete table valid c.args.schema c.args.payload.now h,
    )
