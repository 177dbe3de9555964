use Rattle.std.proofs.Common.{sym, subst, arith}
use Rattle.shared_core_codec.specs.Tables.{IsTable}
use Rattle.shared_core_codec.proofs.CanonicityExactIn.{complete}
use Rattle.shared_core_fields.proofs.fields.CanonicalPayload.known_in.Goals as goal

pub invariant_of-result : goal.invariant_of-result
invariant_of-result g c =
    let table = g.T.Tabled.table_of c.args.schemas in
    let valid = subst IsTable (sym (g.met.T.PayloadTable.same c.args.schemas)) (g.met.T.Schemas.valid c.args.schemas) in
    record {
      short = omega (arith, c.requires.short);
      canonical = complete table valid c.args.schema c.args.bytes.now c.requires;
    }
