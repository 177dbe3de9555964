use Rattle.std.proofs.Common.{sym, subst, arith}
use Rattle.shared_core_codec.specs.Canonicity.{IsCanonicalIn}
use Rattle.shared_core_codec.specs.Tables.{IsTable}
use Rattle.shared_core_codec.proofs.CanonicityIn.{sound}
use Rattle.shared_core_json.proofs.write.write_checked.Goals as goal

pub write_within-requires : goal.write_within-requires
write_within-requires g c =
    let table = g.T.Tabled.table_of c.args.form.schemas in
    let valid = subst IsTable (sym (g.met.T.PayloadTable.same c.args.form.schemas))
    (g.met.T.Schemas.valid c.args.form.schemas) in
    let canonical : IsCanonicalIn table c.args.schema c.args.bytes.now = sound table valid c.args.schema
    c.args.bytes.now (λ i. omega (arith, c.type_inv.bytes i)) c.requires.short c.requires.canonical in
    record { short = c.requires.short; canonical = c.requires.canonical; deep = canonical.low }
