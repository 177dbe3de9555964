use Rattle.std.proofs.Common.{◌≡◌, ◌<◌, ◌^◌, length, arith, rules}
use Rattle.shared_core_wire.specs.Canonical.{canonical_payload}
use Rattle.shared_core_wire.specs.Overlay.{meaning}
use Rattle.shared_core_codec.specs.Tables.{IsAcceptedIn}
use Rattle.shared_core_canonical.proofs.WholePayloads.{whole_payload}
use Rattle.shared_core_canonical.proofs.payload.canonical_payload_in.Goals as goal

pub returns-clause-canonical : goal.returns-clause-canonical
returns-clause-canonical g c =
    let table = g.T.Schemas.table c.args.schemas.now in
    let s = c.args.schema in
    let payload = c.args.payload.now in
    let accepted : IsAcceptedIn table s payload = search rules in
    let written : c.in_ok-out.out.items ≡ canonical_payload table s (meaning table 100 s payload) = search rules in
    let short : length c.in_ok-out.out.items < 2 ^ 32 = search rules in
    whole_payload table (g.met.T.Schemas.valid c.args.schemas.now) s payload c.in_ok-out.out.items accepted
    (λ i. omega (arith, c.type_inv.payload i)) written short
