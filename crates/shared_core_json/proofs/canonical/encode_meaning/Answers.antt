use Rattle.std.proofs.Common.{arith}
use Rattle.shared_core_json.proofs.CanonicalBytes.{canonical_bytes, on_both}
use Rattle.shared_core_json.proofs.canonical.encode_meaning.Goals as goal

pub returns-clause-canonical : goal.returns-clause-canonical
returns-clause-canonical g c =
    on_both c.encode_over.result (λ w s. canonical_bytes g.M.WireRecord.schema c.args._payload.now _
    (g.M.WireRecord.parts c.args.message.now) c.requires.meaning c.requires.accepted
    (λ i. omega (arith, c.type_inv._payload i)) w s) c.encode_over.ensures.written c.encode_over.ensures.short
