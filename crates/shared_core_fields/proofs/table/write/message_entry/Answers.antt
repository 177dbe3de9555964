use Rattle.std.proofs.Common.{arith}
use Rattle.shared_core_codec.proofs.Canonicity.{sound}
use Rattle.shared_core_fields.proofs.table.write.message_entry.Goals as goal

pub returns-clause-exact : goal.returns-clause-exact
returns-clause-exact c =
    (sound c.args.schema c.args.bytes.now (λ i. omega (arith, c.type_inv.bytes i)) c.requires.short
    c.requires.canonical).canonical
