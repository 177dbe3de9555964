use Rattle.shared_core_compare.proofs.Compared.{same_without_payloads}
use Rattle.shared_core_compare.proofs.laws.equality_with_payloads_implies_equality_without.Goals as goal

pub returns-clause-law : goal.returns-clause-law
returns-clause-law g c first = c.header_eq-2.ensures.1 (same_without_payloads g.M.WireRecord.schema
    (g.M.WireRecord.parts c.args.a.now) (g.M.WireRecord.parts c.args.b.now) (c.header_eq.ensures.0 first))
