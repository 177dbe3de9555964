use Rattle.shared_core_compare.proofs.Compared.{same_without_lines}
use Rattle.shared_core_compare.proofs.laws.unequal_commands_print_a_difference.Goals as goal

pub returns-clause-law : goal.returns-clause-law
returns-clause-law g c differs indentation name none =
    let same = c.header_eq.ensures.1 (same_without_lines g.M.WireRecord.schema indentation
    (g.M.WireRecord.parts c.args.a.now) (g.M.WireRecord.parts c.args.b.now)
    g.met.M.CommandMessageHeaderDiff.printed_whole name none) in cc
