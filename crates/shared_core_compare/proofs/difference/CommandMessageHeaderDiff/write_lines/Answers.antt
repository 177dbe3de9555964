use Rattle.shared_core_compare.proofs.Lines.{fields_are_lines}
use Rattle.shared_core_compare.proofs.difference.CommandMessageHeaderDiff.write_lines.Goals as goal

pub returns : goal.returns
returns g c plain ok =
    fields_are_lines g.W.Write.write_str_gives c.args.indentation.now c.args.f.now c.write_fields.new.out _
    (c.write_fields.ensures ok) plain
