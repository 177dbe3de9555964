use Rattle.std.proofs.Common.{◌≡◌, ◌++◌, drop}
use Rattle.explain_lines.specs.Lines.{indentation}
use Rattle.explain_lines.proofs.columns.push_indentation.Given as goal

abbrev pub invariant-loop-field : goal.invariant-loop-field
invariant-loop-field l = l.text.items ++ indentation (drop l.field-index l.path)
    ≡ l.initial.text.items ++ indentation l.path
