use Rattle.std.proofs.Common.{◌≡◌, ◌++◌, drop}
use Rattle.std.specs.Prelude.{string_bytes}
use Rattle.explain_lines.specs.Texts.{path_text}
use Rattle.explain_lines.proofs.lines.push_path.Given as goal

abbrev pub invariant-loop-field : goal.invariant-loop-field
invariant-loop-field l = string_bytes l.text ++ path_text (drop l.field-index l.path)
    ≡ string_bytes l.initial.text ++ path_text l.path
