use Rattle.std.proofs.Common.{◌≡◌, drop, map}
use Rattle.show_lines.specs.Words.{field_said, named_field}
use Rattle.show_lines.proofs.filter.field_of.Given as goal

abbrev pub invariant-loop-name : goal.invariant-loop-name
invariant-loop-name l =
    field_said (drop l.name-index (map named_field l.fields)) l.text ≡ field_said (map named_field l.fields) l.text
