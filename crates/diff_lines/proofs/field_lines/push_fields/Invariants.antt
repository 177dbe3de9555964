use Rattle.std.proofs.Common.{◌≡◌, ◌++◌, length}
use Rattle.std.specs.Prelude.{flat_map}
use Rattle.diff_lines.specs.FieldLines.{field_line}
use Rattle.diff_lines.proofs.field_lines.push_fields.Given as goal

abbrev pub invariant-loop-left : goal.invariant-loop-left
invariant-loop-left l =
    l.text.items ++ flat_map (field_line l.fn.pen.look) l.left ≡ l.fn.text.items
    ++ flat_map (field_line l.fn.pen.look) l.fn.fields

abbrev pub decreases-loop-left : goal.decreases-loop-left
decreases-loop-left l = length l.left
