use Rattle.std.proofs.Common.{◌≡◌, ◌++◌, true}
use Rattle.std.specs.List.{list_all}
use Rattle.shared_core_wire.specs.Value.{Number}
use Rattle.shared_core_codec.specs.FieldParts.{parts_of}
use Rattle.shared_core_codec.specs.ProgramRows.{kind_view}
use Rattle.shared_core_fields.specs.Runs.{held_numbers, numbers_left}
use Rattle.shared_core_fields.proofs.NumberParts.{is_held}
use Rattle.field_paths.specs.Values.{number_lines}
use Rattle.field_paths.proofs.value.push_numbers.Given as goal

abbrev pub invariant-loop-number : goal.invariant-loop-number
invariant-loop-number l =
    (l.out.items ++ number_lines (kind_view l.run.kind) (parts_of Number (numbers_left l.number-iterator))
    ≡ l.initial.out.items ++ number_lines (kind_view l.run.kind)
    (parts_of Number (held_numbers (kind_view l.run.kind) l.run.bytes.now)))
    × (list_all (is_held (kind_view l.run.kind)) (numbers_left l.number-iterator) ≡ true)
