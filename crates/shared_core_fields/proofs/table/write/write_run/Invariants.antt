use Rattle.std.proofs.Common.{◌≡◌, ◌+◌, ℕ, List, length, true}
use Rattle.std.specs.List.{list_all}
use Rattle.shared_core_wire.specs.Value.{Number}
use Rattle.shared_core_codec.specs.FieldParts.{parts_of}
use Rattle.shared_core_codec.specs.ProgramRows.{kind_view}
use Rattle.shared_core_fields.specs.Rows.{run_rows, WritesRows}
use Rattle.shared_core_fields.specs.Runs.{held_numbers, run_numbers, numbers_left}
use Rattle.shared_core_fields.specs.declared.table.FieldEntry.{FieldEntry}
use Rattle.shared_core_fields.proofs.NumberParts.{is_held}
use Rattle.shared_core_fields.proofs.table.write.write_run.Given as goal

abbrev pub invariant-loop-value : goal.invariant-loop-value
invariant-loop-value l =
    (l.count + length (numbers_left l.value-iterator) ≡ l.at + length (run_numbers l.run.bytes.now))
    × ((payload : List ℕ) (new : List FieldEntry) → WritesRows payload
    (run_rows l.level l.number (kind_view l.run.kind) (parts_of Number (numbers_left l.value-iterator))) l.count l.out
    new
    → WritesRows payload (run_rows l.level l.number (kind_view l.run.kind) (parts_of Number
    (held_numbers (kind_view l.run.kind) l.run.bytes.now))) l.at l.initial.out new)
    × (list_all (is_held (kind_view l.run.kind)) (numbers_left l.value-iterator) ≡ true)
