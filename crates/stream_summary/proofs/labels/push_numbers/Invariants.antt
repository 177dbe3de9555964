use Rattle.std.proofs.Common.{◌≡◌, ◌++◌}
use Rattle.std.specs.Prelude.{string_bytes}
use Rattle.shared_core_wire.specs.Value.{Number}
use Rattle.shared_core_codec.specs.FieldParts.{parts_of}
use Rattle.shared_core_codec.specs.ProgramRows.{kind_view}
use Rattle.shared_core_fields.specs.Runs.{held_numbers, numbers_left}
use Rattle.stream_summary.specs.Labels.{numbers_labels}
use Rattle.stream_summary.proofs.labels.push_numbers.Given as goal

abbrev pub invariant-loop-number : goal.invariant-loop-number
invariant-loop-number l = string_bytes l.line ++ numbers_labels l.name (parts_of Number (numbers_left
    l.number-iterator))
    ≡ string_bytes l.initial.line ++ numbers_labels l.name
    (parts_of Number (held_numbers (kind_view l.run.kind) l.run.bytes.now))
