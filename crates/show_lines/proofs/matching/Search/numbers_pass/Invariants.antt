use Rattle.std.proofs.Common.{◌≡◌}
use Rattle.shared_core_wire.specs.Value.{Number}
use Rattle.shared_core_codec.specs.FieldParts.{parts_of}
use Rattle.shared_core_codec.specs.ProgramRows.{kind_view}
use Rattle.shared_core_fields.specs.Runs.{held_numbers, numbers_left}
use Rattle.show_lines.specs.Filter.{numbers_pass}
use Rattle.show_lines.proofs.matching.Search.numbers_pass.Given as goal

abbrev pub invariant-loop-number : goal.invariant-loop-number
invariant-loop-number l = numbers_pass l.self.test.now l.name (parts_of Number (numbers_left l.number-iterator))
    ≡ numbers_pass l.self.test.now l.name
    (parts_of Number (held_numbers (kind_view l.run.kind) l.run.bytes.now))
