-- The numbers of packed runs.
use Rattle.std.specs.Prelude.{ℕ, List, [], map, Option, Some, None}
use Rattle.shared_core_wire.specs.Reader.{packed_numbers}
use Rattle.shared_core_wire.specs.Schema.{Kind}
use Rattle.shared_core_codec.specs.ProgramRows.{kind_view}
use Rattle.shared_core_fields.specs.NumberValues.{number_value}
use Rattle.shared_core_fields.specs.declared.runs.RunNumbers.{RunNumbers}

-- The numbers that were found, or none.
abbrev pub numbers_or_none : Option (List ℕ) → List ℕ
numbers_or_none None = []
numbers_or_none (Some ns) = ns

-- The numbers of a packed run; none, if the bytes are not varints.
abbrev pub run_numbers : List ℕ → List ℕ
run_numbers run = numbers_or_none (packed_numbers run)

-- The numbers that the elements of a packed run of the kind hold.
abbrev pub held_numbers : Kind → List ℕ → List ℕ
held_numbers k run = map (number_value k) (run_numbers run)

-- What an iterator over the numbers of a run has still to return.
abbrev pub numbers_left : RunNumbers → List ℕ
numbers_left n = held_numbers (kind_view n.kind) n.rest.now
