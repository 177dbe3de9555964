-- What contracts see of the program's own types.
use Rattle.shared_core_json_reader.specs.Scalars as spec
use Rattle.shared_core_json_reader.specs.declared.scalars.Whole.{Whole}

-- The whole number of the program.
abbrev pub whole_view : Whole → spec.Whole
whole_view w = record { negative = w.negative; magnitude = w.magnitude }
