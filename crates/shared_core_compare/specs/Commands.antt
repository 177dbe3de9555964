-- What is compared of a command, and what is printed if two of them differ.
use Rattle.std.specs.Prelude.{ℕ, List, [], ◌∷◌, nat_eq, if◌then◌else◌}
use Rattle.shared_core_wire.specs.Schema.{Row, numbers, includes}
use Rattle.shared_core_wire.specs.Value.{Part, Parts, Absent, nil, cons}
use Rattle.shared_core_codec.specs.Table.{table}
pub use Rattle.shared_core_compare.specs.CommandFields.{CommandFields}
pub use Rattle.shared_core_compare.specs.CommandTable.{commands, name_number}

-- The entry of a schema in such a list, or one without fields.
abbrev pub entry_of : List (ℕ × CommandFields) → ℕ → CommandFields
entry_of [] s = record { not_compared = []; payloads = []; printed = [] }
entry_of (entry ∷ entries) s = if nat_eq s entry.0 then entry.1 else entry_of entries s

-- The fields of a command, by its schema.
abbrev pub command_fields : ℕ → CommandFields
command_fields s = entry_of commands s

-- ---- what a command holds

-- The first of some parts, or absent.
abbrev pub first_part : Parts → Part
first_part nil = Absent
first_part (cons p ps) = p

-- The parts after the first.
abbrev pub rest_parts : Parts → Parts
rest_parts nil = nil
rest_parts (cons p ps) = ps

-- What a value holds in the row that has this number.
abbrev pub row_part : List Row → Parts → ℕ → Part
row_part [] v n = Absent
row_part (row ∷ rows) v n = if includes (numbers row) n then first_part v else row_part rows (rest_parts v) n

-- The name of a command of a schema.
abbrev pub name_part : ℕ → Parts → Part
name_part s command = row_part (table s) command name_number
