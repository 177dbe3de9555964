-- Tables of other field numbers: whose fields their entries are.
use Rattle.std.specs.Prelude.{◌≡◌, ℕ, ◌+◌, Option, Some, option_map}
use Rattle.shared_core_wire.specs.Schema.{Kind, Message}
use Rattle.shared_core_codec.specs.ProgramRows.{field_numbered}
use Rattle.shared_core_codec.specs.Table.{table}
use Rattle.shared_core_renumber.specs.declared.entries.Renumbering.{Renumbering}
use Rattle.schema_lines.specs.declared.numbering.Direction.{Direction}
use Rattle.schema_lines.specs.declared.numbering.Direction.TheVariants.{Reading, Writing}
use Rattle.schema_lines.specs.declared.numbering.Match.{Match}

-- Of the kind of a message the number of its schema and one, otherwise 0.
abbrev pub nested_of : Kind → ℕ
nested_of (Message s) = s + 1
nested_of k = 0

-- The same of the field of a number of a schema of the protocol, if there is one.
abbrev pub nested_at : ℕ → ℕ → Option ℕ
nested_at s n = option_map (λ field. nested_of field.0) (field_numbered (table s) n)

-- A match is of a field of a schema of the protocol.
abbrev pub IsMatch : ℕ → Match → Type 0
IsMatch s m = nested_at s m.ours ≡ Some m.nested

-- Which of the numbers of an entry is the protocol's.
abbrev pub our_number : Direction → Renumbering → ℕ
our_number Reading e = e.renumbered
our_number Writing e = e.number

-- An entry is of a field of the protocol, with the schema of its message.
abbrev pub IsOurs : Direction → Renumbering → Type 0
IsOurs direction e = nested_at e.schema (our_number direction e) ≡ Some e.nested
