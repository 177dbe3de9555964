-- What contracts see of a table.
use Rattle.std.specs.Prelude.{◌≡◌}
use Rattle.json.specs.Json.{Json}
use Rattle.json.specs.Tree.{json_tokens}
use Rattle.json_table.specs.Entries.{first_value, value_of}
use Rattle.json_table.specs.Views.{entries_from, AreValue}
use Rattle.json_table.specs.declared.table.Storage.{Storage}
use Rattle.json_table.specs.declared.table.Storage.TheVariants.{Tape, List}

-- The value of a table: that of the tokens of a tape, or of the entries of a list.
abbrev pub stored_value : Storage → Json
stored_value (Tape tokens) = first_value tokens
stored_value (List entries) = value_of (entries_from 0 entries.items)

-- There is such a value.
abbrev pub HasValue : Storage → Type 0
HasValue (Tape tokens) = (j : Json) × (tokens ≡ json_tokens j)
HasValue (List entries) = AreValue entries.items 0
