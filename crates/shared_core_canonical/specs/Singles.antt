-- The last record of a row, as the program has it.
use Rattle.std.specs.Prelude.{List, length, ◌==◌, if◌then◌else◌, ℕ, Option, Some, None}
use Rattle.shared_core_wire.specs.Grammar.{content}
use Rattle.shared_core_wire.specs.View.{value_of}
use Rattle.shared_core_codec.specs.ProgramRows.{kind_view}
use Rattle.shared_core_canonical.specs.declared.single.Single.{Single}
use Rattle.shared_core_canonical.specs.Rows.{LastValue}

-- Contents that were joined: the last one, if no bytes were joined to it.
abbrev pub whole : List ℕ → List ℕ → List ℕ
whole last joined = if length joined == 0 then last else joined

-- The last record, with the joined contents.
abbrev pub single_view : Single → List ℕ → LastValue
single_view s joined = record {
  number = s.field.number;
  kind = kind_view s.field.kind;
  value = value_of s.value;
  joined = whole (content (value_of s.value)) joined;
}

-- The same, if there is one.
abbrev pub last_view : Option Single → List ℕ → Option LastValue
last_view None joined = None
last_view (Some s) joined = Some (single_view s joined)
