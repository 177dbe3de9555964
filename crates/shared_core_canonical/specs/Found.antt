-- The records of a message by their rows.
use Rattle.std.specs.Prelude.{ℕ, ◌+◌, List, [], ◌∷◌, ◌++◌, flat_map, if◌then◌else◌}
use Rattle.std.specs.Prelude.{Option, Some, None, is_some}
use Rattle.shared_core_wire.specs.Grammar.{FieldRecord}
use Rattle.shared_core_wire.specs.Schema.{Row}
use Rattle.shared_core_wire.specs.declared.records.Record.{Record}
use Rattle.shared_core_codec.specs.Checking.{field_record_of}
use Rattle.shared_core_codec.specs.ProgramRows.{field_in_row}
use Rattle.shared_core_canonical.specs.declared.places.Placed.{Placed}
use Rattle.shared_core_canonical.specs.Places.{placed_views, values_at, views}
use Rattle.shared_core_canonical.specs.Rows.{NestedBytes, row_record}

-- The place of the first row that has a number, where the rows begin at a place.
abbrev pub place_in : List Row → ℕ → ℕ → Option ℕ
place_in [] place n = None
place_in (row ∷ rows) place n = if is_some (field_in_row row n) then Some place else place_in rows (place + 1) n

-- A record at the place that was found or not.
abbrev pub placed_record : Option ℕ → FieldRecord → List (Placed FieldRecord)
placed_record None r = []
placed_record (Some place) r = record { place = place; value = r } ∷ []

-- The records that have one of the rows, which begin at a place.
abbrev pub records_found : List Row → ℕ → List FieldRecord → List (Placed FieldRecord)
records_found rows place rs = flat_map (λ r. placed_record (place_in rows place r.number) r) rs

-- What is written for the records of some rows, which begin at a place.
abbrev pub places_record : NestedBytes → List Row → ℕ → List (Placed FieldRecord) → List ℕ
places_record nested [] place fs = []
places_record nested (row ∷ rows) place fs =
    row_record nested row (values_at place fs) ++ places_record nested rows (place + 1) fs

-- The records of the program, with their places and without.
abbrev pub found_views : List (Placed Record) → List (Placed FieldRecord)
found_views ps = placed_views field_record_of ps

abbrev pub found_records : List (Placed Record) → List FieldRecord
found_records ps = views field_record_of ps
