-- Going over the records of a payload, where each is checked for the schema.
use Rattle.std.specs.Prelude.{Bool, true, false, List, [], ◌∷◌, Option, Some, None, Result, Ok, Err, if◌then◌else◌}
use Rattle.shared_core_wire.specs.Grammar.{RecordValue, FieldRecord}
use Rattle.shared_core_wire.specs.ReadRecords.{PlacedRecord}
use Rattle.shared_core_wire.specs.Schema.{Kind}
use Rattle.shared_core_wire.specs.Acceptance.{NestedAcceptance, accepts_value, accepts_element}
use Rattle.shared_core_wire.specs.View.{value_of}
use Rattle.shared_core_wire.specs.declared.error.WireError.{WireError}
use Rattle.shared_core_wire.specs.declared.records.Record.{Record}

-- The record of a record of the program, without its place.
abbrev pub field_record_of : Record → FieldRecord
field_record_of r = record { number = r.number; value = value_of r.value }

-- Whether a field that was found accepts the value of a record; a record of no field is skipped.
abbrev pub accepts_found : NestedAcceptance → Option (Kind × Bool) → RecordValue → Bool
accepts_found nested None w = true
accepts_found nested (Some (k, true)) w = accepts_element nested k w
accepts_found nested (Some (k, false)) w = accepts_value nested k w

-- Whether the items of a payload are records that all pass the test.
abbrev pub all_read : (FieldRecord → Bool) → List (Result PlacedRecord WireError) → Bool
all_read test [] = true
all_read test (Ok r ∷ items) = if test r.field_record then all_read test items else false
all_read test (Err e ∷ items) = false
