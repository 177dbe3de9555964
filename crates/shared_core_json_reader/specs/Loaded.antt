-- Formats that are made at run time.
use Rattle.std.specs.Prelude.{◌≡◌, ℕ, List, Some, None, Result, Ok, Err}
use Rattle.shared_core_wire.specs.Schema.{Row, table_of}
use Rattle.shared_core_codec.specs.TableErrors.{table_error}
use Rattle.shared_core_json.specs.Fields.{Names}
use Rattle.shared_core_json_reader.specs.declared.readable_error.ReadableError.{ReadableError}
use Rattle.shared_core_json_reader.specs.declared.readable_error.ReadableError.TheVariants as error
use Rattle.shared_core_json_reader.specs.Rows.{Format, EnumValues}
use Rattle.shared_core_json_reader.specs.Readable.{unreadable_from}

-- The format of these schemas with these names of their fields and of the values of their enums.
abbrev pub loaded_format : List (List Row) → Names → EnumValues → Format
loaded_format schemas names values = record { table = table_of schemas; names = names; values = values }

-- A table comes only if JSON can be read by the schemas with these names. Errors are the first schema whose names are
-- wrong, and the first field that no table may have.
abbrev pub ReturnsTable : {T : Type 0} → List (List Row) → List (List (ℕ × List ℕ)) → Result T ReadableError → Type 0
ReturnsTable schemas names (Ok table) = (unreadable_from 0 names schemas ≡ None) × (table_error schemas ≡ None)
ReturnsTable schemas names (Err (error.Names s)) = unreadable_from 0 names schemas ≡ Some s
ReturnsTable schemas names (Err (error.Field e)) = (unreadable_from 0 names schemas ≡ None) ×
    (table_error schemas ≡ Some e)
ReturnsTable schemas names (Err error.OutOfMemory) = Unit {0}
