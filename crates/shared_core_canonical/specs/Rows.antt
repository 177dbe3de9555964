-- What is written for the records of a row, as the program reads them.
use Rattle.std.specs.Prelude.{ℕ, ◌%◌, ◌^◌, Bool, true, false, List, [], ◌∷◌, ◌++◌, nat_eq, ◌==◌, flat_map}
use Rattle.std.specs.Prelude.{if◌then◌else◌, Option, Some, None, is_some, Result, Ok, Err}
use Rattle.shared_core_wire.specs.Grammar.{RecordValue, Varint, Length, FieldRecord, content}
use Rattle.shared_core_wire.specs.Reader.{packed_numbers}
use Rattle.shared_core_wire.specs.ReadRecords.{PlacedRecord, read_records}
use Rattle.shared_core_wire.specs.Encoding.{shortest_varint}
use Rattle.shared_core_wire.specs.Schema.{Table, Kind, Row, U32, U64, Boolean, Enumeration, Message}
use Rattle.shared_core_wire.specs.Schema.{Plain, Optional, Repeated, OneOf}
use Rattle.shared_core_wire.specs.Acceptance.{NestedAcceptance, accepts_number}
use Rattle.shared_core_wire.specs.Value.{empty_value}
use Rattle.shared_core_wire.specs.Overlay.{message_overlay}
use Rattle.shared_core_wire.specs.Canonical.{canonical_payload, written_number}
use Rattle.shared_core_wire.specs.WrittenRecords.{number_record, content_record}
use Rattle.shared_core_wire.specs.declared.error.WireError.{WireError}
use Rattle.shared_core_codec.specs.ProgramRows.{field_in_row}

-- The records among the items that reading a payload gives.
abbrev pub records_of : List (Result PlacedRecord WireError) → List FieldRecord
records_of [] = []
records_of (Ok r ∷ items) = r.field_record ∷ records_of items
records_of (Err e ∷ items) = records_of items

-- The records of a payload, as they are read.
abbrev pub records_read : ℕ → List ℕ → List FieldRecord
records_read left bytes = records_of (read_records left bytes)

-- ---- one value

-- The canonical bytes of a nested message, by its schema and what was read of it.
abbrev pub NestedBytes : Type 0
NestedBytes = ℕ → List ℕ → List ℕ

-- The canonical payload of what the bytes of a nested message mean, where the record that holds them allows `left`
-- levels of nesting.
unfoldable pub nested_bytes : Table → ℕ → NestedBytes
nested_bytes table left s bytes = canonical_payload table s (message_overlay table left s (empty_value (table s)) bytes)

-- The number that is written for one that was read.
abbrev pub rewritten_number : Kind → ℕ → ℕ
rewritten_number U32 n = n % 2 ^ 32
rewritten_number U64 n = n
rewritten_number Boolean n = if n == 0 then 0 else 1
rewritten_number Enumeration n = written_number Enumeration (n % 2 ^ 32)
rewritten_number k n = n

-- The record of a value that is not a message; a default is left out in a plain field.
abbrev pub scalar_record : Bool → ℕ → Kind → RecordValue → List ℕ
scalar_record plain n k (Varint v) = number_record plain n (rewritten_number k v)
scalar_record plain n k (Length bytes) = content_record plain n bytes
scalar_record plain n k w = []

-- ---- repeated fields

-- What is written for a record, as an element of the field of this number.
abbrev pub scalar_element : ℕ → Kind → FieldRecord → List ℕ
scalar_element n k r = if nat_eq r.number n then scalar_record false n k r.value else []

-- The same, where the elements are messages of a schema.
abbrev pub message_element : NestedBytes → ℕ → ℕ → FieldRecord → List ℕ
message_element nested n s r = if nat_eq r.number n then content_record false n (nested s (content r.value)) else []

-- The varints that are written for numbers of a kind.
abbrev pub rewritten_varints : Kind → List ℕ → List ℕ
rewritten_varints k ns = flat_map (λ n. shortest_varint (rewritten_number k n)) ns

-- The same of numbers that may not have been read.
abbrev pub found_varints : Kind → Option (List ℕ) → List ℕ
found_varints k None = []
found_varints k (Some ns) = rewritten_varints k ns

-- What a value adds to a packed run of a kind.
abbrev pub run_part : Kind → RecordValue → List ℕ
run_part k (Varint n) = shortest_varint (rewritten_number k n)
run_part k (Length bytes) = found_varints k (packed_numbers bytes)
run_part k w = []

-- Whether a value may be part of a packed run: any but bytes that varints do not fill exactly.
abbrev pub is_run_value : RecordValue → Bool
is_run_value (Length bytes) = is_some (packed_numbers bytes)
is_run_value w = true

-- What a record adds to the packed run of the field of this number.
abbrev pub run_record : ℕ → Kind → FieldRecord → List ℕ
run_record n k r = if nat_eq r.number n then run_part k r.value else []

-- What is written for the records of a repeated field whose elements are not packed.
abbrev pub element_records : NestedBytes → ℕ → Kind → List FieldRecord → List ℕ
element_records nested n (Message s) rs = flat_map (message_element nested n s) rs
element_records nested n k rs = flat_map (scalar_element n k) rs

-- What is written for the records of a repeated field: numbers are packed into one record.
abbrev pub repeated_record : NestedBytes → ℕ → Kind → List FieldRecord → List ℕ
repeated_record nested n k rs =
    if accepts_number k then content_record true n (flat_map (run_record n k) rs) else element_records nested n k rs

-- ---- fields that are not repeated

-- The last record of a field or of a oneof: its number, the kind of that field, its value, and the joined contents of
-- the records of its number at the end.
pub record LastValue : Type 0 where
  pub number : ℕ
  pub kind : Kind
  pub value : RecordValue
  pub joined : List ℕ

-- What was joined so far for records of this number.
abbrev pub joined_for : ℕ → Option LastValue → List ℕ
joined_for n None = []
joined_for n (Some l) = if nat_eq l.number n then l.joined else []

-- The last record after one more, of a field that was found in the row or not.
abbrev pub last_found : Option LastValue → FieldRecord → Option (Kind × Bool) → Option LastValue
last_found l r None = l
last_found l r (Some f) = Some (record {
  number = r.number;
  kind = f.0;
  value = r.value;
  joined = joined_for r.number l ++ content r.value;
})

-- The last record of the row after some more records.
abbrev pub last_over : Row → Option LastValue → List FieldRecord → Option LastValue
last_over row l [] = l
last_over row l (r ∷ rs) = last_over row (last_found l r (field_in_row row r.number)) rs

-- What is written for the last record of a field of this kind.
abbrev pub last_record : NestedBytes → Bool → LastValue → Kind → List ℕ
last_record nested plain l (Message s) = content_record false l.number (nested s l.joined)
last_record nested plain l k = scalar_record plain l.number k l.value

-- What is written for the last record, if there is one.
abbrev pub single_record : NestedBytes → Bool → Option LastValue → List ℕ
single_record nested plain None = []
single_record nested plain (Some l) = last_record nested plain l l.kind

-- ---- rows

-- What is written for the records of a row.
abbrev pub row_record : NestedBytes → Row → List FieldRecord → List ℕ
row_record nested (Plain n k) rs = single_record nested true (last_over (Plain n k) None rs)
row_record nested (Optional n k) rs = single_record nested false (last_over (Optional n k) None rs)
row_record nested (Repeated n k) rs = repeated_record nested n k rs
row_record nested (OneOf members) rs = single_record nested false (last_over (OneOf members) None rs)

-- What is written for the records of some rows.
abbrev pub rows_record : NestedBytes → List Row → List FieldRecord → List ℕ
rows_record nested [] rs = []
rows_record nested (row ∷ rows) rs = row_record nested row rs ++ rows_record nested rows rs

-- ---- what is required of the records

-- Whether a record may be of a list of numbers: it has another number, or a number or a packed run.
abbrev pub run_allows : ℕ → FieldRecord → Bool
run_allows n r = if nat_eq r.number n then is_run_value r.value else true

-- Whether a record may be of a repeated message: it has another number, or its content is accepted for the schema.
abbrev pub message_allows : NestedAcceptance → ℕ → ℕ → FieldRecord → Bool
message_allows nested n s r = if nat_eq r.number n then nested s (content r.value) else true
