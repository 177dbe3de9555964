-- What is written of a payload at other field numbers.
use Rattle.std.specs.Prelude.{ℕ, zero, suc, ◌-◌, ◌%◌, ◌^◌, Bool, false, List, [], ◌∷◌, ◌++◌, length, map}
use Rattle.std.specs.Prelude.{flat_map}
use Rattle.std.specs.Prelude.{Option, Some, None, nat_eq, if◌then◌else◌}
use Rattle.shared_core_wire.specs.Grammar.{RecordValue, Varint, Length, FieldRecord}
use Rattle.shared_core_wire.specs.View.{value_of}
use Rattle.shared_core_wire.specs.WrittenRecords.{number_record, content_record}
use Rattle.shared_core_canonical.specs.declared.places.Placed.{Placed}
use Rattle.shared_core_canonical.specs.Places.{placed_views, views}
use Rattle.shared_core_canonical.specs.Rows.{records_read}
use Rattle.shared_core_renumber.specs.declared.entries.Renumbering.{Renumbering}
use Rattle.shared_core_renumber.specs.declared.found.Found.{Found}
use Rattle.shared_core_renumber.specs.Entries.{find_in, from_schema}
use Rattle.shared_core_renumber.specs.Allowed.{NestedTest, value_allows}

-- ---- the records that a table has

-- A record of a field that a table has: the value, the field's entry, and the place of that.
pub record FoundRecord : Type 0 where
  pub place : ℕ
  pub entry : Renumbering
  pub value : RecordValue

-- The record of a value, by the entry that was found or not.
abbrev pub found_record : Option (Placed Renumbering) → RecordValue → List FoundRecord
found_record None w = []
found_record (Some p) w = record { place = p.place; entry = p.value; value = w } ∷ []

-- Those among some records, by the entries of a schema, which are at the front.
abbrev pub records_found : ℕ → List Renumbering → List FieldRecord → List FoundRecord
records_found s es rs = flat_map (λ r. found_record (find_in s r.number es) r.value) rs

-- Whether its entry allows its value.
abbrev pub is_allowed : NestedTest → FoundRecord → Bool
is_allowed inner f = value_allows inner f.entry f.value

-- ---- the same, as the program has them

-- A record without its place: the field's entry, and the value.
abbrev pub FoundValue : Type 0
FoundValue = Renumbering × RecordValue

-- The records of the fields of some entries by how many of these stand before the first one of a group.
abbrev pub ranked : ℕ → List FoundRecord → List (Placed FoundValue)
ranked count fs = map (λ f. record { place = count - f.place; value = (f.entry, f.value) }) fs

-- A record of the program.
abbrev pub value_view : Found → FoundValue
value_view f = (f.entry, value_of f.value)

-- Those of the program, with their places and without.
abbrev pub found_views : List (Placed Found) → List (Placed FoundValue)
found_views ps = placed_views value_view ps

abbrev pub found_values : List (Placed Found) → List FoundValue
found_values ps = views value_view ps

-- Whether the entry of a record allows its value.
abbrev pub allows_found : NestedTest → FoundValue → Bool
allows_found inner v = value_allows inner v.0 v.1

-- ---- what is written of them

-- What is written of a message within, by its schema and its bytes.
abbrev pub NestedBytes : Type 0
NestedBytes = ℕ → List ℕ → List ℕ

-- The record of a value of the field of an entry.
abbrev pub value_bytes : NestedBytes → Renumbering → RecordValue → List ℕ
value_bytes inner e (Varint v) = number_record false (e.renumbered % 2 ^ 32) v
value_bytes inner e (Length b) = content_record false (e.renumbered % 2 ^ 32)
    (if nat_eq e.nested 0 then b else (inner (e.nested - 1) b))
value_bytes inner e w = []

-- The same of a record that was found.
abbrev pub found_bytes : NestedBytes → FoundValue → List ℕ
found_bytes inner v = value_bytes inner v.0 v.1

-- What is written of a record of a field that the table has, among those of the group at a place.
abbrev pub group_bytes : NestedBytes → ℕ → FoundRecord → List ℕ
group_bytes inner place f = if nat_eq f.place place then value_bytes inner f.entry f.value else []

-- What is written of records by the first of some entries, which is of a schema, after an entry of a group: all of its
-- group, unless that is the same one.
abbrev pub first_bytes : NestedBytes → ℕ → Renumbering → List Renumbering → List FoundRecord → List ℕ
first_bytes inner before e es fs = if nat_eq e.group before then [] else
    (flat_map (group_bytes inner (length (e ∷ es))) fs)

-- What is written of records by the entries of a schema, which are at the front, after an entry of a group: group by
-- group.
abbrev pub entries_bytes : NestedBytes → ℕ → ℕ → List Renumbering → List FoundRecord → List ℕ
entries_bytes inner s before [] fs = []
entries_bytes inner s before (e ∷ es) fs = if nat_eq e.schema s then
    (first_bytes inner before e es fs ++ entries_bytes inner s e.group es fs) else []

-- What is written of records by the entries of a schema, which are at the front.
abbrev pub records_bytes : NestedBytes → ℕ → List Renumbering → List FieldRecord → List ℕ
records_bytes inner s es rs = entries_bytes inner s 0 es (records_found s es rs)

-- What is written of a message within, where the record that holds it allows `left` levels of nesting.
unfoldable pub nested_bytes : List Renumbering → ℕ → NestedBytes
nested_bytes es zero s bytes = []
nested_bytes es (suc left) s bytes = records_bytes (nested_bytes es left) s (from_schema s es) (records_read left bytes)

-- What is written of a payload whose records allow `left` levels of nesting.
abbrev pub payload_bytes : List Renumbering → ℕ → ℕ → List ℕ → List ℕ
payload_bytes es left s bytes = records_bytes (nested_bytes es left) s (from_schema s es) (records_read left bytes)
