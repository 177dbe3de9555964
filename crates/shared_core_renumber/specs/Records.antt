-- The records of a payload at other field numbers.
use Rattle.std.specs.Prelude.{ℕ, ◌-◌, ◌%◌, ◌^◌, Bool, false, ◌&&◌, List, [], ◌∷◌, ◌++◌, length}
use Rattle.std.specs.Prelude.{nat_eq, nat_lt, flat_map, if◌then◌else◌}
use Rattle.shared_core_wire.specs.Encoding.{is_field_number}
use Rattle.shared_core_wire.specs.Grammar.{RecordValue, Varint, Fixed64, Length, Group, Fixed32, FieldRecord}
use Rattle.shared_core_canonical.specs.Rows.{records_read}
use Rattle.shared_core_renumber.specs.declared.entries.Renumbering.{Renumbering}
use Rattle.shared_core_renumber.specs.Entries.{from_schema}
use Rattle.shared_core_renumber.specs.Written.{FoundRecord, NestedBytes, nested_bytes, records_found}

-- The value at the other numbers of the field of an entry: only what a message holds changes.
abbrev pub moved_value : NestedBytes → Renumbering → RecordValue → RecordValue
moved_value inner e (Length b) = Length (if nat_eq e.nested 0 then b else (inner (e.nested - 1) b))
moved_value inner e w = w

-- The record with the other number of an entry.
abbrev pub moved_record : Renumbering → RecordValue → List FieldRecord
moved_record e w = record { number = e.renumbered % 2 ^ 32; value = w } ∷ []

-- The record of a value of the field of an entry; a number or bytes.
abbrev pub value_records : NestedBytes → Renumbering → RecordValue → List FieldRecord
value_records inner e (Varint v) = moved_record e (Varint v)
value_records inner e (Length b) = moved_record e (moved_value inner e (Length b))
value_records inner e w = []

-- The record that one of a field that the table has becomes, among those of the group at a place.
abbrev pub group_records : NestedBytes → ℕ → FoundRecord → List FieldRecord
group_records inner place f = if nat_eq f.place place then value_records inner f.entry f.value else []

-- Those that the first of some entries, which is of a schema, makes after an entry of a group: all of its group, unless
-- that is the same one.
abbrev pub first_records : NestedBytes → ℕ → Renumbering → List Renumbering → List FoundRecord → List FieldRecord
first_records inner before e es fs = if nat_eq e.group before then [] else
    (flat_map (group_records inner (length (e ∷ es))) fs)

-- Those that the entries of a schema, which are at the front, make after an entry of a group: group by group.
abbrev pub entries_records : NestedBytes → ℕ → ℕ → List Renumbering → List FoundRecord → List FieldRecord
entries_records inner s before [] fs = []
entries_records inner s before (e ∷ es) fs = if nat_eq e.schema s then
    (first_records inner before e es fs ++ entries_records inner s e.group es fs) else []

-- The records of a payload at other numbers, whose records allow `left` levels of nesting.
abbrev pub moved_records : List Renumbering → ℕ → ℕ → List ℕ → List FieldRecord
moved_records es left s bytes = entries_records (nested_bytes es left) s 0 (from_schema s es)
    (records_found s (from_schema s es) (records_read left bytes))

-- Whether a value is a number of 64 bits, or bytes that as many bits can count.
abbrev pub is_writable_value : RecordValue → Bool
is_writable_value (Varint n) = nat_lt n (2 ^ 64)
is_writable_value (Fixed64 bytes) = false
is_writable_value (Length bytes) = nat_lt (length bytes) (2 ^ 64)
is_writable_value (Group bytes) = false
is_writable_value (Fixed32 bytes) = false

-- Whether a record has a field number and such a value.
abbrev pub is_writable : FieldRecord → Bool
is_writable r = is_field_number r.number && is_writable_value r.value
