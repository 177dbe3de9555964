-- Which payloads are well-formed for a schema.
use Rattle.std.specs.Prelude.{ℕ, zero, suc, Bool, true, false, List, Option, Some, None, if◌then◌else◌, is_some}
use Rattle.std.specs.List.{list_all}
use Rattle.std.specs.Str.{is_utf8}
use Rattle.shared_core_wire.specs.Grammar.{RecordValue, Varint, Length, FieldRecord}
use Rattle.shared_core_wire.specs.Reader.{packed_numbers, record_list}
use Rattle.shared_core_wire.specs.Schema.{Table, Kind, Row, U32, U64, Boolean, Enumeration, Text, ByteString, Message}
use Rattle.shared_core_wire.specs.Schema.{Plain, Optional, Repeated, OneOf, numbers, includes, member_kind}

-- Whether the bytes of a nested message are well-formed for the schema with this number.
abbrev pub NestedAcceptance : Type 0
NestedAcceptance = ℕ → List ℕ → Bool

-- Whether a field of this kind is written as a varint.
abbrev pub accepts_number : Kind → Bool
accepts_number U32 = true
accepts_number U64 = true
accepts_number Boolean = true
accepts_number Enumeration = true
accepts_number k = false

-- Whether a field of this kind accepts these length-delimited bytes.
abbrev pub accepts_bytes : NestedAcceptance → Kind → List ℕ → Bool
accepts_bytes nested Text bytes = is_utf8 bytes
accepts_bytes nested ByteString bytes = true
accepts_bytes nested (Message s) bytes = nested s bytes
accepts_bytes nested k bytes = false

-- Whether a field of this kind accepts the value of a record: its wire type is that of the kind, and its bytes are
-- well-formed.
abbrev pub accepts_value : NestedAcceptance → Kind → RecordValue → Bool
accepts_value nested k (Varint n) = accepts_number k
accepts_value nested k (Length bytes) = accepts_bytes nested k bytes
accepts_value nested k w = false

-- Whether a list of numbers accepts the value of a record: one number, or a packed run.
abbrev pub accepts_numbers : RecordValue → Bool
accepts_numbers (Varint n) = true
accepts_numbers (Length bytes) = is_some (packed_numbers bytes)
accepts_numbers w = false

-- Whether a repeated field of this kind accepts the value of a record; one of numbers also accepts a packed run.
abbrev pub accepts_element : NestedAcceptance → Kind → RecordValue → Bool
accepts_element nested k w = if accepts_number k then accepts_numbers w else accepts_value nested k w

-- Whether the row, which has the record's number, accepts its value.
abbrev pub accepts_in_row : NestedAcceptance → Row → FieldRecord → Bool
accepts_in_row nested (Plain n k) r = accepts_value nested k r.value
accepts_in_row nested (Optional n k) r = accepts_value nested k r.value
accepts_in_row nested (Repeated n k) r = accepts_element nested k r.value
accepts_in_row nested (OneOf members) r = accepts_value nested (member_kind members r.number) r.value

-- Whether the row allows the record: the row does not have the record's number, or it accepts its value.
abbrev pub row_allows : NestedAcceptance → FieldRecord → Row → Bool
row_allows nested r row = if includes (numbers row) r.number then accepts_in_row nested row r else true

-- Whether a payload of a schema may have the record; a record whose number is not in the schema is skipped.
abbrev pub accepts_record : NestedAcceptance → List Row → FieldRecord → Bool
accepts_record nested rows r = list_all (row_allows nested r) rows

-- Whether there is a value, and it passes the test.
abbrev pub some_passes : {X : Type 0} → (X → Bool) → Option X → Bool
some_passes test None = false
some_passes test (Some x) = test x

-- Whether the bytes of a nested message are well-formed for the schema, where the record that holds them allows `left`
-- levels of nesting.
unfoldable pub accepts_message : Table → ℕ → NestedAcceptance
accepts_message table zero s bytes = false
accepts_message table (suc left) s bytes = some_passes (list_all
    (accepts_record (accepts_message table left) (table s))) (record_list left bytes)

-- Whether a payload of the schema may have each of the records, which allow `left` levels of nesting.
abbrev pub accepts_records : Table → ℕ → ℕ → List FieldRecord → Bool
accepts_records table left s rs = list_all (accepts_record (accepts_message table left) (table s)) rs

-- Whether a payload is well-formed for the schema, where its records allow `left` levels of nesting.
abbrev pub accepts_payload : Table → ℕ → ℕ → List ℕ → Bool
accepts_payload table left s bytes = some_passes (accepts_records table left s) (record_list left bytes)
