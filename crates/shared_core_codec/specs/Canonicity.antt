-- Which payloads are canonical for the schemas of a table, and for those of the protocol, and how the records of a
-- payload are checked for it, one after the other.
use Rattle.std.specs.Prelude.{◌≡◌, ℕ, zero, suc, ◌+◌, ◌-◌, ◌^◌, ◌<◌, ◌≤◌, Bool, true, false, not, ◌&&◌, ◌||◌, List, []}
use Rattle.std.specs.Prelude.{◌∷◌, length, nat_lt, ◌==◌, if◌then◌else◌, Option, Some, None, is_some, Result, Ok, Err}
use Rattle.shared_core_wire.specs.Grammar.{RecordValue, Varint, Length, FieldRecord}
use Rattle.shared_core_wire.specs.Reader.{◌>>=◌, varint_at, sequence_past, record_list}
use Rattle.shared_core_wire.specs.ReadRecords.{PlacedRecord}
use Rattle.shared_core_wire.specs.Encoding.{shortest_varint}
use Rattle.shared_core_wire.specs.Schema.{Table, Kind, Row, U32, U64, Boolean, Enumeration, Plain}
use Rattle.shared_core_wire.specs.Acceptance.{NestedAcceptance, accepts_number, accepts_bytes, accepts_payload}
use Rattle.shared_core_wire.specs.Acceptance.{some_passes}
use Rattle.shared_core_wire.specs.Overlay.{meaning}
use Rattle.shared_core_wire.specs.Canonical.{canonical_payload, levels}
use Rattle.shared_core_wire.specs.Fitting.{Fits}
use Rattle.shared_core_wire.specs.declared.error.WireError.{WireError}
use Rattle.shared_core_codec.specs.Table.{table as protocol}
use Rattle.shared_core_codec.specs.ProgramRows.{found_view, rows_view, field_in_row}
use Rattle.shared_core_codec.specs.declared.canonical.NextField.{NextField}
use Rattle.shared_core_codec.specs.RowEncoding.{varint_record, length_record, unpacked}

-- The payload is not too long for a header, is accepted, and is the canonical payload of what it means, which fits the
-- schema and is at most one hundred levels deep.
pub record IsCanonicalIn (table : Table) (s : ℕ) (payload : List ℕ) : Type 0 where
  pub short : length payload < 2 ^ 32
  pub accepted : accepts_payload table 100 s payload ≡ true
  pub fits : Fits table (meaning table 100 s payload) (table s)
  pub low : levels (meaning table 100 s payload) ≤ 100
  pub canonical : payload ≡ canonical_payload table s (meaning table 100 s payload)

-- The same for the schemas of the protocol.
abbrev pub IsCanonical : ℕ → List ℕ → Type 0
IsCanonical s payload = IsCanonicalIn protocol s payload

-- ---- record by record

-- Whether a number is written for a value of the kind: an enum's is that of 32 bits, sign-extended.
abbrev pub is_written_number : Kind → ℕ → Bool
is_written_number U32 n = nat_lt n 4294967296
is_written_number U64 n = true
is_written_number Boolean n = nat_lt n 2
is_written_number Enumeration n = nat_lt n 2147483648 || nat_lt 18446744071562067967 n
is_written_number k n = false

-- Whether a value of the kind is written as this value of a record; `nested` decides whether the bytes of a nested
-- message are canonical.
abbrev pub is_written_value : NestedAcceptance → Kind → RecordValue → Bool
is_written_value nested k (Varint n) = is_written_number k n
is_written_value nested k (Length bytes) = accepts_bytes nested k bytes
is_written_value nested k w = false

-- A varint in its shortest form, of a number that is written for a value of the kind.
unfoldable pub written_varint_at : Kind → List ℕ → Option (ℕ × List ℕ)
written_varint_at k bytes = varint_at bytes >>= λ x.
    if is_written_number k x.0 && (length (shortest_varint x.0) + length x.1 == length bytes) then Some x else None

-- Whether bytes are a packed run as it is written: one or more such varints, which fill them exactly.
abbrev pub is_written_run : Kind → List ℕ → Bool
is_written_run k run = not (length run == 0) && is_some (sequence_past (written_varint_at k) 0 run)

-- Whether a list of numbers of the kind is written as this value of a record.
abbrev pub is_written_list : Kind → RecordValue → Bool
is_written_list k (Length run) = is_written_run k run
is_written_list k w = false

-- Whether elements of a repeated field of the kind are written as this value of a record.
abbrev pub is_written_element : NestedAcceptance → Kind → RecordValue → Bool
is_written_element nested k w = if accepts_number k then is_written_list k w else is_written_value nested k w

-- Whether a value is a default: 0, false or empty.
abbrev pub is_default_value : RecordValue → Bool
is_default_value (Varint n) = n == 0
is_default_value (Length bytes) = length bytes == 0
is_default_value w = false

-- Whether a row is a plain field, whose default is not written.
abbrev pub is_plain : Row → Bool
is_plain (Plain n k) = true
is_plain row = false

-- Whether a field of a kind, repeated or not, is written as this value of a record.
abbrev pub is_written_field : NestedAcceptance → Bool → Kind × Bool → RecordValue → Bool
is_written_field nested plain (k, true) w = is_written_element nested k w
is_written_field nested plain (k, false) w = is_written_value nested k w && not (plain && is_default_value w)

-- Whether a field is a list of numbers, which is packed.
abbrev pub is_packed : Kind × Bool → Bool
is_packed f = accepts_number f.0 && f.1

-- Whether a field may be written as more than one record.
abbrev pub may_recur : Kind × Bool → Bool
may_recur f = f.1 && unpacked f.0

-- A field of which a record may come next: its kind and whether it is repeated, whether it is plain, and the rows that
-- may come after the record.
pub record Next : Type 0 where
  pub field : Kind × Bool
  pub is_plain : Bool
  pub rows : List Row

-- The same of the program.
abbrev pub next_view : NextField → Next
next_view n = record { field = found_view n.field; is_plain = n.is_plain; rows = rows_view n.rows }

-- The first row's field, if it is found there; otherwise that of the later rows.
abbrev pub found_or : Row → List Row → Option Next → Option (Kind × Bool) → Option Next
found_or row rows later None = later
found_or row rows later (Some f) =
    Some (record { field = f; is_plain = is_plain row; rows = if may_recur f then row ∷ rows else rows })

-- The field of the first row that has the number.
abbrev pub next_field : List Row → ℕ → Option Next
next_field [] n = None
next_field (row ∷ rows) n = found_or row rows (next_field rows n) (field_in_row row n)

-- The rows that may come after a record of the field, if it is written as the record's value.
abbrev pub rows_after_field : NestedAcceptance → RecordValue → Next → Option (List Row)
rows_after_field nested w next = if is_written_field nested next.is_plain next.field w then Some next.rows else None

-- The rows that may come after a record, if one of these is written as the record.
abbrev pub rows_after : NestedAcceptance → List Row → FieldRecord → Option (List Row)
rows_after nested rows r = next_field rows r.number >>= rows_after_field nested r.value

-- The number of bytes of a record that is written for a field.
abbrev pub written_size : FieldRecord → ℕ
written_size r = elim r.value [
  | Varint n ↦ length (varint_record r.number n)
  | Length bytes ↦ length (length_record r.number bytes)
  | _ ↦ 0
]

-- The rows that may still come, and the number of bytes that the records still have to have.
abbrev pub Coming : Type 0
Coming = List Row × ℕ

-- What may come after a record.
abbrev pub coming_after : NestedAcceptance → Coming → FieldRecord → Option Coming
coming_after nested s r = rows_after nested s.0 r >>= λ rows.
    if nat_lt s.1 (written_size r) then None else Some (rows, s.1 - written_size r)

-- Whether all bytes belong to records.
abbrev pub is_complete : Coming → Bool
is_complete s = s.1 == 0

-- Whether the records may come in this order, and have the number of bytes that is left.
abbrev pub all_come : NestedAcceptance → Coming → List FieldRecord → Bool
all_come nested s [] = is_complete s
all_come nested s (r ∷ rs) = elim (coming_after nested s r) [ None ↦ false | Some next ↦ all_come nested next rs ]

-- The same of the items of a payload.
abbrev pub all_come_read : NestedAcceptance → Coming → List (Result PlacedRecord WireError) → Bool
all_come_read nested s [] = is_complete s
all_come_read nested s (Ok r ∷ items) =
    elim (coming_after nested s r.field_record) [ None ↦ false | Some next ↦ all_come_read nested next items ]
all_come_read nested s (Err e ∷ items) = false

-- Whether the bytes of a nested message are canonical, where the record that holds them allows `left` levels of
-- nesting.
unfoldable pub is_canonical_message_in : Table → ℕ → NestedAcceptance
is_canonical_message_in table zero s bytes = false
is_canonical_message_in table (suc left) s bytes =
    some_passes (all_come (is_canonical_message_in table left) (table s, length bytes)) (record_list 0 bytes)

-- Whether a payload is canonical, where its records allow `left` levels of nesting; no group is.
abbrev pub is_canonical_payload_in : Table → ℕ → ℕ → List ℕ → Bool
is_canonical_payload_in table left s bytes =
    some_passes (all_come (is_canonical_message_in table left) (table s, length bytes)) (record_list 0 bytes)

-- ---- for the schemas of the protocol

-- Whether the bytes of a nested message are canonical.
abbrev pub is_canonical_message : ℕ → NestedAcceptance
is_canonical_message = is_canonical_message_in protocol

-- Whether a payload is canonical.
abbrev pub is_canonical_payload : ℕ → ℕ → List ℕ → Bool
is_canonical_payload = is_canonical_payload_in protocol
