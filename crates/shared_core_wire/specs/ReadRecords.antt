-- The items that reading a payload gives: its records, and at most one error.
use Rattle.std.specs.Prelude.{◌≡◌, ℕ, zero, suc, ◌+◌, ◌-◌, ◌<◌, ◌≤◌, List, [], ◌∷◌, length, Option, Some, None, Result}
use Rattle.std.specs.Prelude.{Ok, Err}
use Rattle.std.specs.List.{slice_range}
use Rattle.shared_core_wire.specs.declared.error.WireError.{WireError}
use Rattle.shared_core_wire.specs.declared.error.WireError.TheVariants.{Malformed}
use Rattle.shared_core_wire.specs.Grammar.{RecordValue, Varint, Fixed64, Length, Group, Fixed32, FieldRecord}
use Rattle.shared_core_wire.specs.Reader.{record_at}

-- A record, and where its bytes are in the payload: from an offset to the offset after its last byte.
pub record PlacedRecord : Type 0 where
  pub field_record : FieldRecord
  pub from : ℕ
  pub to : ℕ

-- The bytes are a slice of the payload between two offsets.
abbrev pub IsSliceWithin : List ℕ → ℕ → ℕ → List ℕ → Type 0
IsSliceWithin payload from to bytes = (start : ℕ) × (from ≤ start) × (start + length bytes ≤ to)
    × (slice_range payload start (start + length bytes) ≡ bytes)

-- The slice of a value, if it has one, is a slice of the payload between two offsets.
abbrev pub IsValueWithin : List ℕ → ℕ → ℕ → RecordValue → Type 0
IsValueWithin payload from to (Varint n) = Unit {0}
IsValueWithin payload from to (Fixed64 bytes) = IsSliceWithin payload from to bytes
IsValueWithin payload from to (Length bytes) = IsSliceWithin payload from to bytes
IsValueWithin payload from to (Group bytes) = IsSliceWithin payload from to bytes
IsValueWithin payload from to (Fixed32 bytes) = IsSliceWithin payload from to bytes

-- The items that the bytes of the payload from an offset on give, where Encodes defines which bytes encode a record.
-- Records come in order, and the span of each begins where the one before ended; the slice of its span encodes it, and
-- its value's slice is part of that. The list ends without Malformed at the payload's end. Malformed comes where bytes
-- are left that do not begin with a record, and it is the last item.
abbrev pub AreRecordsFrom : (List ℕ → FieldRecord → Type 0) → List ℕ → ℕ → List (Result PlacedRecord WireError) → Type 0
AreRecordsFrom Encodes payload place [] = place ≡ length payload
AreRecordsFrom Encodes payload place (Ok r ∷ items) = (r.from ≡ place) × (r.from < r.to) × (r.to ≤ length payload)
    × Encodes (slice_range payload r.from r.to) r.field_record
    × IsValueWithin payload r.from r.to r.field_record.value
    × AreRecordsFrom Encodes payload r.to items
AreRecordsFrom Encodes payload place (Err e ∷ items) = (e ≡ Malformed) × (items ≡ []) × (place < length payload)
    × ((to : ℕ) (r : FieldRecord) → Encodes (slice_range payload place to) r → ⊥)

-- A record without its offsets.
abbrev pub without_place : Result PlacedRecord WireError → Result FieldRecord WireError
without_place (Ok r) = Ok r.field_record
without_place (Err e) = Err e

-- The number of records among the items.
abbrev pub record_count : List (Result PlacedRecord WireError) → ℕ
record_count [] = 0
record_count (Ok r ∷ items) = suc (record_count items)
record_count (Err e ∷ items) = record_count items

-- ---- computed

-- The items of the last bytes of a payload of length `end`, where `one` reads a record and the next `past` bytes are
-- skipped first.
unfoldable pub records_past : (List ℕ → Option (FieldRecord × List ℕ)) → ℕ → ℕ → List ℕ → List
    (Result PlacedRecord WireError)
records_past one end past [] = []
records_past one end (suc past) (b ∷ bs) = records_past one end past bs
records_past one end zero (b ∷ bs) = elim (one (b ∷ bs)) [
  | None ↦ Err Malformed ∷ []
  | Some r ↦ Ok (record { field_record = r.0; from = end - length (b ∷ bs); to = end - length r.1 }) ∷ records_past one
      end (length bs - length r.1) bs
]

-- The items of a payload, whose records allow `left` levels of nesting.
unfoldable pub read_records : ℕ → List ℕ → List (Result PlacedRecord WireError)
read_records left payload = records_past (record_at left) (length payload) 0 payload
