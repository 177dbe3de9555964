-- Where the content of a record is in the payload, which slicing a shared payload needs.
use Rattle.std.specs.Prelude.{◌≡◌, ℕ, ◌-◌, ◌≤◌, List, [], ◌∷◌, length, Result, Ok, Err}
use Rattle.std.specs.List.{slice_range}
use Rattle.shared_core_wire.specs.declared.error.WireError.{WireError}
use Rattle.shared_core_wire.specs.Grammar.{RecordValue, content}
use Rattle.shared_core_wire.specs.ReadRecords.{PlacedRecord}

-- These are the bytes of the payload right before an offset.
abbrev pub EndsAt : List ℕ → ℕ → List ℕ → Type 0
EndsAt payload to bytes = (to ≤ length payload) × (length bytes ≤ to) ×
    (slice_range payload (to - length bytes) to ≡ bytes)

-- Length-delimited bytes are the last of the record's bytes.
abbrev pub LiesBefore : List ℕ → ℕ → RecordValue → Type 0
LiesBefore payload to v = EndsAt payload to (content v)

-- The length-delimited bytes of each record are the last of its bytes.
abbrev pub EachLies : List ℕ → List (Result PlacedRecord WireError) → Type 0
EachLies payload [] = Unit {0}
EachLies payload (Ok r ∷ items) = LiesBefore payload r.to r.field_record.value × EachLies payload items
EachLies payload (Err e ∷ items) = Unit {0}
