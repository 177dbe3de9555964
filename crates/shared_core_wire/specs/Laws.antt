-- The laws of payloads, over any table of schemas.
use Rattle.std.specs.Prelude.{◌≡◌, ◌<◌, ◌≤◌, ◌↔◌, ℕ, ◌^◌, List, [], ◌∷◌, ◌++◌, true}
use Rattle.std.specs.List.{list_all}
use Rattle.shared_core_wire.specs.Grammar.{FieldRecord, IsRecordListWithin}
use Rattle.shared_core_wire.specs.Schema.{Table, Row, table_of, is_schema}
use Rattle.shared_core_wire.specs.Value.{Parts}
use Rattle.shared_core_wire.specs.Acceptance.{accepts_records, accepts_payload}
use Rattle.shared_core_wire.specs.Overlay.{overlay, overlay_payload, meaning}
use Rattle.shared_core_wire.specs.Canonical.{canonical_payload, size, levels}
use Rattle.shared_core_wire.specs.Fitting.{Fits}

-- Every entry of the table is a valid schema; a message kind names one of them, since the table has an entry at every
-- number.
abbrev pub AreSchemas : Table → Type 0
AreSchemas table = (s : ℕ) → is_schema (table s) ≡ true

-- If every schema of a list is valid, every entry of the list's table is.
abbrev pub ListedSchemasLaw : List (List Row) → Type 0
ListedSchemasLaw schemas = list_all is_schema schemas ≡ true → AreSchemas (table_of schemas)

-- The value fits the schema s, its nesting depth is at most `left`, and its size is below 2 ^ 64, as the length of any
-- slice is.
abbrev pub IsWritable : Table → ℕ → ℕ → Parts → Type 0
IsWritable table left s v = Fits table v (table s) × (levels v ≤ left) × (size table s v < 2 ^ 64)

-- A payload is accepted if and only if it encodes a record list whose records the schema accepts.
abbrev pub AcceptanceLaw : Table → Type 0
AcceptanceLaw table = (left s : ℕ) (bytes : List ℕ)
    → (accepts_payload table left s bytes ≡ true)
    ↔ ((rs : List FieldRecord) × IsRecordListWithin left bytes rs × (accepts_records table left s rs ≡ true))

-- Merging an accepted list into any value, and then one more accepted record, is merging the longer list, which is
-- accepted too.
abbrev pub StepLaw : Table → Type 0
StepLaw table = (left s : ℕ) (v : Parts) (rs : List FieldRecord) (r : FieldRecord)
    → accepts_records table left s rs ≡ true → accepts_records table left s (r ∷ []) ≡ true
    → (accepts_records table left s (rs ++ r ∷ []) ≡ true)
    × (overlay table left s v (rs ++ r ∷ []) ≡ overlay table left s (overlay table left s v rs) (r ∷ []))

-- Accepted payloads can be joined, and merging the joined payload into any value is merging the one and then the other.
abbrev pub MergeLaw : Table → Type 0
MergeLaw table = (left s : ℕ) (v : Parts) (a b : List ℕ)
    → accepts_payload table left s a ≡ true → accepts_payload table left s b ≡ true
    → (accepts_payload table left s (a ++ b) ≡ true)
    × (overlay_payload table left s v (a ++ b) ≡ overlay_payload table left s (overlay_payload table left s v a) b)

-- The canonical payload of a value is accepted and means the value.
abbrev pub ReadBackLaw : Table → Type 0
ReadBackLaw table = (left s : ℕ) (v : Parts) → IsWritable table left s v
    → (accepts_payload table left s (canonical_payload table s v) ≡ true)
    × (meaning table left s (canonical_payload table s v) ≡ v)

-- Two values are equal if and only if their canonical payloads are.
abbrev pub OneEncodingLaw : Table → Type 0
OneEncodingLaw table = (left s : ℕ) (v w : Parts) → IsWritable table left s v → IsWritable table left s w
    → (v ≡ w) ↔ (canonical_payload table s v ≡ canonical_payload table s w)
