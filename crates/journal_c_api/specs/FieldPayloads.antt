-- The result of the call that writes a table of fields as a payload.
use Rattle.std.specs.Prelude.{◌≡◌, ℕ, ◌-◌, ◌<◌, ◌≤◌, true, false, nat_lt, List, [], ◌∷◌, length}
use Rattle.std.specs.Prelude.{Option, Some, None, Result, Ok, Err}
use Rattle.shared_core_codec.specs.Table.{schema_count}
use Rattle.shared_core_codec.specs.Canonicity.{IsCanonical}
use Rattle.shared_core_fields.specs.declared.table.FieldEntry.{FieldEntry}
use Rattle.shared_core_fields_writer.specs.declared.error.Reason.{Reason}
use Rattle.shared_core_fields_writer.specs.declared.error.Reason.TheVariants as reasons
use Rattle.shared_core_fields_writer.specs.Walk.{entries_payload}
use Rattle.journal_c_api.specs.declared.outcome.CallError.{CallError}
use Rattle.journal_c_api.specs.declared.outcome.CallError.TheVariants.{NoRoom, TooLong, UnknownSchema}
use Rattle.journal_c_api.specs.Outcomes.{written_over}

-- What a table is written as: its payload, or the number of a kind and the index of the first entry that may not come.
pub data Writing : Type 0 where
  Payload : List ℕ → Writing
  Rejected : ℕ → ℕ → Writing

-- The two numbers of a writing: its kind, and which entry is the first that may not come.
abbrev pub writing_numbers : Writing → List ℕ
writing_numbers (Payload payload) = 0 ∷ 0 ∷ []
writing_numbers (Rejected kind index) = kind ∷ index ∷ []

-- The bytes of a writing: the payload, or nothing.
abbrev pub writing_bytes : Writing → List ℕ
writing_bytes (Payload payload) = payload
writing_bytes (Rejected kind index) = []

-- The kind of a reason for which an entry may not come; the last one is a reason of whole tables.
abbrev pub rejected_kind : Reason → Option ℕ
rejected_kind reasons.UnknownField = Some 1
rejected_kind reasons.OutOfOrder = Some 2
rejected_kind reasons.SeveralMembers = Some 3
rejected_kind reasons.WrongKind = Some 4
rejected_kind reasons.OutOfRange = Some 5
rejected_kind reasons.NotUtf8 = Some 6
rejected_kind reasons.OutOfBounds = Some 7
rejected_kind reasons.WrongLevel = Some 8
rejected_kind reasons.TooDeep = Some 9
rejected_kind reasons.TooLong = None

-- A table is written as this for a schema: as the payload that its entries give, which is canonical; or as the kind of
-- the reason for which one of them may not come, and the index of that entry.
abbrev pub IsWriting : ℕ → List FieldEntry → List ℕ → Writing → Type 0
IsWriting s es bytes (Payload payload) = (entries_payload s es bytes ≡ Ok payload) × IsCanonical s payload
IsWriting s es bytes (Rejected kind index) =
    (reason : Reason) × (entries_payload s es bytes ≡ Err (reason, length es - index)) × (index ≤ length es)
    × (rejected_kind reason ≡ Some kind)

-- The payload that a table gives is too long for a header.
abbrev pub GivesTooLong : ℕ → List FieldEntry → List ℕ → Type 0
GivesTooLong s es bytes = (left : ℕ) × (entries_payload s es bytes ≡ Err (reasons.TooLong, left))

-- Why nothing is written for a table: its payload is too long.
abbrev pub FailsTable : ℕ → List FieldEntry → List ℕ → CallError → Type 0
FailsTable s es bytes TooLong = GivesTooLong s es bytes
FailsTable s es bytes failure = ⊥

-- The number of the kind of a reason for which an entry may not come, or the error for one of the whole table.
abbrev pub SaysKind : Reason → Result ℕ CallError → Type 0
SaysKind reason (Ok kind) = rejected_kind reason ≡ Some kind
SaysKind reason (Err TooLong) = reason ≡ reasons.TooLong
SaysKind reason (Err failure) = ⊥

-- Why the call is rejected: UnknownSchema if no schema has the number, otherwise NoRoom if there is room for fewer than
-- two numbers, otherwise for the reason for which no payload of the table can be written.
abbrev pub RejectsTable : ℕ → ℕ → List FieldEntry → List ℕ → CallError → Type 0
RejectsTable s room es bytes UnknownSchema = nat_lt s schema_count ≡ false
RejectsTable s room es bytes NoRoom = (nat_lt s schema_count ≡ true) × (room < 2)
RejectsTable s room es bytes failure =
    (nat_lt s schema_count ≡ true) × (2 ≤ room) × FailsTable s es bytes failure

-- The result of journal_payload_of_fields, and what it writes: the numbers and the bytes of what the table is written
-- as. An error leaves both slices unchanged.
abbrev pub WritesPayload : ℕ → List FieldEntry → List ℕ → List ℕ → List ℕ → List ℕ → List ℕ → Result ℕ CallError
    → Type 0
WritesPayload s es bytes numbers_old numbers_new old new (Ok count) =
    (nat_lt s schema_count ≡ true) × (2 ≤ length numbers_old) × (writing : Writing) × IsWriting s es bytes writing
    × (count ≡ length (writing_bytes writing)) × (numbers_new ≡ written_over (writing_numbers writing) numbers_old)
    × (new ≡ written_over (writing_bytes writing) old)
WritesPayload s es bytes numbers_old numbers_new old new (Err failure) =
    RejectsTable s (length numbers_old) es bytes failure × (numbers_new ≡ numbers_old) × (new ≡ old)
