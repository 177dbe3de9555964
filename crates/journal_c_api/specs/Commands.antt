-- The result of the calls on commands.
use Rattle.std.specs.Prelude.{◌≡◌, ◌⊎◌, ℕ, Bool, List, Option, Some, None, Result, Ok, Err, codes, ◌++◌, [], ◌∷◌}
use Rattle.std.specs.Prelude.{false, length, nat_lt, slice_get, MatchBool, Vec}
use Rattle.shared_core_base.specs.declared.header.MessageType.{MessageType}
use Rattle.shared_core_base.specs.MessageType.{type_of}
use Rattle.shared_core_wire.specs.Value.{Parts}
use Rattle.shared_core_codec.specs.Payloads.{IsAccepted, payload_meaning}
use Rattle.shared_core_compare.specs.Differences.{FieldTexts, difference, differing_fields}
use Rattle.shared_core_compare.specs.Erasure.{AreSame}
use Rattle.shared_core.specs.Visiting.{command_schema}
use Rattle.journal_c_api.specs.declared.outcome.CallError.{CallError}
use Rattle.journal_c_api.specs.declared.outcome.CallError.TheVariants.{Malformed, MalformedSecond, OutOfMemory}
use Rattle.journal_c_api.specs.declared.outcome.CallError.TheVariants.{NoRoom, UnknownType}
use Rattle.journal_c_api.specs.Outcomes.{written_over}
use Rattle.replay_bench.specs.declared.fields.FieldDifference.{FieldDifference}
use Rattle.replay_bench.specs.Fields.{listed_texts}

-- If both payloads are well-formed for the schema, this holds of the result and of the two commands that they mean;
-- otherwise the result is Malformed if the first is not, and MalformedSecond if only the second is not. An allocation
-- may fail.
abbrev pub ComparesPayloads : {T : Type 0} → (T → Parts → Parts → Type 0) → ℕ → List ℕ → List ℕ → Result T CallError →
    Type 0
ComparesPayloads holds s first second (Ok outcome) =
    IsAccepted s first × IsAccepted s second × holds outcome (payload_meaning s first) (payload_meaning s second)
ComparesPayloads holds s first second (Err Malformed) = ¬ (IsAccepted s first)
ComparesPayloads holds s first second (Err MalformedSecond) = IsAccepted s first × ¬ (IsAccepted s second)
ComparesPayloads holds s first second (Err OutOfMemory) = Unit {0}
ComparesPayloads holds s first second (Err error) = ⊥

-- The number is 1 and two commands of a schema are the same except for what is not compared, or it is 0 and they are
-- not.
abbrev pub IsOneWhereSame : ℕ → Bool → ℕ → Parts → Parts → Type 0
IsOneWhereSame s ignore number a b = ((number ≡ 1) × AreSame s ignore a b) ⊎ ((number ≡ 0) × ¬ (AreSame s ignore a b))

-- The text is the difference of two commands of a schema, each line after three spaces.
abbrev pub IsDifference : ℕ → List ℕ → Parts → Parts → Type 0
IsDifference s text a b = text ≡ difference s (codes "   ") a b

-- What holds at the schema of a command's type; without a schema the result is UnknownType.
abbrev pub AtSchema : {T : Type 0} → Option ℕ → Result T CallError → (ℕ → Type 0) → Type 0
AtSchema (Some s) outcome holds = holds s
AtSchema None outcome holds = outcome ≡ Err UnknownType

-- The schema of a type's payloads, if there is a type and its messages are commands.
abbrev pub schema_of_type : Option MessageType → Option ℕ
schema_of_type (Some ty) = command_schema ty
schema_of_type None = None

-- Whether two commands are the same.
abbrev pub ComparesCommands : ℕ → Bool → List ℕ → List ℕ → Result ℕ CallError → Type 0
ComparesCommands code ignore first second outcome =
    AtSchema (schema_of_type (type_of code)) outcome (λ s. ComparesPayloads (IsOneWhereSame s ignore) s first second
    outcome)

-- Two payloads with the same bytes are the same command, whatever allocations would fail.
abbrev pub KeepsSameness : ℕ → List ℕ → List ℕ → Result ℕ CallError → Type 0
KeepsSameness code first second outcome = (s : ℕ) → schema_of_type (type_of code) ≡ Some s → IsAccepted s first
    → first ≡ second → outcome ≡ Ok 1

-- The result of journal_header_eq.
abbrev pub ReturnsSameness : ℕ → Bool → List ℕ → List ℕ → Result ℕ CallError → Type 0
ReturnsSameness code ignore first second outcome =
    ComparesCommands code ignore first second outcome × KeepsSameness code first second outcome

-- The result of journal_difference.
abbrev pub ReturnsDifference : ℕ → List ℕ → List ℕ → Result (List ℕ) CallError → Type 0
ReturnsDifference code first second outcome =
    AtSchema (schema_of_type (type_of code)) outcome (λ s. ComparesPayloads (IsDifference s) s first second outcome)

-- These are the printed fields in which two commands of a schema differ.
abbrev pub AreChangedFields : ℕ → List FieldTexts → Parts → Parts → Type 0
AreChangedFields s fields a b = fields ≡ differing_fields s a b

-- The fields of a result that is a list of them.
abbrev pub fields_of : {Z : Type 0} → Result (Vec FieldDifference Z) CallError → Result (List FieldTexts) CallError
fields_of (Ok fields) = Ok (listed_texts fields.items)
fields_of (Err error) = Err error

-- The printed fields in which two commands differ.
abbrev pub ReturnsChangedFields : ℕ → List ℕ → List ℕ → Result (List FieldTexts) CallError → Type 0
ReturnsChangedFields code first second outcome =
    AtSchema (schema_of_type (type_of code)) outcome (λ s. ComparesPayloads (AreChangedFields s) s first second outcome)

-- One of them, if there is one of this index; NoRoom if there is room for fewer than three numbers.
abbrev pub ReturnsChangedField : ℕ → ℕ → ℕ → List ℕ → List ℕ → Result (Option FieldTexts) CallError → Type 0
ReturnsChangedField code index room first second (Ok field) =
    (fields : List FieldTexts) × (nat_lt room 3 ≡ false) × ReturnsChangedFields code first second (Ok fields)
    × (field ≡ slice_get fields index)
ReturnsChangedField code index room first second (Err error) =
    MatchBool (nat_lt room 3) (error ≡ NoRoom) (ReturnsChangedFields code first second (Err error))

-- The bytes of a field: its name, and what each of the two commands has.
abbrev pub field_bytes : FieldTexts → List ℕ
field_bytes field = field.name ++ (field.actual ++ field.expected)

-- How many of them are which.
abbrev pub field_numbers : FieldTexts → List ℕ
field_numbers field = length field.name ∷ length field.actual ∷ length field.expected ∷ []

-- A field is written at the front of two slices, and the count is that of its bytes; nothing is written if there is no
-- field.
abbrev pub WritesField : Option FieldTexts → List ℕ → List ℕ → List ℕ → List ℕ → ℕ → Type 0
WritesField (Some field) old_numbers new_numbers old new count =
    (new_numbers ≡ written_over (field_numbers field) old_numbers) × (count ≡ length (field_bytes field))
    × (new ≡ written_over (field_bytes field) old)
WritesField None old_numbers new_numbers old new count =
    (new_numbers ≡ old_numbers) × (count ≡ 0) × (new ≡ old)

-- A field is written; or an allocation fails, and both slices are unchanged.
abbrev pub WritesFound : FieldTexts → List ℕ → List ℕ → List ℕ → List ℕ → Result ℕ CallError → Type 0
WritesFound field old_numbers new_numbers old new (Ok count) =
    WritesField (Some field) old_numbers new_numbers old new count
WritesFound field old_numbers new_numbers old new (Err error) =
    (error ≡ OutOfMemory) × (new_numbers ≡ old_numbers) × (new ≡ old)

-- The result of journal_changed_field, and what it writes. An error leaves both slices unchanged.
abbrev pub WritesChangedField : (Result (Option FieldTexts) CallError → Type 0) → List ℕ → List ℕ → List ℕ → List ℕ
    → Result ℕ CallError → Type 0
WritesChangedField holds old_numbers new_numbers old new (Ok count) =
    (field : Option FieldTexts) × holds (Ok field) × WritesField field old_numbers new_numbers old new count
WritesChangedField holds old_numbers new_numbers old new (Err error) =
    holds (Err error) × (new_numbers ≡ old_numbers) × (new ≡ old)
