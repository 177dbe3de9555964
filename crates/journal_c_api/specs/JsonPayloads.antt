-- The result of the call that reads JSON.
use Rattle.std.specs.Prelude.{◌≡◌, ◌≢◌, ℕ, ◌^◌, ◌<◌, ◌≤◌, true, false, nat_lt, List, [], ◌∷◌, length, string_bytes}
use Rattle.std.specs.Prelude.{Some, None, option_map, Result, Ok, Err}
use Rattle.json.specs.Json.{Json}
use Rattle.shared_core_codec.specs.Table.{schema_count}
use Rattle.shared_core_json_reader.specs.declared.error.Reason.{Reason}
use Rattle.shared_core_json_reader.specs.declared.error.Reason.TheVariants as reasons
use Rattle.shared_core_json_reader.specs.declared.error.JsonReadError.{JsonReadError}
use Rattle.shared_core_json_reader.specs.Reading.{json_of_text, text_payload}
use Rattle.shared_core_json_reader.specs.FirstError.{value_error, IsPlace}
use Rattle.journal_c_api.specs.declared.outcome.CallError.{CallError}
use Rattle.journal_c_api.specs.declared.outcome.CallError.TheVariants.{OutOfMemory, NoRoom, TooLong, UnknownSchema}
use Rattle.journal_c_api.specs.declared.json_payloads.Reading.{Reading}
use Rattle.journal_c_api.specs.declared.json_payloads.Reading.TheVariants.{Payload, NotJson, NotTaken}
use Rattle.journal_c_api.specs.Outcomes.{written_over}

-- The two numbers of a reading: its kind, and where the text stops being JSON.
abbrev pub reading_numbers : Reading → List ℕ
reading_numbers (Payload payload) = 0 ∷ 0 ∷ []
reading_numbers (NotJson offset) = 1 ∷ offset ∷ []
reading_numbers (NotTaken kind path) = kind ∷ 0 ∷ []

-- The bytes of a reading: the payload, or the path to the rejected value.
abbrev pub reading_bytes : Reading → List ℕ
reading_bytes (Payload payload) = payload.items
reading_bytes (NotJson offset) = []
reading_bytes (NotTaken kind path) = string_bytes path

-- The kind of a reason for which a text that is JSON means no value; the last two are reasons of other texts.
abbrev pub kind_of : Reason → ℕ
kind_of reasons.UnknownMember = 2
kind_of reasons.RepeatedMember = 3
kind_of reasons.SeveralMembers = 4
kind_of reasons.WrongKind = 5
kind_of reasons.UnknownName = 5
kind_of reasons.OutOfRange = 6
kind_of reasons.NotBase64 = 7
kind_of reasons.TooDeep = 8
kind_of reasons.NotJson = 5
kind_of reasons.OutOfMemory = 5

-- The kind and the path of the first error of a value.
abbrev pub kind_and_path : Reason × List ℕ → ℕ × List ℕ
kind_and_path first = (kind_of first.0, first.1)

-- A text is read as this for a schema: as the canonical payload of the value that it means; as not JSON, from an offset
-- in it on; or, if it is JSON without a meaning, as the kind and the path of its first error.
abbrev pub IsReading : ℕ → List ℕ → Reading → Type 0
IsReading s text (Payload payload) = (text_payload s text ≡ Some payload.items) × (length payload.items < 2 ^ 32)
IsReading s text (NotJson offset) = (json_of_text text ≡ None) × IsPlace text (Some offset)
IsReading s text (NotTaken kind path) =
    (j : Json) × (json_of_text text ≡ Some j) × (text_payload s text ≡ None)
    × (option_map kind_and_path (value_error s j) ≡ Some (kind, string_bytes path))

-- The payload that a text means is too long for a header.
abbrev pub MeansTooLong : ℕ → List ℕ → Type 0
MeansTooLong s text = (payload : List ℕ) × (text_payload s text ≡ Some payload) × (2 ^ 32 ≤ length payload)

-- The result is what a text is read as, or that its payload is too long. An allocation may fail.
abbrev pub ReadsText : ℕ → List ℕ → Result Reading CallError → Type 0
ReadsText s text (Ok reading) = IsReading s text reading
ReadsText s text (Err TooLong) = MeansTooLong s text
ReadsText s text (Err OutOfMemory) = Unit {0}
ReadsText s text (Err failure) = ⊥

-- The result for the error of a text that is JSON without a meaning.
abbrev pub SaysNotTaken : JsonReadError → Result Reading CallError → Type 0
SaysNotTaken error (Ok (NotTaken kind path)) =
    (error.reason ≢ reasons.OutOfMemory) × (kind ≡ kind_of error.reason) × (string_bytes path ≡ string_bytes error.path)
SaysNotTaken error (Ok reading) = ⊥
SaysNotTaken error (Err failure) = failure ≡ OutOfMemory

-- The result for the error of a text that means no value: one that is not JSON has an offset.
abbrev pub SaysRejected : JsonReadError → Result Reading CallError → Type 0
SaysRejected error (Ok (NotJson offset)) = (error.reason ≢ reasons.OutOfMemory) × (error.offset ≡ Some offset)
SaysRejected error (Ok (Payload payload)) = ⊥
SaysRejected error (Ok (NotTaken kind path)) = (error.offset ≡ None) × SaysNotTaken error (Ok (NotTaken kind path))
SaysRejected error (Err failure) = failure ≡ OutOfMemory

-- The result is the payload, or that it is too long for a header.
abbrev pub IsIfShort : List ℕ → Result Reading CallError → Type 0
IsIfShort bytes (Ok (Payload payload)) = (payload.items ≡ bytes) × (length bytes < 2 ^ 32)
IsIfShort bytes (Ok reading) = ⊥
IsIfShort bytes (Err failure) = (failure ≡ TooLong) × (2 ^ 32 ≤ length bytes)

-- Why the call is rejected: UnknownSchema if no schema has the number, otherwise NoRoom if there is room for fewer than
-- two numbers, otherwise for the reason for which the text is rejected.
abbrev pub RejectsReading : ℕ → ℕ → List ℕ → CallError → Type 0
RejectsReading s room text UnknownSchema = nat_lt s schema_count ≡ false
RejectsReading s room text NoRoom = (nat_lt s schema_count ≡ true) × (room < 2)
RejectsReading s room text failure = (nat_lt s schema_count ≡ true) × (2 ≤ room) × ReadsText s text (Err failure)

-- The result of journal_payload_of_json, and what it writes: the numbers and the bytes of what the text is read as. An
-- error leaves both slices unchanged.
abbrev pub WritesReading : ℕ → List ℕ → List ℕ → List ℕ → List ℕ → List ℕ → Result ℕ CallError → Type 0
WritesReading s text numbers_old numbers_new old new (Ok count) =
    (nat_lt s schema_count ≡ true) × (2 ≤ length numbers_old) × (reading : Reading) × IsReading s text reading
    × (count ≡ length (reading_bytes reading)) × (numbers_new ≡ written_over (reading_numbers reading) numbers_old)
    × (new ≡ written_over (reading_bytes reading) old)
WritesReading s text numbers_old numbers_new old new (Err failure) =
    RejectsReading s (length numbers_old) text failure × (numbers_new ≡ numbers_old) × (new ≡ old)
