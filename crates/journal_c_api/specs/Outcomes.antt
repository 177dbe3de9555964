-- The results of the calls, as C sees them.
use Rattle.std.specs.Prelude.{◌≡◌, ℕ, ℤ, pos, negsuc, ◌^◌, nat_lt, nat_le, List, ◌++◌, drop, length, Vec, Option, Some}
use Rattle.std.specs.Prelude.{None, Result, Ok, Err, if◌then◌else◌}
use Rattle.shared_core_base.specs.declared.version.Version.{Version}
pub use Rattle.shared_core_base.specs.Version.{supported_version}
use Rattle.shared_core_wire.specs.declared.error.WireError.{WireError}
use Rattle.shared_core_wire.specs.declared.error.WireError.TheVariants as wire
use Rattle.shared_core_codec.specs.declared.error.EncodingError.{EncodingError}
use Rattle.shared_core_codec.specs.declared.error.EncodingError.TheVariants.{PayloadTooLong, OutOfMemory}
use Rattle.shared_core_json.specs.declared.error.JsonError.{JsonError}
use Rattle.shared_core_json.specs.declared.error.JsonError.TheVariants as json
use Rattle.journal_c_api.specs.declared.outcome.CallError.{CallError}
use Rattle.journal_c_api.specs.declared.outcome.CallError.TheVariants.{Malformed, MalformedSecond}
use Rattle.journal_c_api.specs.declared.outcome.CallError.TheVariants.{OutOfMemory as NoMemory, NoRoom, TooLong}
use Rattle.journal_c_api.specs.declared.outcome.CallError.TheVariants.{UnknownVersion, UnknownSchema, UnknownType, NoId}
use Rattle.journal_c_api.specs.declared.outcome.CallError.TheVariants.{NoResult, NotCanonical, UnknownOption}

-- The number that denotes an error. Its remainder by 16 is that of its kind, which those of several arguments share.
abbrev pub error_number : CallError → ℤ
error_number Malformed = negsuc 0
error_number NoMemory = negsuc 1
error_number NoRoom = negsuc 2
error_number TooLong = negsuc 3
error_number NoId = negsuc 5
error_number NoResult = negsuc 6
error_number NotCanonical = negsuc 7
error_number MalformedSecond = negsuc 16
error_number UnknownVersion = negsuc 20
error_number UnknownSchema = negsuc 36
error_number UnknownType = negsuc 52
error_number UnknownOption = negsuc 68

-- The number that denotes a result: a count unchanged, if it is below 2 ^ 63, or the error's number.
abbrev pub outcome_number : Result ℕ CallError → ℤ
outcome_number (Ok count) = if nat_lt count (2 ^ 63) then pos count else error_number TooLong
outcome_number (Err error) = error_number error

-- The number denotes a result of which this holds.
abbrev pub Returns : ℤ → (Result ℕ CallError → Type 0) → Type 0
Returns number holds = (outcome : Result ℕ CallError) × (number ≡ outcome_number outcome) × holds outcome

-- The error of a payload that cannot be decoded.
abbrev pub wire_error : WireError → CallError
wire_error wire.Malformed = Malformed
wire_error wire.OutOfMemory = NoMemory

-- The error that an encoding error is.
abbrev pub encoding_error : EncodingError → CallError
encoding_error PayloadTooLong = TooLong
encoding_error OutOfMemory = NoMemory

-- The error that a payload without JSON is.
abbrev pub json_error : JsonError → CallError
json_error json.Malformed = Malformed
json_error json.TooLong = TooLong
json_error json.OutOfMemory = NoMemory

-- The result is the version that the number denotes, and UnknownVersion if it denotes none.
abbrev pub IsSpoken : ℕ → Result Version CallError → Type 0
IsSpoken number (Ok version) = supported_version number ≡ Some version
IsSpoken number (Err error) = (error ≡ UnknownVersion) × (supported_version number ≡ None)

-- A slice, with these elements written at its front if it has room for all of them; otherwise unchanged.
abbrev pub written_over : {A : Type 0} → List A → List A → List A
written_over bytes old = if nat_le (length bytes) (length old) then bytes ++ drop (length bytes) old else old

-- The bytes of a result that is a buffer.
abbrev pub bytes_of : {Z : Type 0} → Result (Vec ℕ Z) CallError → Result (List ℕ) CallError
bytes_of (Ok buffer) = Ok buffer.items
bytes_of (Err error) = Err error

-- The bytes of a result of which this holds are written at the front of the slice, and the count is theirs; an error
-- leaves the slice unchanged.
abbrev pub Writes : (Result (List ℕ) CallError → Type 0) → List ℕ → List ℕ → Result ℕ CallError → Type 0
Writes holds old new (Ok count) = (bytes : List ℕ) × holds (Ok bytes) × (count ≡ length bytes) ×
    (new ≡ written_over bytes old)
Writes holds old new (Err error) = holds (Err error) × (new ≡ old)

-- What holds at the version that a number denotes; if it denotes none, the result is UnknownVersion.
abbrev pub AtVersion : {T : Type 0} → Option Version → Result T CallError → (Version → Type 0) → Type 0
AtVersion (Some version) outcome holds = holds version
AtVersion None outcome holds = outcome ≡ Err UnknownVersion
