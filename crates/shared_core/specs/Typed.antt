-- The result of typed decoding of a message.
use Rattle.std.specs.Prelude.{◌≡◌, ◌≢◌, ℕ, ℤ, List}
use Rattle.shared_core_base.specs.declared.header.MessageType.{MessageType}
use Rattle.shared_core_wire.specs.declared.error.WireError.TheVariants.{Malformed}
use Rattle.shared_core_wire.specs.Value.{Parts}
use Rattle.shared_core_wire.specs.Canonical.{canonical_payload}
use Rattle.shared_core_wire.specs.Laws.{IsWritable}
use Rattle.shared_core_codec.specs.Table.{table}
use Rattle.shared_core_codec.specs.Payloads.{IsAccepted, payload_meaning}
use Rattle.shared_core_errors.specs.declared.command_type_mismatch.CommandTypeMismatchError.{CommandTypeMismatchError}
use Rattle.shared_core_stream.specs.declared.encoding.raw_message.RawMessage.{RawMessage}
use Rattle.shared_core.specs.declared.encoding.error.DecodingError.{DecodingError}
use Rattle.shared_core.specs.declared.encoding.error.DecodingError.TheVariants.{DecodeMessage, UnexpectedMessageType}
use Rattle.shared_core.specs.declared.encoding.error.DecodingError.TheVariants.{OutOfMemory}

-- The mismatch that is returned if a message is not of the expected type.
abbrev pub mismatch_of : MessageType → RawMessage → ℤ → CommandTypeMismatchError
mismatch_of expected message index = record { command_index = index; actual = message.header.ty; expected = expected }

-- The payload is well-formed for the schema, and the parts are what it means.
abbrev pub MeansParts : ℕ → List ℕ → Parts → Type 0
MeansParts schema payload parts = IsAccepted schema payload × (parts ≡ payload_meaning schema payload)

-- When a payload is rejected: it is not well-formed for the schema, or an allocation fails.
abbrev pub RejectsPayload : ℕ → RawMessage → DecodingError → Type 0
RejectsPayload schema message (DecodeMessage found error) =
    (found ≡ message.header.ty) × (error ≡ Malformed) × ¬ (IsAccepted schema message.payload)
RejectsPayload schema message OutOfMemory = Unit {0}
RejectsPayload schema message failure = ⊥

-- When a message is rejected: the types differ; or they are the same, and its payload is rejected.
abbrev pub RejectsTyped : MessageType → ℕ → RawMessage → ℤ → DecodingError → Type 0
RejectsTyped ty schema message index (UnexpectedMessageType mismatch) =
    (message.header.ty ≢ ty) × (mismatch ≡ mismatch_of ty message index)
RejectsTyped ty schema message index failure = (message.header.ty ≡ ty) × RejectsPayload schema message failure

-- The payload is the canonical encoding of the value, which fits the schema and has at most one hundred levels.
abbrev pub IsCanonical : ℕ → Parts → List ℕ → Type 0
IsCanonical schema v payload = IsWritable table 100 schema v × (payload ≡ canonical_payload table schema v)
