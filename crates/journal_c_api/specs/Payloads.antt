-- The result of the calls on payloads and frames.
use Rattle.std.specs.Prelude.{◌≡◌, ◌≢◌, ◌⊎◌, ℕ, ◌^◌, ◌≤◌, ◌<◌, nat_lt, Bool, true, false, List, [], ◌++◌, length, Vec}
use Rattle.std.specs.Prelude.{Option, Some, None, Result, Ok, Err, MatchBool}
use Rattle.std.specs.Int.{w64, to_be_bytes}
use Rattle.std.specs.List.{All, concat}
use Rattle.shared_core_base.specs.declared.version.Version.{Version}
use Rattle.shared_core_base.specs.declared.header.MessageType.{MessageType}
use Rattle.shared_core_base.specs.declared.header.MessageType.TheVariants.{Suspension}
use Rattle.shared_core_base.specs.declared.message_header.MessageHeader.{MessageHeader}
use Rattle.shared_core_base.specs.MessageHeader.{word_of}
use Rattle.shared_core_base.specs.MessageType.{type_of}
use Rattle.shared_core_base.specs.Version.{has_flat_suspensions}
use Rattle.shared_core_wire.specs.Value.{Parts}
use Rattle.shared_core_wire.specs.Canonical.{canonical_payload, size}
use Rattle.shared_core_codec.specs.Table.{schemas, table}
use Rattle.shared_core_codec.specs.Payloads.{IsAccepted, payload_meaning}
use Rattle.shared_core_codec.specs.Canonicity.{IsCanonical}
use Rattle.shared_core_message.specs.Frames.{WireForm, wire_size, wire_frame}
use Rattle.shared_core_message.specs.Messages.{message_schema}
use Rattle.shared_core.specs.Typed.{MeansParts}
use Rattle.shared_core.specs.Visiting.{written_form}
use Rattle.shared_core_json.specs.Form.{json_text}
use Rattle.shared_core_json.specs.Payloads.{IsCanonicalOf, IsTooLong}
use Rattle.journal_c_api.specs.declared.outcome.CallError.{CallError}
use Rattle.journal_c_api.specs.declared.outcome.CallError.TheVariants.{Malformed, MalformedSecond, OutOfMemory, TooLong}
use Rattle.journal_c_api.specs.declared.outcome.CallError.TheVariants.{UnknownSchema, UnknownType}
use Rattle.journal_c_api.specs.Outcomes.{AtVersion, supported_version}

-- A record has the parts that a payload means for the schema. Malformed if the payload is not well-formed. An
-- allocation may fail.
abbrev pub MeansRecord : {M : Type 0} → ℕ → (M → Parts) → List ℕ → Result M CallError → Type 0
MeansRecord s parts payload (Ok decoded) = MeansParts s payload (parts decoded)
MeansRecord s parts payload (Err Malformed) = ¬ (IsAccepted s payload)
MeansRecord s parts payload (Err OutOfMemory) = Unit {0}
MeansRecord s parts payload (Err error) = ⊥

-- The same of the second of two payloads: MalformedSecond if it is not well-formed.
abbrev pub MeansSecond : {M : Type 0} → ℕ → (M → Parts) → List ℕ → Result M CallError → Type 0
MeansSecond s parts payload (Err MalformedSecond) = ¬ (IsAccepted s payload)
MeansSecond s parts payload (Err Malformed) = ⊥
MeansSecond s parts payload outcome = MeansRecord s parts payload outcome

-- If each part of a payload is well-formed, the result is the canonical payload of what the joined parts mean, or that
-- it is too long for a header; otherwise it is Malformed, whichever part is not. An allocation may fail.
abbrev pub ReturnsMeaning : ℕ → List ℕ → List (List ℕ) → Result (List ℕ) CallError → Type 0
ReturnsMeaning s first rest (Ok bytes) =
    IsAccepted s first × All (IsAccepted s) rest × (bytes ≡ canonical_payload table s
    (payload_meaning s (first ++ concat rest)))
ReturnsMeaning s first rest (Err Malformed) = ¬ (IsAccepted s first × All (IsAccepted s) rest)
ReturnsMeaning s first rest (Err TooLong) =
    IsAccepted s first × All (IsAccepted s) rest × (2 ^ 32 ≤ size table s (payload_meaning s (first ++ concat rest)))
ReturnsMeaning s first rest (Err OutOfMemory) = Unit {0}
ReturnsMeaning s first rest (Err error) = ⊥

-- The same, with a malformed first part told apart: Malformed if it is the first that is not well-formed, and
-- MalformedSecond if the first is and another is not.
abbrev pub TellsParts : ℕ → List ℕ → List (List ℕ) → Result (List ℕ) CallError → Type 0
TellsParts s first rest (Err Malformed) = ¬ (IsAccepted s first)
TellsParts s first rest (Err MalformedSecond) = IsAccepted s first × ¬ (All (IsAccepted s) rest)
TellsParts s first rest outcome = ReturnsMeaning s first rest outcome

-- The result of journal_merge, for a payload and those that are merged into it: UnknownSchema if no schema has the
-- number.
abbrev pub ReturnsMerged : ℕ → List ℕ → List (List ℕ) → Result (List ℕ) CallError → Type 0
ReturnsMerged s first rest outcome =
    MatchBool (nat_lt s (length schemas)) (TellsParts s first rest outcome) (outcome ≡ Err UnknownSchema)

-- A payload that is canonical is the result, whatever allocations would fail.
abbrev pub KeepsCanonical : ℕ → List ℕ → Result (List ℕ) CallError → Type 0
KeepsCanonical s payload outcome = (nat_lt s (length schemas) ≡ true) → IsCanonical s payload → outcome ≡ Ok payload

-- The result of journal_canonical: that of a payload into which none is merged, and one that is canonical is kept.
abbrev pub ReturnsCanonical : ℕ → List ℕ → Result (List ℕ) CallError → Type 0
ReturnsCanonical s payload outcome = ReturnsMerged s payload [] outcome × KeepsCanonical s payload outcome

-- If the payload is well-formed for the schema, the result is the canonical payload of what it means, or that it is too
-- long for a header; otherwise it is Malformed. An allocation may fail.
abbrev pub EncodesPayload : {Z : Type 0} → ℕ → List ℕ → Result (Vec ℕ Z) CallError → Type 0
EncodesPayload s payload (Ok canonical) = IsAccepted s payload × IsCanonicalOf s payload canonical.items
EncodesPayload s payload (Err Malformed) = ¬ (IsAccepted s payload)
EncodesPayload s payload (Err TooLong) = IsTooLong s payload
EncodesPayload s payload (Err OutOfMemory) = Unit {0}
EncodesPayload s payload (Err error) = ⊥

-- If the payload is well-formed for the schema, the result is the JSON of what it means, or that its canonical payload
-- is too long for a header; otherwise it is Malformed. An allocation may fail.
abbrev pub PrintsPayload : ℕ → List ℕ → Result (List ℕ) CallError → Type 0
PrintsPayload s payload (Ok text) = IsAccepted s payload × (text ≡ json_text s (payload_meaning s payload))
PrintsPayload s payload (Err Malformed) = ¬ (IsAccepted s payload)
PrintsPayload s payload (Err TooLong) = IsTooLong s payload
PrintsPayload s payload (Err OutOfMemory) = Unit {0}
PrintsPayload s payload (Err error) = ⊥

-- The result of journal_json: UnknownSchema if no schema has the number.
abbrev pub ReturnsJson : ℕ → List ℕ → Result (List ℕ) CallError → Type 0
ReturnsJson s payload outcome = MatchBool (nat_lt s (length schemas)) (PrintsPayload s payload outcome)
    (outcome ≡ Err UnknownSchema)

-- The result is 1 if the payload is well-formed for the schema, otherwise 0; never an error.
abbrev pub ChecksPayload : ℕ → List ℕ → Result ℕ CallError → Type 0
ChecksPayload s payload (Ok outcome) = ((outcome ≡ 1) × IsAccepted s payload) ⊎
    ((outcome ≡ 0) × ¬ (IsAccepted s payload))
ChecksPayload s payload (Err error) = ⊥

-- The result of journal_is_well_formed: UnknownSchema if no schema has the number.
abbrev pub ReturnsWellFormed : ℕ → List ℕ → Result ℕ CallError → Type 0
ReturnsWellFormed s payload outcome = MatchBool (nat_lt s (length schemas)) (ChecksPayload s payload outcome)
    (outcome ≡ Err UnknownSchema)

-- The result is the frame of a wire form, or that its payload is too long for a header. An allocation may fail.
abbrev pub EncodesForm : MessageType → WireForm → Result (List ℕ) CallError → Type 0
EncodesForm ty form (Ok bytes) = bytes ≡ wire_frame ty form
EncodesForm ty form (Err TooLong) = 2 ^ 32 ≤ wire_size form
EncodesForm ty form (Err OutOfMemory) = Unit {0}
EncodesForm ty form (Err error) = ⊥

-- If the payload is well-formed for the schema, the result is the frame of what it means; otherwise it is Malformed. An
-- allocation may fail.
abbrev pub EncodesFrame : MessageType → ℕ → Version → List ℕ → Result (List ℕ) CallError → Type 0
EncodesFrame ty s version payload (Err Malformed) = ¬ (IsAccepted s payload)
EncodesFrame ty s version payload (Err OutOfMemory) = Unit {0}
EncodesFrame ty s version payload outcome =
    IsAccepted s payload × EncodesForm ty (written_form ty s version (payload_meaning s payload)) outcome

-- The result for a type with this schema: UnknownType if it has none.
abbrev pub ReturnsFrameOf : MessageType → Option ℕ → Version → List ℕ → Result (List ℕ) CallError → Type 0
ReturnsFrameOf ty (Some s) version payload outcome = EncodesFrame ty s version payload outcome
ReturnsFrameOf ty None version payload outcome = outcome ≡ Err UnknownType

-- The result for the type that a code denotes: UnknownType if it denotes none.
abbrev pub ReturnsFrameAt : Option MessageType → Version → List ℕ → Result (List ℕ) CallError → Type 0
ReturnsFrameAt (Some ty) version payload outcome = ReturnsFrameOf ty (message_schema ty) version payload outcome
ReturnsFrameAt None version payload outcome = outcome ≡ Err UnknownType

-- The result at the version that a number denotes, for the type that a code denotes.
abbrev pub EncodesFrameAt : ℕ → ℕ → List ℕ → Result (List ℕ) CallError → Type 0
EncodesFrameAt number code payload outcome =
    AtVersion (supported_version number) outcome (λ version. ReturnsFrameAt (type_of code) version payload outcome)

-- Messages of a type are written as other records at a version.
abbrev pub is_flattened : Version → MessageType → Bool
is_flattened version Suspension = has_flat_suspensions version
is_flattened version ty = false

-- No allocation fails for a payload that is canonical, where its type has no other record at the version.
abbrev pub KeepsFrame : ℕ → ℕ → List ℕ → Result (List ℕ) CallError → Type 0
KeepsFrame number code payload outcome = (version : Version) (ty : MessageType) (s : ℕ)
    → supported_version number ≡ Some version → type_of code ≡ Some ty → is_flattened version ty ≡ false
    → message_schema ty ≡ Some s → IsCanonical s payload → outcome ≢ Err OutOfMemory

-- The result of journal_frame.
abbrev pub ReturnsFrame : ℕ → ℕ → List ℕ → Result (List ℕ) CallError → Type 0
ReturnsFrame number code payload outcome = EncodesFrameAt number code payload outcome × KeepsFrame number code payload
    outcome

-- The header, with the payload after it, is the result of journal_frame; without a header any result keeps the payload.
abbrev pub CopiesFrame : ℕ → ℕ → List ℕ → Option MessageHeader → Type 0
CopiesFrame number code payload (Some header) =
    (length payload < 4294967296) × ReturnsFrame number code payload (Ok (to_be_bytes w64 (word_of header) ++ payload))
CopiesFrame number code payload None = (outcome : Result (List ℕ) CallError) → KeepsFrame number code payload outcome
