-- A written payload is accepted and means what was written; a message is rejected if its payload is.
use Rattle.std.proofs.Common.{◌≡◌, ℕ, List, Result, Ok, Err}
use Rattle.std.specs.Prelude.{ℤ, IfOk, IfErr}
use Rattle.shared_core_base.specs.declared.header.MessageType.{MessageType}
use Rattle.shared_core_wire.specs.Value.{Parts}
use Rattle.shared_core_codec.specs.Payloads.{IsAccepted, payload_meaning}
use Rattle.shared_core_codec.proofs.PayloadLaws.{canonical_is_read_back}
use Rattle.shared_core_stream.specs.declared.encoding.raw_message.RawMessage.{RawMessage}
use Rattle.shared_core.specs.declared.encoding.error.DecodingError.{DecodingError}
use Rattle.shared_core.specs.declared.encoding.error.DecodingError.TheVariants.{DecodeMessage, OutOfMemory}
use Rattle.shared_core.specs.Typed.{IsCanonical, RejectsPayload, RejectsTyped}

pub written_means : (schema : ℕ) (v : Parts) (payload : List ℕ) → IsCanonical schema v payload → IsAccepted schema
    payload × (payload_meaning schema payload ≡ v)
written_means schema v payload (writable, encoded) =
    let back = canonical_is_read_back schema v writable.0 writable.2 writable.1 in
    rw encoded back

pub if_ok : {T E : Type 0} (r : Result T E) (P : Type 0) → P → IfOk r (λ _. P)
if_ok (Ok x) P holds = holds
if_ok (Err e) P holds = tt

rejects : (ty : MessageType) (schema : ℕ) (message : RawMessage) (index : ℤ) (e : DecodingError) → message.header.ty ≡
    ty → RejectsPayload schema message e → RejectsTyped ty schema message index e
rejects ty schema message index e =
    elim e as (λ e. message.header.ty ≡ ty → RejectsPayload schema message e → RejectsTyped ty schema message index e) [
      | DecodeMessage found error ↦ λ same rejected. (same, rejected)
      | OutOfMemory ↦ λ same rejected. (same, rejected)
      | _ ↦ λ same rejected. absurd rejected
    ]

pub if_err : {T : Type 0} (ty : MessageType) (schema : ℕ) (message : RawMessage) (index : ℤ)
    (r : Result T DecodingError) → message.header.ty ≡ ty → IfErr r (RejectsPayload schema message) → IfErr r
    (RejectsTyped ty schema message index)
if_err ty schema message index (Ok x) same rejected = tt
if_err ty schema message index (Err e) same rejected = rejects ty schema message index e same rejected
