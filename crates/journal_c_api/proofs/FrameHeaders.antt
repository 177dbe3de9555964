-- A frame begins with the header of its type.
use Rattle.std.proofs.Common.{◌≡◌, ℕ, ◌+◌, ◌-◌, List, Option, Some, None, Bool, true, false, cond, Ok, length, take}
use Rattle.std.proofs.Common.{refl, ap, ◌∙◌, arith, length-append}
use Rattle.std.specs.Int.{w64, to_be_bytes}
use Rattle.shared_core_base.specs.declared.version.Version.{Version}
use Rattle.shared_core_base.specs.declared.header.MessageType.{MessageType}
use Rattle.shared_core_base.specs.declared.header.MessageType.TheVariants.{Suspension}
use Rattle.shared_core_base.specs.MessageHeader.{word_of}
use Rattle.shared_core_base.specs.MessageType.{type_of}
use Rattle.shared_core_wire.specs.Value.{Parts}
use Rattle.shared_core_codec.specs.Payloads.{payload_meaning}
use Rattle.shared_core_message.specs.Frames.{WireForm, header_of_payload, plain_form, wire_frame, wire_payload}
use Rattle.shared_core_message.specs.Messages.{message_schema}
use Rattle.shared_core_codec.specs.Table as tables
use Rattle.shared_core_runtime.specs.Flattening.{flattened}
use Rattle.shared_core_base.specs.Version.{has_flat_suspensions}
use Rattle.shared_core.specs.Visiting.{written_form}
use Rattle.journal_c_api.specs.Outcomes.{AtVersion, supported_version}
use Rattle.journal_c_api.specs.Headers.{ReturnsHeader, flag_at, header_at, header_outcome}
use Rattle.journal_c_api.specs.Payloads.{ReturnsFrame, ReturnsFrameAt, ReturnsFrameOf}

suspension_flag : (before : Bool) (suspension : Parts)
    → (cond before (plain_form tables.suspension_v6 (flattened suspension))
    (plain_form tables.suspension suspension)).requested_ack ≡ None
suspension_flag true suspension = refl
suspension_flag false suspension = refl

-- the flag of what is written is that of the type's headers
pub flag_written : (ty : MessageType) (s : ℕ) (version : Version) (v : Parts)
    → (written_form ty s version v).requested_ack ≡ flag_at version ty
flag_written ty s version v = elim ty as (λ ty. (written_form ty s version v).requested_ack ≡ flag_at version ty) [
  | Suspension ↦ suspension_flag (has_flat_suspensions version) v
  | _ ↦ refl
]

-- a frame's first eight bytes are the header of its type and its version, by the length of its payload
form_header : (ty : MessageType) (version : Version) (form : WireForm) (frame : List ℕ) → form.requested_ack ≡ flag_at
    version ty → frame ≡ wire_frame ty form
    → take 8 frame ≡ to_be_bytes w64 (word_of (header_at version ty (length frame - 8)))
form_header ty version form frame flag is =
    let payload = wire_payload form in
    let head = to_be_bytes w64 (word_of (header_of_payload ty form.requested_ack payload)) in
    let front : take 8 frame ≡ head = ap (take 8) is in
    let eight : length head ≡ 8 = refl in
    let long : length frame ≡ length head + length payload = ap length is ∙ length-append head payload in
    let left : length payload ≡ length frame - 8 = omega (arith, long, eight) in
    front
    ∙ ap (λ f. to_be_bytes w64 (word_of (header_of_payload ty f payload))) flag
    ∙ ap (λ n. to_be_bytes w64 (word_of (header_at version ty n))) left

of_schema : (ty : MessageType) (schema : Option ℕ) (version : Version) (payload frame : List ℕ) → ReturnsFrameOf ty
    schema version payload (Ok frame)
    → Ok (take 8 frame) ≡ header_outcome (Some version) (Some ty) (length frame - 8)
of_schema ty None version payload frame is = absurd cc
of_schema ty (Some s) version payload frame held =
    let form = written_form ty s version (payload_meaning s payload) in
    ap Ok (form_header ty version form frame (flag_written ty s version (payload_meaning s payload)) held.1)

of_type : (found : Option MessageType) (version : Version) (payload frame : List ℕ) → ReturnsFrameAt found version
    payload (Ok frame)
    → Ok (take 8 frame) ≡ header_outcome (Some version) found (length frame - 8)
of_type None version payload frame is = absurd cc
of_type (Some ty) version payload frame held = of_schema ty (message_schema ty) version payload frame held

at_version : (spoken : Option Version) (found : Option MessageType) (payload frame : List ℕ)
    → AtVersion spoken (Ok frame) (λ version. ReturnsFrameAt found version payload (Ok frame))
    → Ok (take 8 frame) ≡ header_outcome spoken found (length frame - 8)
at_version None found payload frame is = absurd cc
at_version (Some version) found payload frame held = of_type found version payload frame held

-- a frame of journal_frame begins with the header of journal_header
pub begins_frame : (version code : ℕ) (payload frame : List ℕ) → ReturnsFrame version code payload (Ok frame)
    → ReturnsHeader version code (length frame - 8) (Ok (take 8 frame))
begins_frame version code payload frame held =
    at_version (supported_version version) (type_of code) payload frame held.0
