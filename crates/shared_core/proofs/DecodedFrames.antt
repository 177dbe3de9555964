-- What was written decodes to what was written.
use Rattle.std.proofs.Common.{◌≡◌, ◌≢◌, ℕ, List, ◌++◌, Option, Result, Ok, Err, OnOk, ◌^◌, ◌<◌, ◌≤◌, Bool, true, false}
use Rattle.std.proofs.Common.{Some, None, cond, eqb, refl, sym, ap, subst, arith}
use Rattle.shared_core_base.specs.declared.header.MessageType.{MessageType}
use Rattle.shared_core_base.specs.declared.header.MessageType.TheVariants.{ProposeRunCompletion, Suspension}
use Rattle.shared_core_base.specs.declared.version.Version.{Version}
use Rattle.shared_core_base.specs.MessageHeader.{ack_bit}
use Rattle.shared_core_base.specs.MessageType.{IsNamed, allows_ack}
use Rattle.shared_core_wire.specs.Canonical.{levels}
use Rattle.shared_core_wire.specs.Fitting.{Fits}
use Rattle.shared_core_wire.specs.Value.{Parts}
use Rattle.shared_core_codec.specs.Table.{table}
use Rattle.shared_core_codec.specs.Table as tables
use Rattle.shared_core_codec.specs.Payloads.{IsReadBack}
use Rattle.shared_core_codec.proofs.PayloadLaws.{canonical_is_read_back}
use Rattle.shared_core_message.specs.Frames.{WireFits, WireForm, plain_form, wire_frame, wire_payload, wire_size}
use Rattle.shared_core_runtime.specs.Flattening.{flattened}
use Rattle.shared_core_base.specs.Version.{has_flat_suspensions, requests_acknowledgement}
use Rattle.shared_core_runtime.specs.Versions.{proposal_form, suspension_form}
use Rattle.shared_core_runtime.proofs.FlattenedFits.{flattened_fits, flattened_levels}
use Rattle.shared_core.specs.declared.encoding.error.DecodingError.{DecodingError}
use Rattle.shared_core.specs.declared.encoding.error.DecodingError.TheVariants.{UnknownMessageType, SkippedMessage}
use Rattle.shared_core.specs.declared.encoding.error.DecodingError.TheVariants.{OutOfMemory}
use Rattle.shared_core_stream.specs.declared.encoding.item.Item.{Item}
use Rattle.shared_core_stream.specs.declared.encoding.item.Item.TheVariants.{Message, Unknown, Skipped}
use Rattle.shared_core_stream.specs.declared.encoding.raw_message.RawMessage.{RawMessage}
use Rattle.shared_core.specs.Decoded.{ReturnsWritten, DecodesTo, FrameEncodes, IsFrameOf, requested_ack_of}
use Rattle.shared_core.specs.Items.{ReturnsNext, IsItem, TakesItem}
use Rattle.shared_core.specs.Typed.{IsCanonical}
use Rattle.shared_core.specs.Written.{item_written}
use Rattle.shared_core_stream.proofs.Items.{one_item as items_are_prefix_free}
use Rattle.shared_core.proofs.Frames.{frame_is_item}
use Rattle.shared_core.proofs.TypedPayloads.{written_means}

-- a wire form decodes to what was written
pub form_decodes : (version : Version) (ty : MessageType) (form : WireForm) → IsNamed ty → wire_size form < 2 ^ 32 →
    Fits table form.parts (table form.schema) → levels form.parts ≤ 100
    → FrameEncodes version ty form (DecodesTo ty form.schema form.parts)
form_decodes version ty form named small fits low =
    let written : IsCanonical form.schema form.parts (wire_payload form) = ((fits, low, omega (arith, small)), refl) in
    let means = written_means form.schema form.parts (wire_payload form) written in
    (frame_is_item version ty form (wire_frame ty form) named small refl, (refl, written, (means.0, sym means.1)))

-- what is written is accepted and means what was written
frame_is_read_back : (form : WireForm) → WireFits form → wire_size form < 2 ^ 32 → IsReadBack form.schema form.parts
    (wire_payload form)
frame_is_read_back form fits small low = canonical_is_read_back form.schema form.parts fits (omega (arith, small)) low

-- a decoder whose pending bytes begin with a frame returns the message that was written, whatever follows the frame
frame_comes_out : (version : Version) (ty : MessageType) (form : WireForm) (bytes : List ℕ) → IsNamed ty → WireFits form
    → wire_size form < 2 ^ 32 → bytes ≡ wire_frame ty form → levels form.parts ≤ 100
    → (rest new : List ℕ) (returned : Result (Option RawMessage) DecodingError) → ReturnsNext version (bytes ++ rest)
    returned new → ReturnsWritten ty form (bytes ++ rest) returned rest new
frame_comes_out version ty form bytes named fits small is low rest new returned = by_result returned
  where
    written : IsItem version bytes (item_written ty form) × DecodesTo ty form.schema form.parts (item_written ty form)
    written = rw is (form_decodes version ty form named small fits low)

    comes : (item : Item) → TakesItem version (bytes ++ rest) item new → DecodesTo ty form.schema form.parts item ×
        (new ≡ rest)
    comes item (first, encoded, joined) =
        let same = items_are_prefix_free version bytes first rest new (item_written ty form) item written.0 encoded
        joined in
        (subst (DecodesTo ty form.schema form.parts) same.1 written.1, sym same.2)

    by_result : (returned : Result (Option RawMessage) DecodingError) → ReturnsNext version (bytes ++ rest) returned new
        → ReturnsWritten ty form (bytes ++ rest) returned rest new
    by_result (Ok (Some message)) = comes (Message message)
    by_result (Ok None) = λ returns. returns.0 (item_written ty form) rest (bytes, written.0, refl)
    by_result (Err error) =
        elim error as (λ error. ReturnsNext version (bytes ++ rest) (Err error) new → ReturnsWritten ty form
        (bytes ++ rest) (Err error) rest new) [
          | UnknownMessageType unknown ↦ λ taken. absurd (comes (Unknown unknown.0) taken).0
          | SkippedMessage code payload ↦ λ taken. absurd (comes (Skipped code payload) taken).0
          | OutOfMemory ↦ λ returns. (refl, returns.0)
          | _ ↦ λ returns. absurd returns
        ]

-- what is written is a frame
pub is_frame_of : (version : Version) (ty : MessageType) (form : WireForm) (bytes : List ℕ) → IsNamed ty → WireFits form
    → wire_size form < 2 ^ 32 → bytes ≡ wire_frame ty form → IsFrameOf version ty form bytes
is_frame_of version ty form bytes named fits small is = record {
  is_frame = is;
  is_item = frame_is_item version ty form bytes named small is;
  reads_back = frame_is_read_back form fits small;
  comes_out = frame_comes_out version ty form bytes named fits small is;
}

-- what a successful call appends is a frame too
pub appended_is_frame_of : {T E : Type 0} (result : Result T E) (version : Version) (ty : MessageType) (form : WireForm)
    → IsNamed ty → OnOk result (WireFits form) → OnOk result (wire_size form < 2 ^ 32)
    → OnOk result (IsFrameOf version ty form (wire_frame ty form))
appended_is_frame_of (Ok x) version ty form named fits small = is_frame_of version ty form (wire_frame ty form) named
    fits small refl
appended_is_frame_of (Err e) version ty form named fits small = small

-- a suspension that is written before V7 decodes to its three lists
pub suspension_decodes : (version : Version) (suspension : Parts) → has_flat_suspensions version ≡ true → Fits table
    suspension (table tables.suspension) → wire_size (suspension_form suspension version) < 2 ^ 32
    → FrameEncodes version Suspension (suspension_form suspension version)
    (DecodesTo Suspension tables.suspension_v6 (flattened suspension))
suspension_decodes version suspension before fits =
    let flat = flattened suspension in
    let form : suspension_form suspension version ≡ plain_form tables.suspension_v6 flat = ap
    (λ (b : Bool). cond b (plain_form tables.suspension_v6 flat) (plain_form tables.suspension suspension)) before
    in
    let low : levels flat ≤ 100 = let none = flattened_levels suspension fits in omega (arith, none) in
    subst (λ (form : WireForm). wire_size form < 2 ^ 32 → FrameEncodes version Suspension form
    (DecodesTo Suspension tables.suspension_v6 flat)) (sym form)
    (λ small. form_decodes version Suspension (plain_form tables.suspension_v6 flat) tt small
    (flattened_fits suspension fits) low)

flag_read : (requests : Bool) → Some (eqb (ack_bit (cond requests (Some true) None)) 1) ≡ Some requests
flag_read true = refl
flag_read false = refl

-- the header of a proposal requests an acknowledgement from V7 on
pub proposal_asks : (version : Version) (proposal : Parts) → wire_size (proposal_form proposal version) < 2 ^ 32
    → FrameEncodes version ProposeRunCompletion (proposal_form proposal version)
    (λ item. requested_ack_of item ≡ Some (requests_acknowledgement version))
proposal_asks version proposal small =
    let form = proposal_form proposal version in (
      frame_is_item version ProposeRunCompletion form (wire_frame ProposeRunCompletion form) tt small refl,
      flag_read
          (requests_acknowledgement version),
    )

no_flag : (ty : MessageType) → ty ≢ ProposeRunCompletion → allows_ack ty ≡ false
no_flag ty = elim ty as (λ ty. ty ≢ ProposeRunCompletion → allows_ack ty ≡ false) [
  | ProposeRunCompletion ↦ λ other. absurd (other refl)
  | _ ↦ λ other. refl
]

-- no other header requests one
pub others_ask_nothing : (version : Version) (ty : MessageType) (form : WireForm) → IsNamed ty → ty ≢
    ProposeRunCompletion → wire_size form < 2 ^ 32
    → FrameEncodes version ty form (λ item. requested_ack_of item ≡ None)
others_ask_nothing version ty form named other small = (
  frame_is_item version ty form (wire_frame ty form) named small refl,
  ap (λ (b : Bool). cond b (Some (eqb (ack_bit form.requested_ack) 1)) None) (no_flag ty other),
)
