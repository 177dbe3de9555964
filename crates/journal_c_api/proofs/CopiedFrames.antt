-- The frame of a canonical payload is a header, and the payload after it.
use Rattle.std.proofs.Common.{◌≡◌, ℕ, List, ◌++◌, Some, None, Bool, true, false, cond, Ok}
use Rattle.std.proofs.Common.{refl, sym, subst, ap, ◌∙◌, length}
use Rattle.std.specs.Int.{w64, to_be_bytes}
use Rattle.shared_core_base.specs.declared.version.Version.{Version}
use Rattle.shared_core_base.specs.declared.header.MessageType.{MessageType}
use Rattle.shared_core_base.specs.declared.header.MessageType.TheVariants.{Suspension, ProposeRunCompletion}
use Rattle.shared_core_base.specs.MessageHeader.{word_of}
use Rattle.shared_core_base.specs.MessageType.{type_of}
use Rattle.shared_core_base.specs.Version.{has_flat_suspensions}
use Rattle.shared_core_wire.specs.Value.{Parts}
use Rattle.shared_core_wire.proofs.Readers.{some_is}
use Rattle.shared_core_wire.specs.Canonical.{canonical_payload}
use Rattle.shared_core_codec.specs.Canonicity.{IsCanonical}
use Rattle.shared_core_codec.specs.Payloads.{payload_meaning}
use Rattle.shared_core_codec.specs.Table as tables
use Rattle.shared_core_codec.specs.Table.{table}
use Rattle.shared_core_message.specs.Frames.{frame, plain_form, wire_payload}
use Rattle.shared_core_message.specs.Schemas.{schema_at}
use Rattle.shared_core_message.specs.Messages.{message_schema}
use Rattle.shared_core_runtime.specs.Flattening.{flattened}
use Rattle.shared_core.specs.Visiting.{written_form}
use Rattle.journal_c_api.specs.Outcomes.{AtVersion, supported_version}
use Rattle.journal_c_api.specs.Headers.{flag_at, header_at}
use Rattle.journal_c_api.specs.Payloads.{EncodesFrame, ReturnsFrame, ReturnsFrameAt, ReturnsFrameOf}
use Rattle.journal_c_api.specs.Payloads.{CopiesFrame, is_flattened}
use Rattle.journal_c_api.proofs.FrameHeaders.{flag_written}

suspension_payload : (flat : Bool) (v : Parts) (s : ℕ) → flat ≡ false → Some tables.suspension ≡ Some s
    → wire_payload (cond flat (plain_form tables.suspension_v6 (flattened v)) (plain_form tables.suspension v))
    ≡ canonical_payload table s v
suspension_payload true v s kept is = absurd cc
suspension_payload false v s kept is = ap (λ n. canonical_payload table n v) (some_is tables.suspension s is)

-- the payload of what is written is the canonical one of the value
payload_written : (ty : MessageType) (s : ℕ) (version : Version) (v : Parts) → is_flattened version ty ≡ false
    → message_schema ty ≡ Some s → wire_payload (written_form ty s version v) ≡ canonical_payload table s v
payload_written ty s version v =
    elim ty as (λ ty. is_flattened version ty ≡ false → message_schema ty ≡ Some s
    → wire_payload (written_form ty s version v) ≡ canonical_payload table s v) [
      | Suspension ↦ λ kept is. suspension_payload (has_flat_suspensions version) v s kept is
      | ProposeRunCompletion ↦ λ kept is.
          ap (λ n. canonical_payload table n v) (some_is tables.propose_run_completion s is)
      | _ ↦ λ _ _. refl
    ]

suspension_schema : (flat : Bool) → flat ≡ false
    → Some (cond flat tables.suspension_v6 tables.suspension) ≡ Some tables.suspension
suspension_schema true kept = absurd cc
suspension_schema false kept = refl

-- the schema of a type that has no other record at the version is its own
pub schema_kept : (version : Version) (ty : MessageType) → is_flattened version ty ≡ false
    → schema_at version ty ≡ message_schema ty
schema_kept version ty = elim ty as (λ ty. is_flattened version ty ≡ false → schema_at version ty ≡ message_schema ty) [
  | Suspension ↦ λ kept. suspension_schema (has_flat_suspensions version) kept
  | _ ↦ λ _. refl
]

-- a canonical payload with the header of its type before it is the frame of what it means
pub copy_encodes : (version : Version) (ty : MessageType) (s : ℕ) (payload : List ℕ) → is_flattened version ty ≡ false
    → message_schema ty ≡ Some s → IsCanonical s payload
    → EncodesFrame ty s version payload
    (Ok (to_be_bytes w64 (word_of (header_at version ty (length payload))) ++ payload))
copy_encodes version ty s payload kept is canonical =
    let form = written_form ty s version (payload_meaning s payload) in
    let same : payload ≡ wire_payload form = canonical.canonical
    ∙ sym (payload_written ty s version (payload_meaning s payload) kept is) in
    let flag : flag_at version ty ≡ form.requested_ack = sym
    (flag_written ty s version (payload_meaning s payload)) in (
      canonical.accepted,
      ap (λ f. frame ty f payload) flag ∙ ap (λ p. frame ty form.requested_ack p) same,
    )

pub copied : (number code : ℕ) (version : Version) (ty : MessageType) (s : ℕ) (payload : List ℕ)
    → supported_version number ≡ Some version → type_of code ≡ Some ty → is_flattened version ty ≡ false
    → message_schema ty ≡ Some s → IsCanonical s payload
    → ReturnsFrame number code payload
    (Ok (to_be_bytes w64 (word_of (header_at version ty (length payload))) ++ payload))
copied number code version ty s payload spoken typed kept is canonical =
    let bytes = to_be_bytes w64 (word_of (header_at version ty (length payload))) ++ payload in (
      subst (λ v. AtVersion v (Ok bytes) (λ version. ReturnsFrameAt (type_of code) version payload (Ok bytes)))
          (sym spoken)
          (subst (λ t. ReturnsFrameAt t version payload (Ok bytes)) (sym typed)
          (subst (λ m. ReturnsFrameOf ty m version payload (Ok bytes)) (sym is)
          (copy_encodes version ty s payload kept is canonical))),
      λ _ _ _ _ _ _ _ _ fails. absurd cc,
    )

-- where there is no header, a payload is not canonical for a type that has no other record at the version
pub no_version : (number code : ℕ) (payload : List ℕ) → supported_version number ≡ None
    → CopiesFrame number code payload None
no_version number code payload unspoken = λ outcome version ty s spoken _ _ _ _ _. absurd cc

pub no_type : (number code : ℕ) (payload : List ℕ) → type_of code ≡ None → CopiesFrame number code payload None
no_type number code payload untyped = λ outcome version ty s _ typed _ _ _ _. absurd cc

pub no_copy : (number code : ℕ) (version : Version) (ty : MessageType) (payload : List ℕ)
    → supported_version number ≡ Some version → type_of code ≡ Some ty
    → ((s : ℕ) → is_flattened version ty ≡ false → message_schema ty ≡ Some s → ¬ (IsCanonical s payload))
    → CopiesFrame number code payload None
no_copy number code version ty payload spoken typed none =
    λ outcome v t s spoken2 typed2 kept is canonical _.
    let same_version : v ≡ version = some_is v version (sym spoken2 ∙ spoken) in
    let same_type : t ≡ ty = some_is t ty (sym typed2 ∙ typed) in
    none s (subst (λ x. is_flattened x ty ≡ false) same_version (subst (λ x. is_flattened v x ≡ false) same_type kept))
    (ap message_schema (sym same_type) ∙ is) canonical
