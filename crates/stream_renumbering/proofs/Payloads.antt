-- The payloads of messages at other field numbers.
use Rattle.std.proofs.Common.{◌≡◌, ◌≤◌, ◌^◌, ℕ, List, Bool, true, false, cond, length, Option, Some, None, refl, sym}
use Rattle.std.proofs.Common.{ap}
use Rattle.std.proofs.Common.{◌∙◌, subst, Result, Ok, Err}
use Rattle.std.specs.Prelude.{IfOk, IfErr, Vec}
use Rattle.std.specs.declared.alloc.Global.{Global}
use Rattle.shared_core_base.specs.declared.version.Version.{Version}
use Rattle.stream_lines.specs.declared.error.PrintError.{PrintError}
use Rattle.stream_lines.specs.declared.error.PrintError.TheVariants as error
use Rattle.stream_lines.specs.Printing.{IsLack}
use Rattle.shared_core_renumber.specs.declared.entries.Renumbering.{Renumbering}
use Rattle.shared_core_renumber.specs.Allowed.{payload_allows}
use Rattle.shared_core_renumber.specs.Payloads.{IsRenumberable, IsRenumberedTooLong}
use Rattle.shared_core_renumber.specs.Written.{payload_bytes}
use Rattle.shared_core_stream.specs.declared.encoding.raw_message.RawMessage.{RawMessage}
use Rattle.stream_lines.specs.declared.report.Trouble.{Trouble}
use Rattle.stream_lines.specs.declared.report.Trouble.TheVariants.{Malformed}
use Rattle.stream_renumbering.specs.Streams.{payload_for, trouble_for, message_payload, IsPayload}

not_true : (b : Bool) → ¬ (b ≡ true) → b ≡ false
not_true true h = absurd (h refl)
not_true false h = refl

module _ (es : List Renumbering) (o : Option ℕ) (s : ℕ) where
  pub at_other_numbers : (payload : List ℕ) → o ≡ Some s → IsRenumberable es s payload → payload_for es o payload ≡
      payload_bytes es 100 s payload
  at_other_numbers payload e h =
      ap (λ (x : Option ℕ). payload_for es x payload) e
      ∙ ap (λ (b : Bool). cond b (payload_bytes es 100 s payload) payload) h

  pub as_it_is : (payload : List ℕ) → o ≡ Some s → ¬ (IsRenumberable es s payload) → payload_for es o payload ≡ payload
  as_it_is payload e h =
      ap (λ (x : Option ℕ). payload_for es x payload) e
      ∙ ap (λ (b : Bool). cond b (payload_bytes es 100 s payload) payload)
      (not_true (payload_allows es 100 s payload) h)

  pub too_long : (payload : List ℕ) → o ≡ Some s → IsRenumberedTooLong es s payload → 2 ^ 32 ≤ length
      (payload_for es o payload)
  too_long payload e h = subst (λ (bytes : List ℕ). 2 ^ 32 ≤ length bytes) (sym (at_other_numbers payload e h.0)) h.1

  pub no_trouble : (m : RawMessage) → o ≡ Some s → IsRenumberable es s m.payload → trouble_for es o m ≡ None
  no_trouble m e h =
      ap (λ (x : Option ℕ). trouble_for es x m) e
      ∙ ap (λ (b : Bool). cond {A = Option Trouble} b None (Some (Malformed m.header.ty))) h

  pub trouble : (m : RawMessage) → o ≡ Some s → ¬ (IsRenumberable es s m.payload) → trouble_for es o m ≡ Some
      (Malformed m.header.ty)
  trouble m e h =
      ap (λ (x : Option ℕ). trouble_for es x m) e
      ∙ ap (λ (b : Bool). cond {A = Option Trouble} b None (Some (Malformed m.header.ty)))
      (not_true (payload_allows es 100 s m.payload) h)

-- a copy of the payload is what stays as it is
pub copied : (es : List Renumbering) (version : Version) (m : RawMessage) (r : Result (Vec ℕ Global) PrintError)
    → IfOk r (λ copy. copy.items ≡ m.payload) → IfErr r (IsLack ⊥) → message_payload es version m ≡ m.payload
    → IsPayload es version m r
copied es version m (Ok copy) same lack e = same ∙ sym e
copied es version m (Err error.OutOfMemory) same lack e = tt
copied es version m (Err error.TooLong) same lack e = absurd lack
copied es version m (Err error.Input) same lack e = lack
copied es version m (Err error.Output) same lack e = lack
copied es version m (Err (error.MessageTooLong x)) same lack e = lack
