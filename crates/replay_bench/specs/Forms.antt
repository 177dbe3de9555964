-- The bytes by which commands are compared, in place of what they mean.
use Rattle.std.specs.Prelude.{◌≡◌, IsTrue, ℕ, zero, suc, Bool, true, false, List, [], ◌∷◌, map, Option, Some, None}
use Rattle.std.specs.Prelude.{IfSome}
use mathlib.Core.HLevel.{⊥_prop, ¬_prop}
use Rattle.std.specs.Coded.{×_prop, Unit-prop, Coded-set, coded_ℕ, coded_bool, coded_list}
use Rattle.std.specs.List.{AllZip, list_all}
use Rattle.std.specs.Option.{IsSomeAnd, IsSomeAnd-prop}
use Rattle.shared_core_wire.specs.Acceptance.{accepts_payload}
use Rattle.shared_core_wire.specs.Canonical.{canonical_payload}
use Rattle.shared_core_wire.specs.Schema.{Kind, Row, Message, Plain, Optional, Repeated, OneOf}
use Rattle.shared_core_codec.specs.Equality.{parts_equal}
use Rattle.shared_core_codec.specs.Payloads.{IsAccepted, payload_meaning}
use Rattle.shared_core_codec.specs.Table.{table}
use Rattle.shared_core_message.specs.Messages.{message_schema}
use Rattle.shared_core_compare.specs.Commands.{command_fields}
use Rattle.shared_core_stream.specs.declared.encoding.raw_message.RawMessage.{RawMessage}
use Rattle.replay_bench.specs.declared.journals.Ignored.{Ignored}
use Rattle.replay_bench.specs.declared.forms.Form.{Form}
use Rattle.replay_bench.specs.declared.forms.Form.TheVariants.{Known, Malformed, Unknown}
use Rattle.replay_bench.specs.Ids.{erased_but, id_numbers}

-- Nothing is erased of a command of a schema before it is compared.
pub record ErasesNothing (ignore : Ignored) (s : ℕ) : Type 0 where
  pub compared : (command_fields s).not_compared ≡ []
  pub kept : IsTrue ignore.payloads → (command_fields s).payloads ≡ []
  pub without : IsTrue ignore.ids → id_numbers s ≡ []

-- Two tests pass, and two byte strings are the same.
abbrev pub AllPass : Bool → Bool → List ℕ → List ℕ → Type 0
AllPass one other a b = (one ≡ true) × ((other ≡ true) × (a ≡ b))

-- These bytes are the canonical payload of what a payload means for a schema, with everything erased that is not
-- compared: the payload is accepted, the bytes mean that, and are its canonical payload.
abbrev pub IsForm : Ignored → List ℕ → List ℕ → ℕ → Type 0
IsForm ignore payload form s =
    AllPass (accepts_payload table 100 s payload)
    (parts_equal (payload_meaning s form) (erased_but ignore s (payload_meaning s payload)))
    form (canonical_payload table s (payload_meaning s form))

-- The form of a command: bytes by which it is compared; or its payload is not well-formed, or nothing is known.
abbrev pub HasForm : Ignored → RawMessage → Form → Type 0
HasForm ignore command (Known bytes) =
    IsSomeAnd (message_schema command.header.ty) (IsForm ignore command.payload bytes)
HasForm ignore command Malformed = IfSome (message_schema command.header.ty) (λ s. ¬ (IsAccepted s command.payload))
HasForm ignore command Unknown = Unit {0}

-- The forms of commands, one for each.
abbrev pub HaveForms : Ignored → List RawMessage → List Form → Type 0
HaveForms ignore commands forms = AllZip (HasForm ignore) commands forms

-- That tests pass is a fact with one proof.
all_pass_prop : (one other : Bool) (a b : List ℕ) → IsProp (AllPass one other a b)
all_pass_prop one other a b =
    ×_prop (Coded-set coded_bool one true)
    (×_prop (Coded-set coded_bool other true) (Coded-set (coded_list coded_ℕ) a b))

-- The same of the form of a command.
has_form_prop : (ignore : Ignored) (command : RawMessage) (form : Form) → IsProp (HasForm ignore command form)
has_form_prop ignore command (Known bytes) =
    IsSomeAnd-prop (message_schema command.header.ty) (IsForm ignore command.payload bytes)
    (λ s. all_pass_prop (accepts_payload table 100 s command.payload)
    (parts_equal (payload_meaning s bytes) (erased_but ignore s (payload_meaning s command.payload)))
    bytes (canonical_payload table s (payload_meaning s bytes)))
has_form_prop ignore command Malformed = malformed_prop (message_schema command.header.ty)
  where
    malformed_prop : (schema : Option ℕ) → IsProp (IfSome schema (λ s. ¬ (IsAccepted s command.payload)))
    malformed_prop None = Unit-prop
    malformed_prop (Some s) = ¬_prop
has_form_prop ignore command Unknown = Unit-prop

-- The same of the forms of commands.
pub forms_prop : (ignore : Ignored) (commands : List RawMessage) (forms : List Form)
    → IsProp (HaveForms ignore commands forms)
forms_prop ignore [] [] = Unit-prop
forms_prop ignore [] (form ∷ forms) = ⊥_prop
forms_prop ignore (command ∷ commands) [] = ⊥_prop
forms_prop ignore (command ∷ commands) (form ∷ forms) =
    ×_prop (has_form_prop ignore command form) (forms_prop ignore commands forms)

-- The kinds of what a row holds.
abbrev pub kinds_of : Row → List Kind
kinds_of (Plain n k) = k ∷ []
kinds_of (Optional n k) = k ∷ []
kinds_of (Repeated n k) = k ∷ []
kinds_of (OneOf members) = map (λ member. member.1) members

-- Whether values of a kind are not messages, or messages of a schema for which this holds.
abbrev pub is_flat_or : (ℕ → Bool) → Kind → Bool
is_flat_or holds (Message s) = holds s
is_flat_or holds k = true

-- The same of what each row holds.
abbrev pub are_flat_or : (ℕ → Bool) → List Row → Bool
are_flat_or holds rows = list_all (λ row. list_all (is_flat_or holds) (kinds_of row)) rows

-- Whether the messages of a schema are nested at most this deep.
abbrev pub is_shallow : ℕ → ℕ → Bool
is_shallow zero s = are_flat_or (λ t. false) (table s)
is_shallow (suc n) s = are_flat_or (is_shallow n) (table s)
