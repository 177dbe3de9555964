-- The view of a notification agrees with the notification's own type, and lacks a field if and only if no record has
-- it.
use Rattle.std.proofs.Common.{◌≡◌, ◌≤◌, ℕ, leb, List, [], ◌∷◌, Option, Some, None, Result, Ok, Err, Bool, true, false}
use Rattle.std.proofs.Common.{cond, ◌||◌, inl, inr, refl, sym, ap, subst, ◌∙◌}
use Rattle.std.specs.List.{list_any}
use Rattle.std.proofs.lemmas.Bool.{le-leb}
use Rattle.std.specs.Prelude.{codes}
use Rattle.shared_core_base.specs.declared.header.MessageType.{MessageType}
use Rattle.shared_core_base.specs.declared.header.MessageType.TheVariants.{CustomEntry}
use Rattle.shared_core_base.specs.MessageType.{IsNamed, code_of}
use Rattle.shared_core_wire.specs.Grammar.{FieldRecord}
use Rattle.shared_core_wire.specs.Schema.{Kind, OneOf, includes, numbers}
use Rattle.shared_core_wire.specs.Value.{Part, Parts, Absent, Number, cons, nil}
use Rattle.shared_core_wire.specs.Overlay.{NestedOverlay, message_overlay, oneof_over, own_records, payload_records}
use Rattle.shared_core_wire.specs.Template.{is_within_template}
use Rattle.shared_core_wire.proofs.TemplateView.{payload_views}
use Rattle.shared_core_codec.specs.Equality.{is_present}
use Rattle.shared_core_codec.specs.Table.{table, notification_template}
use Rattle.shared_core_codec.specs.Payloads.{IsAccepted}
use Rattle.shared_core_codec.proofs.Tables.{are_schemas}
use Rattle.shared_core_message.specs.Messages.{message_schema}
use Rattle.shared_core_parts.specs.declared.notification.Notification.{Notification}
use Rattle.shared_core_parts.specs.contracts.notification_template.IdOneOf.TheImpl as ids
use Rattle.shared_core_parts.specs.contracts.notification_template.ResultOneOf.TheImpl as results
use Rattle.shared_core_stream.specs.declared.encoding.raw_message.RawMessage.{RawMessage}
use Rattle.shared_core.specs.declared.encoding.error.DecodingError.{DecodingError}
use Rattle.shared_core.specs.declared.encoding.error.DecodingError.TheVariants.{DecodeMessage, OutOfMemory}
use Rattle.shared_core.specs.TemplateParts.{template_parts}
use Rattle.shared_core.specs.Typed.{MeansParts, RejectsPayload}
use Rattle.shared_core.specs.View.{IsOfNotification, AgreesWithType, ReturnsLacking, IsMissing, has_record, id_numbers}
use Rattle.shared_core.specs.View.{lacking_field, result_numbers}

-- whether the schema, if there is one, has rows of the template
within : Option ℕ → Bool
within None = true
within (Some s) = is_within_template (table notification_template) (table s)

either_way : (b : Bool) → cond b true true ≡ true
either_way true = refl
either_way false = refl

-- those of the types whose codes are notifications'
all_within : (ty : MessageType) → cond (leb 0x8000 (code_of ty)) (within (message_schema ty)) true ≡ true
unfolding within
all_within ty = elim ty as (λ ty. cond (leb 0x8000 (code_of ty)) (within (message_schema ty)) true ≡ true) [
  | CustomEntry code ↦ either_way (leb 0x8000 code)
  | _ ↦ refl
]

pub schema_within : (ty : MessageType) (s : ℕ) → 0x8000 ≤ code_of ty → message_schema ty ≡ Some s → is_within_template
    (table notification_template) (table s) ≡ true
unfolding within
schema_within ty s high is =
    ap within (sym is) ∙ ap (λ (b : Bool). cond b (within (message_schema ty)) true) (sym (le-leb _ _ high)) ∙
    all_within ty

-- each named type has a schema
pub schema_of_named : (ty : MessageType) → IsNamed ty → (s : ℕ) × (message_schema ty ≡ Some s)
schema_of_named ty = elim ty as (λ ty. IsNamed ty → (s : ℕ) × (message_schema ty ≡ Some s)) [
  | CustomEntry code ↦ λ named. absurd named
  | _ ↦ λ named. (_, refl)
]

-- what the type accepts, the template accepts
pub view_accepts : (ty : MessageType) (s : ℕ) (payload : List ℕ) → 0x8000 ≤ code_of ty → message_schema ty ≡ Some s →
    IsOfNotification s payload → IsAccepted notification_template payload
view_accepts ty s payload high is (accepted, apart) =
    (payload_views table 100 notification_template s payload (are_schemas notification_template) (are_schemas s)
    (schema_within ty s high is) apart accepted).0

-- and it holds what the type's meaning holds
pub view_agrees : (ty : MessageType) (s : ℕ) (payload : List ℕ) (parts : Parts) → MeansParts notification_template
    payload parts → 0x8000 ≤ code_of ty → message_schema ty ≡ Some s → IsOfNotification s payload → AgreesWithType s
    payload parts
view_agrees ty s payload parts means high is (accepted, apart) n known stands =
    rw means.1 ((payload_views table 100 notification_template s payload (are_schemas notification_template)
    (are_schemas s) (schema_within ty s high is) apart accepted).1 n known stands)

-- ---- the field that is missing

-- a oneof holds something if and only if it has a record
oneof_holds : (members : List (ℕ × Kind)) (overlay_nested : NestedOverlay) (rs : List FieldRecord)
    → is_present (oneof_over table overlay_nested members Absent (own_records (OneOf members) rs)) ≡ list_any
    (λ r. includes (numbers (OneOf members)) r.number) rs
oneof_holds members overlay_nested [] = refl
oneof_holds members overlay_nested (r ∷ rs) = by_test (oneof_holds members overlay_nested rs)
    (includes (numbers (OneOf members)) r.number)
  where
    by_test : is_present (oneof_over table overlay_nested members Absent (own_records (OneOf members) rs)) ≡ list_any
        (λ x. includes (numbers (OneOf members)) x.number) rs → (b : Bool)
        → is_present (oneof_over table overlay_nested members Absent
        (cond b (r ∷ own_records (OneOf members) rs) (own_records (OneOf members) rs))) ≡
        (b || list_any (λ x. includes (numbers (OneOf members)) x.number) rs)
    by_test later true = refl
    by_test later false = later

-- the part of the first row, and that of the second one
first : Parts → Part
first nil = Absent
first (cons p ps) = p

second : Parts → Part
second nil = Absent
second (cons p ps) = first ps

-- the parts of a template by their names, whichever row is the first
id_is_first : Bool
id_is_first = is_present (first (template_parts (Number 0) Absent))

id_of : Parts → Part
id_of parts = cond id_is_first (first parts) (second parts)

result_of : Parts → Part
result_of parts = cond id_is_first (second parts) (first parts)

-- what the template holds is what has a record
records_held : (payload : List ℕ) (id result : Part) → MeansParts notification_template payload
    (template_parts id result)
    → (has_record id_numbers payload ≡ is_present id) × (has_record result_numbers payload ≡ is_present result)
unfolding first second id_is_first id_of result_of
records_held payload id result means =
    let rs = payload_records 100 payload in
    let nested = message_overlay table 100 in (
      sym (ap (λ (ps : Parts). is_present (id_of ps)) means.1 ∙ oneof_holds ids.members-value.it nested rs),
      sym (ap (λ (ps : Parts). is_present (result_of ps)) means.1 ∙ oneof_holds results.members-value.it nested rs),
    )

-- the field that is lacking where the template holds these
held_field : Bool → Bool → Option (List ℕ)
held_field id result = cond id (cond result None (Some (codes "result"))) (Some (codes "id"))

returns_held : (message : RawMessage) (id result : Part) (returned : Result Notification DecodingError) → MeansParts
    notification_template message.payload (template_parts id result)
    → ReturnsLacking message (held_field (is_present id) (is_present result)) returned → ReturnsLacking message
    (lacking_field message.payload) returned
unfolding held_field
returns_held message id result returned means returns =
    let held = records_held message.payload id result means in
    subst (λ (b : Bool). ReturnsLacking message (held_field b (has_record result_numbers message.payload)) returned)
    (sym held.0)
    (subst (λ (b : Bool). ReturnsLacking message (held_field (is_present id) b) returned) (sym held.1) returns)

pub lacks_id : (message : RawMessage) (result : Part) (failure : DecodingError) → MeansParts notification_template
    message.payload (template_parts Absent result) → IsMissing message (codes "id") failure
    → ReturnsLacking message (lacking_field message.payload) (Err failure)
unfolding held_field
lacks_id message result failure means missing = returns_held message Absent result (Err failure) means (inl missing)

pub lacks_result : (message : RawMessage) (id : Part) (failure : DecodingError) → MeansParts notification_template
    message.payload (template_parts id Absent) → is_present id ≡ true → IsMissing message (codes "result") failure
    → ReturnsLacking message (lacking_field message.payload) (Err failure)
unfolding held_field
lacks_result message id failure means there missing =
    returns_held message id Absent (Err failure) means (subst
    (λ (b : Bool). ReturnsLacking message (held_field b false) (Err failure)) (sym there) (inl missing))

pub lacks_nothing : (message : RawMessage) (id result : Part) (found : Notification) → MeansParts notification_template
    message.payload (template_parts id result) → is_present id ≡ true → is_present result ≡ true
    → ReturnsLacking message (lacking_field message.payload) (Ok found)
unfolding held_field
lacks_nothing message id result found means there here =
    returns_held message id result (Ok found) means
    (subst (λ (b : Bool). ReturnsLacking message (held_field b (is_present result)) (Ok found)) (sym there)
    (subst (λ (b : Bool). ReturnsLacking message (held_field true b) (Ok found)) (sym here) tt))
