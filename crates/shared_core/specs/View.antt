-- The view of a notification, whatever its type.
use Rattle.std.specs.Prelude.{◌≡◌, ◌≢◌, ◌⊎◌, ℕ, Bool, List, Option, Some, None, Result, Ok, Err, true, codes, nat_eq}
use Rattle.std.specs.Prelude.{if◌then◌else◌}
use Rattle.std.specs.List.{list_any}
use Rattle.shared_core_wire.specs.Schema.{OneOf, includes, all_numbers, numbers}
use Rattle.shared_core_wire.specs.Overlay.{payload_records}
use Rattle.shared_core_wire.specs.Template.{are_apart, part_at}
use Rattle.shared_core_wire.specs.Value.{Part, Parts, Absent}
use Rattle.shared_core_codec.specs.Table.{table, notification_template}
use Rattle.shared_core_codec.specs.Payloads.{IsAccepted, payload_meaning}
use Rattle.shared_core_parts.specs.declared.notification.Notification.{Notification}
use Rattle.shared_core_parts.specs.contracts.notification_template.IdOneOf.TheImpl as ids
use Rattle.shared_core_parts.specs.contracts.notification_template.ResultOneOf.TheImpl as results
use Rattle.shared_core_stream.specs.declared.encoding.raw_message.RawMessage.{RawMessage}
use Rattle.shared_core.specs.declared.encoding.error.DecodingError.{DecodingError}
use Rattle.shared_core.specs.declared.encoding.error.DecodingError.TheVariants.{MissingField, OutOfMemory}
use Rattle.shared_core.specs.TemplateParts.{template_parts}
use Rattle.shared_core.specs.Typed.{MeansParts, RejectsPayload}

-- The parts of the template that a notification is: its id and its result.
abbrev pub notification_parts : Notification → Parts
notification_parts found = template_parts (ids.part-value.it found.id) (results.part-value.it found.result)

-- The error says that a field of the message is missing.
abbrev pub IsMissing : RawMessage → List ℕ → DecodingError → Type 0
IsMissing message field (MissingField expected missing) = (expected ≡ message.header.ty) × (missing.now ≡ field)
IsMissing message field error = ⊥

-- The template lacks the field: an id, or a result in addition to an id.
abbrev pub LacksField : List ℕ → Parts → Type 0
LacksField field parts =
    ((field ≡ codes "id") × (result : Part) × (parts ≡ template_parts Absent result))
    ⊎ ((field ≡ codes "result") × (id : Part) × (id ≢ Absent) × (parts ≡ template_parts id Absent))

-- When the view is rejected: the payload is, or it means a template that lacks a field, the id first.
abbrev pub RejectsNotification : RawMessage → DecodingError → Type 0
RejectsNotification message (MissingField expected missing) =
    (expected ≡ message.header.ty) × (parts : Parts) × MeansParts notification_template message.payload parts ×
    LacksField missing.now parts
RejectsNotification message error = RejectsPayload notification_template message error

-- The numbers of an id in the template.
abbrev pub id_numbers : List ℕ
id_numbers = numbers (OneOf ids.members-value.it)

-- The numbers of a result in the template.
abbrev pub result_numbers : List ℕ
result_numbers = numbers (OneOf results.members-value.it)

-- Whether a record of the payload has one of these numbers.
abbrev pub has_record : List ℕ → List ℕ → Bool
has_record ns payload = list_any (λ r. includes ns r.number) (payload_records 100 payload)

-- The field that a payload lacks: the id if no record is one, otherwise the result if no record is one.
abbrev pub lacking_field : List ℕ → Option (List ℕ)
lacking_field payload = if has_record id_numbers payload then
    (if has_record result_numbers payload then None else Some (codes "result")) else Some (codes "id")

-- The result by the field that is lacking, if any: the error that it is missing, otherwise the view. An allocation may
-- fail.
abbrev pub ReturnsLacking : RawMessage → Option (List ℕ) → Result Notification DecodingError → Type 0
ReturnsLacking message None (Ok found) = Unit {0}
ReturnsLacking message (Some field) (Ok found) = ⊥
ReturnsLacking message None (Err error) = error ≡ OutOfMemory
ReturnsLacking message (Some field) (Err error) = IsMissing message field error ⊎ (error ≡ OutOfMemory)

-- The payload is well-formed for the schema, and each of its numbers is one of the schema's or none of the template's.
abbrev pub IsOfNotification : ℕ → List ℕ → Type 0
IsOfNotification s payload =
    IsAccepted s payload × (are_apart (table notification_template) (table s) (payload_records 100 payload) ≡ true)

-- At each number of the template that is in the payload, the parts of the template hold what the typed meaning holds
-- there.
abbrev pub AgreesWithType : ℕ → List ℕ → Parts → Type 0
AgreesWithType s payload parts = (n : ℕ) → includes (all_numbers (table notification_template)) n ≡ true
    → list_any (λ r. nat_eq r.number n) (payload_records 100 payload) ≡ true
    → part_at (table notification_template) parts n ≡ part_at (table s) (payload_meaning s payload) n
