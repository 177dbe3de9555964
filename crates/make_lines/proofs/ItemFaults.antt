-- What the fault of an item says of its line.
use Rattle.std.proofs.Common.{◌≡◌, ℕ, List, Option, Some, None, Err, codes, option_and_then}
use Rattle.std.proofs.Common.{refl, sym, ap, subst, ◌∙◌}
use Rattle.json.specs.Json.{Json}
use Rattle.shared_core_base.specs.MessageType.{type_of}
use Rattle.shared_core_json_reader.specs.declared.error.Reason.{Reason}
use Rattle.shared_core_json_reader.specs.Reading.{value_payload_in}
use Rattle.shared_core_json_reader.specs.FirstError.{value_error_in}
use Rattle.shared_core_json_reader.specs.Rows.{Format}
use Rattle.make_lines.specs.declared.reject.ItemFault.TheVariants.{Message}
use Rattle.make_lines.specs.Appending.{IsSaid, message_error}
use Rattle.make_lines.specs.Errors.{LineFault, inside}
use Rattle.make_lines.specs.Lines.{bytes_name, bytes_said, line_payload, message_said, nothing_said}
use Rattle.make_lines.specs.Making.{Making, schema_of}
use Rattle.make_lines.specs.Members.{given, given_either}

-- a message that has no payload rejects its line
pub message_rejected : (by : Making) (j : Json) (code : ℕ) (s : ℕ) (m : Json) (reason : Reason) (path : List ℕ) →
    given (codes "message") j ≡ Some m → option_and_then (schema_of by) (type_of code) ≡ Some s →
    value_payload_in by.messages.format s m ≡ None → value_error_in by.messages.format s m ≡ Some (reason, path) →
    (said : LineFault) × (message_said by code m ≡ Err said) × IsSaid by.messages.format j (Message s reason) said
message_rejected by j code s m reason path message schema none e = (
  inside (codes "message") reason path,
  rw (schema, none, e) refl,
  (path, rw message e, refl),
)

reason_in : Reason → Option (Reason × List ℕ) → Reason
reason_in reason None = reason
reason_in reason (Some error) = error.0

-- a message has one first error
pub same_error : (format : Format) (s : ℕ) (j : Json) (reason : Reason) (path : List ℕ) (r : Reason) (p : List ℕ)
    (said : LineFault) →
    message_error format s j ≡ Some (reason, path) → message_error format s j ≡ Some (r, p) → said
    ≡ inside (codes "message") r p →
    (x : List ℕ) × (message_error format s j ≡ Some (reason, x)) × (said ≡ inside (codes "message") reason x)
unfolding reason_in
same_error format s j reason path r p said e f is_said =
    let is : r ≡ reason = ap (reason_in r) (sym f ∙ e) in
    (p, f ∙ ap (λ (q : Reason). Some (q, p)) is, is_said ∙ ap (λ (q : Reason). inside (codes "message") q p) is)

-- bytes that are rejected reject their line
pub bytes_rejected : (by : Making) (j : Json) (code : ℕ) (b : Json) (name : List ℕ) (said : LineFault) →
    given (codes "message") j ≡ None → given_either (codes "bytes") (codes "payload") j ≡ Some b →
    given (codes "unknown") j ≡ None → name ≡ bytes_name j → bytes_said name b ≡ Err said →
    line_payload by code j ≡ Err said
bytes_rejected by j code b name said no_message bytes known n e =
    rw (no_message, bytes, known) (subst (λ (name : List ℕ). bytes_said name b ≡ Err said) n e)

-- a header that cannot be without a payload rejects its line
pub alone_rejected : (by : Making) (j : Json) (code : ℕ) (u : Json) (said : LineFault) →
    given (codes "message") j ≡ None → given_either (codes "bytes") (codes "payload") j ≡ None →
    given (codes "unknown") j ≡ Some u → nothing_said code u ≡ Err said → line_payload by code j ≡ Err said
alone_rejected by j code u said no_message no_bytes unknown e = rw (no_message, no_bytes, unknown) e
