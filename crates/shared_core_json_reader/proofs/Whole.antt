-- A whole text: the value that it is, and the payload that is appended for a value.
use Rattle.std.proofs.Common.{◌≡◌, ℕ, ◌^◌, ◌<◌, length, List, [], Bool, true, false, cond, Option, Some, None}
use Rattle.std.proofs.Common.{option_map, option_and_then, refl, sym, ap, subst, ◌∙◌, arith, ◌≢◌, Result, Ok, Err}
use Rattle.std.specs.Prelude.{MatchResult}
use Rattle.std.specs.Str.{is_utf8}
use Rattle.json.specs.Token.{Token}
use Rattle.json.specs.Lex.{tokens}
use Rattle.json.specs.Json.{Json, if_last, document}
use Rattle.json_table.proofs.Spelled.{document_deeper}
use Rattle.shared_core_wire.specs.Canonical.{canonical_payload}
use Rattle.shared_core_wire.specs.Value.{Parts}
use Rattle.shared_core_wire.proofs.ReadBackLevels.{canonical_back}
use Rattle.shared_core_json_reader.proofs.FormatRows.{schemas_of}
use Rattle.shared_core_json_reader.specs.Reading.{only_value, json_of_text, message_read}
use Rattle.shared_core_json_reader.specs.Reading.{max_depth}
use Rattle.shared_core_json_reader.specs.Appended.{message_bytes, after}
use Rattle.shared_core_json_reader.specs.FirstError.{Step, PathError, message_error, path_text, trail_view}
use Rattle.shared_core_json_reader.specs.FirstError.{HasError}
use Rattle.shared_core_json_reader.specs.declared.error.Reason.TheVariants.{OutOfMemory}
use Rattle.shared_core_json_reader.specs.declared.payload.Step as program
use Rattle.shared_core_json_reader.specs.declared.error.Reason.{Reason}
use Rattle.shared_core_json_reader.proofs.Agreeing.{message_agrees}
use Rattle.shared_core_json_reader.proofs.Fitting.{some_map, message_fits}
use Rattle.shared_core_codec.specs.Tables.{IsAcceptedIn}
use Rattle.shared_core_json_reader.specs.FirstError.{value_error_in}
use Rattle.shared_core_json_reader.specs.Readable.{IsReadable}
use Rattle.shared_core_json_reader.specs.Reading.{value_payload_in, text_payload_in}
use Rattle.shared_core_json_reader.specs.Rows.{Format}
use Rattle.shared_core_wire.specs.Overlay.{meaning}

-- ---- the value that a text is

pub not_a_text : (text : List ℕ) → is_utf8 text ≡ false → json_of_text text ≡ None
not_a_text text e = ap (λ (b : Bool). cond b (only_value (tokens text)) None) e

-- a text of some tokens
pub record IsText (text : List ℕ) (ts : List Token) : Type 0 where
  pub utf8 : is_utf8 text ≡ true
  pub lexed : ts ≡ tokens text

pub of_tokens : (text : List ℕ) (ts : List Token) (o : Option Json) → IsText text ts → only_value ts ≡ o → json_of_text
    text ≡ o
of_tokens text ts o t e = ap (λ (b : Bool). cond b (only_value (tokens text)) None) t.utf8 ∙ ap
    (λ (us : List Token). only_value us) (sym t.lexed) ∙ e

-- a text that is not nested deep is the same value where texts may be nested deeper
pub of_document : (text : List ℕ) (j : Json) → is_utf8 text ≡ true → document text ≡ Some j → json_of_text text ≡
    Some j
unfolding only_value
of_document text j utf8 e =
    of_tokens text (tokens text) (Some j) (record { utf8 = utf8; lexed = refl })
    (ap (λ (r : Option (Json × List Token)).
    option_and_then (λ p. if_last p.0 p.1) r) (document_deeper text j max_depth (omega arith) e))

-- ---- the payload of a value

nothing_before : (o : Option (List ℕ)) → after [] o ≡ o
nothing_before None = refl
nothing_before (Some xs) = refl

pub appended_payload : (format : Format) (law : IsReadable format) (s : ℕ) (j : Json) (old out : List ℕ) → old ≡ []
    → after old (message_bytes format 101 s j) ≡ Some out →
    value_payload_in format s j ≡ Some out
appended_payload format law s j old out n a =
    sym (message_agrees format law 101 s j) ∙ sym (nothing_before (message_bytes format 101 s j)) ∙ ap
    (λ (xs : List ℕ). after xs (message_bytes format 101 s j)) (sym n) ∙ a

pub no_payload : (format : Format) (law : IsReadable format) (s : ℕ) (j : Json) → message_bytes format 101 s j ≡ None
    → value_payload_in format s j ≡ None
no_payload format law s j a = sym (message_agrees format law 101 s j) ∙ a

-- a payload that a value means is accepted, and means what the value means
pub payload_means : (format : Format) (law : IsReadable format) (s : ℕ) (j : Json) (out : List ℕ)
    → value_payload_in format s j ≡ Some out → length out < 2 ^ 64 → IsAcceptedIn format.table
    s out × (message_read format 101 s j ≡ Some (meaning format.table 100 s out))
payload_means format law s j out e z =
    let x = some_map (canonical_payload format.table s) (message_read format 101 s j) out e in
    let f = message_fits format law 101 s j x.0 x.1 in
    let back = canonical_back format.table (schemas_of format law) 100 s x.0 f.0 (omega (arith, f.1))
    (subst (λ (bs : List ℕ). length bs < 2 ^ 64) (sym x.2) z) in
    subst (λ (bs : List ℕ). IsAcceptedIn format.table s bs
    × (message_read format 101 s j ≡ Some (meaning format.table 100 s bs))) x.2
    (back.0, x.1 ∙ ap (λ (v : Parts). Some v) (sym back.1))

-- the first error of a value is that of its message, with the path as text
pub error_of_value : (format : Format) (s : ℕ) (j : Json) (reason : Reason) (path : List Step) →
    message_error format 101 s j ≡ Some (reason, path) → (text : List ℕ)
    × (value_error_in format s j ≡ Some (reason, text))
error_of_value format s j reason path e =
    (path_text true path, ap (λ (o : Option PathError). option_map (λ (r : PathError). (r.0, path_text true r.1)) o) e)

-- how a call for a value's message ended says the reason of the value's first error
pub error_said : {A : Type 0} (format : Format) (s : ℕ) (j : Json) (r : Result A Reason) (trail : List program.Step)
    → HasError r (message_error format 101 s j) trail
    → MatchResult r (λ _. value_error_in format s j ≡ None)
    (λ reason. reason ≢ OutOfMemory → (path : List ℕ) × (value_error_in format s j ≡ Some (reason, path)))
error_said format s j (Ok x) trail h =
    ap (λ (o : Option PathError). option_map (λ (e : PathError). (e.0, path_text true e.1)) o) h.0
error_said format s j (Err reason) trail h = λ n. error_of_value format s j reason (trail_view trail) (h n)

-- ---- the payload of a text

pub text_of_value : (format : Format) (s : ℕ) (text : List ℕ) (j : Json) → json_of_text text ≡ Some j
    → text_payload_in format s text ≡
    value_payload_in format s j
text_of_value format s text j e = ap (λ (o : Option Json). option_map (canonical_payload format.table s)
    (option_and_then (message_read format 101 s) o)) e
