-- Errors: of a message at each level, of one more element or member, and of a text.
use Rattle.std.proofs.Common.{◌≡◌, ◌≢◌, ℕ, zero, suc, ◌+◌, ◌-◌, ◌<◌, ◌≤◌, List, [], ◌∷◌, ◌++◌, length, drop, Bool, true}
use Rattle.std.proofs.Common.{append_assoc, false, Option, Some, None, refl, sym, ap, subst, ◌∙◌, arith}
use Rattle.std.specs.Option.{option_or}
use Rattle.std.specs.Str.{is_utf8}
use Rattle.json.specs.Json.{Json, Items, no_items, item, Members}
use Rattle.shared_core_codec.specs.declared.rows.Field.{Field}
use Rattle.shared_core_json_reader.specs.declared.error.Reason.{Reason}
use Rattle.shared_core_json_reader.specs.declared.error.Reason.TheVariants.{NotJson, TooDeep, OutOfMemory}
use Rattle.shared_core_json_reader.specs.declared.payload.Step as program
use Rattle.shared_core_json_reader.specs.Rows.{NamedField, in_schema, named_members, named_rows}
use Rattle.shared_core_json_reader.specs.Reading.{given}
use Rattle.shared_core_json_reader.specs.FirstError.{run_error, within}
use Rattle.shared_core_json_reader.specs.FirstError.{Step, Member, Element, PathError, field_error, items_error}
use Rattle.shared_core_json_reader.specs.FirstError.{given_error, member_error, holds_after, oneof_error, object_error}
use Rattle.shared_core_json_reader.specs.FirstError.{message_error, offset_of, IsPlace, step_view, trail_view}
use Rattle.shared_core_json_reader.specs.FirstError.{step_text, path_text}
use Rattle.shared_core_json_reader.specs.Rows.{Format}

pub no_level_error : (format : Format) (levels : ℕ) (s : ℕ) (j : Json) (trail : List program.Step) → levels ≡ 0 → trail
    ≡ [] →
    message_error format levels s j ≡ Some (TooDeep, trail_view trail)
unfolding message_error
no_level_error format levels s j trail e t = rw e (ap (λ (steps : List program.Step). Some (TooDeep, trail_view steps))
    (sym t))

less_one : (n : ℕ) → suc n - 1 ≡ n
less_one n = omega arith

pub at_level_error : (format : Format) (levels s : ℕ) (j : Json) → 0 < levels
    → object_error (message_error format (levels - 1)) (named_rows format s) j
    ≡ message_error format levels s j
unfolding message_error
at_level_error format zero s j h = absurd (omega arith)
at_level_error format (suc left) s j h = rw (less_one left) refl

-- one more step is noted
pub trail_more : (steps : List program.Step) (step : program.Step) → trail_view (steps ++ step ∷ []) ≡ step_view step ∷
    trail_view steps
trail_more [] step = refl
trail_more (other ∷ steps) step = ap (λ (path : List Step). path ++ step_view other ∷ []) (trail_more steps step)

-- one step of a path is printed
pub path_turn : (first : Bool) (text new : List ℕ) (old rest : List program.Step) (step : program.Step) (all : List ℕ) →
    old ≡ rest ++ step ∷ [] → new ≡ text ++ step_text first (step_view step) → text ++ path_text first
    (trail_view old) ≡ all → new ++ path_text false (trail_view rest) ≡ all
path_turn first text new old rest step all o e h =
    let more = path_text false (trail_view rest) in
    ap (λ (xs : List ℕ). xs ++ more) e
    ∙ append_assoc text (step_text first (step_view step)) more
    ∙ sym (ap (λ (path : List Step). text ++ path_text first path) (ap trail_view o ∙ trail_more rest step)) ∙ h

-- an error is noted one step further out
pub within_noted : (error : Option PathError) (step : Step) (reason noted : Reason) (before after : List program.Step) →
    (reason ≢ OutOfMemory → error ≡ Some (reason, trail_view before)) → (noted ≢ OutOfMemory → (noted ≡ reason) ×
    (trail_view after ≡ step ∷ trail_view before)) → noted ≢ OutOfMemory → within step error ≡ Some
    (noted, trail_view after)
within_noted error step reason noted before after h e n =
    let same = e n in
    ap (within step) (h (λ z. n (same.0 ∙ z)))
    ∙ ap (λ (r : Reason). Some (r, step ∷ trail_view before)) (sym same.0)
    ∙ ap (λ (path : List Step). Some (noted, path)) (sym same.1)

pub items_error_end : (nested : ℕ → Json → Option PathError) (f : NamedField) (js : Items) (i : ℕ)
    (all : Option PathError) → js ≡ no_items → items_error nested f i js ≡ all → all ≡ None
items_error_end nested f js i all is h = sym h ∙ ap (λ (ks : Items). items_error nested f i ks) is

pub run_error_end : (f : NamedField) (js : Items) (i : ℕ) (all : Option PathError) → js ≡ no_items → run_error f i js ≡
    all → all ≡ None
run_error_end f js i all is h = sym h ∙ ap (λ (ks : Items). run_error f i ks) is

-- an element that has an error
pub items_error_stop : (nested : ℕ → Json → Option PathError) (f : NamedField) (js rest : Items) (j : Json) (i : ℕ)
    (all : Option PathError) (error : PathError) → js ≡ item j rest → items_error nested f i js ≡ all → within
    (Element i) (field_error nested f j) ≡ Some error → all ≡ Some error
items_error_stop nested f js rest j i all error is h e =
    sym h ∙ ap (λ (ks : Items). items_error nested f i ks) is
    ∙ ap (λ (o : Option PathError). option_or o (items_error nested f (i + 1) rest)) e

pub items_error_turn : (nested : ℕ → Json → Option PathError) (f : NamedField) (js rest : Items) (j : Json) (i : ℕ)
    (all : Option PathError) → js ≡ item j rest → field_error nested f j ≡ None → items_error nested f i js ≡ all →
    items_error nested f (i + 1) rest ≡ all
items_error_turn nested f js rest j i all is none h =
    sym (ap (λ (o : Option PathError). option_or (within (Element i) o) (items_error nested f (i + 1) rest)) none)
    ∙ sym (ap (λ (ks : Items). items_error nested f i ks) is) ∙ h

-- the error of a member of a oneof of which none is there before
one_error : (nested : ℕ → Json → Option PathError) (ms : Members) (f : NamedField) (fs : List NamedField) (j : Json) →
    given f ms ≡ Some (Some j)
    → oneof_error nested ms false (f ∷ fs) ≡ option_or (within (Member f.name) (field_error nested f j))
    (oneof_error nested ms true fs)
one_error nested ms f fs j g =
    ap (λ (o : Option (Option Json)). option_or (given_error (member_error nested false f) f o)
    (oneof_error nested ms (holds_after false o) fs)) g

pub oneof_error_turn : (format : Format) (nested : ℕ → Json → Option PathError) (ms : Members) (s : ℕ) (xs : List Field)
    (i : ℕ)
    (x : Field) (j : Json) (held : Bool) (all : Option PathError) → drop i xs ≡ x ∷ drop (i + 1) xs → given
    (in_schema format s x) ms ≡ Some (Some j) → held ≡ false → field_error nested (in_schema format s x) j ≡ None
    → oneof_error nested
    ms held (named_members format s (drop i xs)) ≡ all
    → oneof_error nested ms true (named_members format s (drop (i + 1) xs)) ≡ all
oneof_error_turn format nested ms s xs i x j held all next found none ok h =
    let rest = named_members format s (drop (i + 1) xs) in
    let f = in_schema format s x in
    sym (ap (λ (o : Option PathError). option_or (within (Member f.name) o) (oneof_error nested ms true rest)) ok)
    ∙ sym (one_error nested ms f rest j found)
    ∙ sym (ap (λ (ys : List Field). oneof_error nested ms false (named_members format s ys)) next)
    ∙ sym (ap (λ (b : Bool). oneof_error nested ms b (named_members format s (drop i xs))) none)
    ∙ h

pub oneof_error_skip : (format : Format) (nested : ℕ → Json → Option PathError) (ms : Members) (s : ℕ) (xs : List Field)
    (i : ℕ)
    (x : Field) (held : Bool) (all : Option PathError) → drop i xs ≡ x ∷ drop (i + 1) xs
    → given (in_schema format s x) ms ≡
    Some None → oneof_error nested ms held (named_members format s (drop i xs)) ≡ all → oneof_error nested ms held
    (named_members format s (drop (i + 1) xs)) ≡ all
oneof_error_skip format nested ms s xs i x held all next found h =
    let rest = named_members format s (drop (i + 1) xs) in
    let f = in_schema format s x in
    sym (ap (λ (o : Option (Option Json)). option_or (given_error (member_error nested held f) f o)
    (oneof_error nested ms (holds_after held o) rest)) found)
    ∙ sym (ap (λ (ys : List Field). oneof_error nested ms held (named_members format s ys)) next)
    ∙ h

pub not_json_at : (text : List ℕ) (reason : Reason) (offset : Option ℕ) (n : ℕ) → offset ≡ offset_of reason n → reason ≡
    NotJson → n ≤ length text → is_utf8 text ≡ true → IsPlace text offset
not_json_at text reason offset n e q h u = subst (IsPlace text) (sym (e ∙ ap (λ (r : Reason). offset_of r n) q))
    (h, λ f. absurd (let x : true ≡ false = sym u ∙ f in cc))
