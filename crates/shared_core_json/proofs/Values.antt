-- What single values are written as.
use Rattle.std.proofs.Common.{◌≡◌, ◌≤◌, ℕ, suc, ◌-◌, ◌^◌, ℤ, pos, negsuc, List, [], ◌∷◌, ◌++◌, Bool, true}
use Rattle.std.proofs.Common.{false, Result, Ok, Err, refl, sym, ap, ◌∙◌, arith, append_assoc, FitsSigned, subst}
use Rattle.std.proofs.lemmas.Bool.{lt-ltb, le-ltb}
use Rattle.std.specs.Prelude.{codes, decimal, OnOk}
use Rattle.std.specs.Str.{is_utf8}
use Rattle.base64.specs.GeneralPurpose.{encode_of}
use Rattle.base64.specs.Engines.{standard}
use Rattle.std.specs.Int.{w32, from_bool}
use Rattle.std.specs.Fmt.{signed_decimal}
use Rattle.json.specs.Token.{Token, begin_array, end_array, number, boolean}
use Rattle.json.specs.Json.{object, member, no_members}
use Rattle.json.specs.Json as json
use Rattle.json.specs.Tree.{items_tokens, json_tokens}
use Rattle.shared_core_wire.specs.Schema.{Table, Kind, Boolean, Enumeration}
use Rattle.shared_core_wire.specs.Value.{Elements, Number}
use Rattle.shared_core_codec.specs.FieldParts.{enum_number, parts_of}
use Rattle.shared_core_fields.specs.Views.{IsOf, message_meaning, value_kind, value_part, value_schemas}
use Rattle.shared_core_fields.specs.declared.fields.FieldValue.{FieldValue}
use Rattle.shared_core_fields.specs.declared.fields.FieldValue.TheVariants as v
use Rattle.shared_core_fields.specs.declared.fields.CanonicalPayload.{CanonicalPayload}
use Rattle.shared_core_wire.specs.Canonical.{part_levels, levels}
use Rattle.shared_core_json.specs.Fields.{Names}
use Rattle.shared_core_json.specs.Form.{Writing, byte_string_json, enum_digits, items_json_in, number_json}
use Rattle.shared_core_json.specs.Form.{part_json_in}
use Rattle.shared_core_json.specs.declared.digits.Digits.{Digits}

-- one number of a run
pub run_turn : (table : Table) (all_names : Names) (w : Writing) (how : Digits) (k : Kind) (n : ℕ) (ns rest : List ℕ)
    → w.digits ≡ how → ns ≡ n ∷ rest
    → items_tokens (items_json_in table all_names w (parts_of Number ns) k)
    ≡ json_tokens (number_json how k n) ++ items_tokens (items_json_in table all_names w (parts_of Number rest) k)
unfolding items_json_in
run_turn table all_names w how k n ns rest d e =
    ap (λ (xs : List ℕ). items_tokens (items_json_in table all_names w (parts_of Number xs) k)) e
    ∙ ap (λ (h : Digits). json_tokens (number_json h k n)
    ++ items_tokens (items_json_in table all_names w (parts_of Number rest) k)) d

-- the whole run
pub run_done : {E : Type 0} (r : Result (Unit {0}) E) (how : Digits) (k : Kind) (old begun looped new : List Token)
    (ns left : List ℕ) → begun ≡ old ++ begin_array ∷ [] → left ≡ []
    → ((table : Table) (all_names : Names) (w : Writing) → w.digits ≡ how → looped ++ items_tokens
    (items_json_in table all_names w (parts_of Number left) k)
    ≡ begun ++ items_tokens (items_json_in table all_names w (parts_of Number ns) k))
    → OnOk r (new ≡ looped ++ end_array ∷ [])
    → OnOk r ((table : Table) (all_names : Names) (w : Writing) → w.digits ≡ how → new ≡ old ++ json_tokens
    (part_json_in table all_names w (Elements (parts_of Number ns)) k))
unfolding items_json_in
run_done (Err e) how k old begun looped new ns left b n i c = tt
run_done (Ok x) how k old begun looped new ns left b n i c = λ table all_names w d.
    c ∙ (rw n at i table all_names w d)
    ∙ ap (λ (ts : List Token). ts ++ items_tokens (items_json_in table all_names w (parts_of Number ns) k)) b
    ∙ append_assoc old (begin_array ∷ []) (items_tokens (items_json_in table all_names w (parts_of Number ns) k))

-- the digits of an enum's number are those of the number itself
pub enum_shown : (z : ℤ) → FitsSigned w32 z → signed_decimal z ≡ enum_digits (enum_number z)
enum_shown (pos n) h = rw (lt-ltb n (2 ^ 31) h.sfits) (rw (lt-ltb n (2 ^ 31) h.sfits) refl)
enum_shown (negsuc n) h =
    let k : 2 ^ 31 ≤ 2 ^ 32 - 1 - n = omega (arith, h.sfits) in
    let m : suc n ≡ 2 ^ 32 - (2 ^ 32 - 1 - n) = omega (arith, h.sfits) in
    rw (lt-ltb n (2 ^ 31) h.sfits) (rw (le-ltb (2 ^ 32 - 1 - n) (2 ^ 31) k) (ap (λ (x : ℕ). 45 ∷ decimal x) m))

-- what is written for a value whose variant is known
pub shown : {T S : _} (table : Table) (all_names : Names) {E : Type 0} (r : Result (Unit {0}) E)
    (old new ts : List Token) (w : Writing) (value known : FieldValue (CanonicalPayload T S))
    → value ≡ known → OnOk r (new ≡ old ++ ts)
    → ts ≡ json_tokens (part_json_in table all_names w (value_part known) (value_kind known))
    → OnOk r (new ≡ old ++ json_tokens (part_json_in table all_names w (value_part value) (value_kind value)))
shown table all_names (Err x) old new ts w value known is c e = tt
shown {T} {S} table all_names (Ok x) old new ts w value known is c e =
    c ∙ ap (λ (us : List Token). old ++ us) (e ∙ sym (ap (λ (v : FieldValue (CanonicalPayload T S)). json_tokens
    (part_json_in table all_names w (value_part v) (value_kind v))) is))

pub flag_shown : (table : Table) (all_names : Names) (w : Writing) (b : Bool) → boolean b ∷ [] ≡ json_tokens
    (part_json_in table all_names w (Number (from_bool b)) Boolean)
unfolding part_json_in
flag_shown table all_names w true = refl
flag_shown table all_names w false = refl

-- a message in a value is less deep than the value
pub deeper : {T S : _} (value : FieldValue (CanonicalPayload T S)) (m : CanonicalPayload T S) (left : ℕ)
    → value ≡ v.Message m → part_levels (value_part value) ≤ left → suc (levels (message_meaning m)) ≤ left
unfolding levels
deeper {T} {S} value m left is h =
    subst (λ (x : FieldValue (CanonicalPayload T S)). part_levels (value_part x) ≤ left) is h

-- a message in a value of a table is of that table
pub same_table : {T : Type 0} {S : _} (schemas : T) (value : FieldValue (CanonicalPayload T S))
    (m : CanonicalPayload T S) → value ≡ v.Message m → IsOf schemas (value_schemas value) → m.schemas ≡ schemas
same_table {T} {S} schemas value m is h =
    subst (λ (x : FieldValue (CanonicalPayload T S)). IsOf schemas (value_schemas x)) is h

pub enum_json : (table : Table) (all_names : Names) (w : Writing) (n : ℕ)
    → json_tokens (part_json_in table all_names w (Number n) Enumeration) ≡ number (enum_digits n) ∷ []
unfolding part_json_in
enum_json table all_names w n = refl

-- ---- bytes of any kind

pub text_shown : (texts : Bool) (bytes text : List ℕ) → texts ≡ true → text ≡ bytes → is_utf8 bytes ≡ true → object
    (member (codes "text") (json.string text) no_members) ≡ byte_string_json texts bytes
text_shown texts bytes text t e u = rw (t, u, e) refl

pub base64_shown : (texts : Bool) (bytes : List ℕ) → is_utf8 bytes ≡ false → json.string (encode_of standard bytes) ≡
    byte_string_json texts bytes
base64_shown true bytes u = rw u refl
base64_shown false bytes u = refl

-- ---- a walk whose result stays

-- one more step
pub step_on : (old new front rest all : List Token) → new ≡ old ++ front → old ++ (front ++ rest) ≡ all → new ++ rest ≡
    all
step_on old new front rest all e h = rw e (append_assoc old front rest ∙ h)
