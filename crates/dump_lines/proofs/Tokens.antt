-- The tokens of an object's members, one after the other.
use Rattle.std.proofs.Common.{◌≡◌, ℕ, List, [], ◌∷◌, ◌++◌, Bool, true, false, cond, Option, Some, None, refl, sym}
use Rattle.std.proofs.Common.{ap, ◌∙◌, append_assoc}
use Rattle.std.specs.Prelude.{codes}
use Rattle.std.specs.Int.{w64, to_be_bytes}
use Rattle.std.specs.Prelude.{◌==◌}
use Rattle.base64.specs.GeneralPurpose.{encode_of}
use Rattle.base64.specs.Engines.{standard}
use Rattle.json.specs.Token.{Token, key, string, end_object}
use Rattle.json.specs.Json.{Members, member, no_members, boolean}
use Rattle.json.specs.Tree.{json_tokens, members_tokens}
use Rattle.shared_core_wire.specs.Acceptance.{accepts_payload}
use Rattle.shared_core_wire.specs.Overlay.{meaning}
use Rattle.shared_core_wire.specs.Schema.{Table}
use Rattle.shared_core_wire.specs.Value.{Parts}
use Rattle.shared_core_codec.specs.Tables.{IsAcceptedIn}
use Rattle.shared_core_json.specs.Fields.{Names}
use Rattle.shared_core_json.specs.Form.{json_with_in}
use Rattle.dump_lines.specs.Lines.{ack_tokens, ack_members, header_json, header_members, header_tokens, meaning_json}
use Rattle.dump_lines.specs.Lines.{payload_members_in, malformed_members}
use Rattle.dump_lines.specs.Reading.{Reading}
use Rattle.dump_lines.proofs.ReadPayloads.{not_true}

pub then_tokens : (old new front rest : List Token) → new ≡ old ++ front → new ++ rest ≡ old ++ (front ++ rest)
then_tokens old new front rest e = ap (λ (ts : List Token). ts ++ rest) e ∙ append_assoc old front rest

pub then_ack : (old new : List Token) (flag : Option Bool) (others : Members) → new ≡ old ++ ack_tokens flag → new ++
    members_tokens others ≡ old ++ members_tokens (ack_members flag others)
then_ack old new None others e = then_tokens old new [] (members_tokens others) e
then_ack old new (Some flag) others e = then_tokens old new (ack_tokens (Some flag)) (members_tokens others) e

shown_message : (r : Reading) (texts : Bool) (schema : Option ℕ) (s : ℕ) (payload : List ℕ) → schema ≡ Some s
    → IsAcceptedIn r.table s payload → payload_members_in r texts schema payload ≡ member (codes "message")
    (meaning_json r texts s payload) no_members
shown_message r texts schema s payload e a = rw (e, a) refl

-- the member of a canonical payload that means what a well-formed one does
pub shown_canonical : (r : Reading) (texts : Bool) (schema : Option ℕ) (s : ℕ) (payload : List ℕ) (t : ℕ)
    (bytes : List ℕ) (table : Table) (names : Names) (old named new : List Token) → schema ≡ Some s
    → IsAcceptedIn r.table s payload → table ≡ r.table → names ≡ r.names → t ≡ s
    → meaning r.table 100 s bytes ≡ meaning r.table 100 s payload → named ≡ old ++ key (codes "message") ∷ []
    → new ≡ named ++ json_tokens (json_with_in table names texts t (meaning table 100 t bytes))
    → new ++ end_object ∷ [] ≡ old ++ members_tokens (payload_members_in r texts schema payload)
shown_canonical r texts schema s payload t bytes table names old named new e a at by k m n w =
    let json = json_tokens (meaning_json r texts s payload) in
    let written = w
    ∙ ap (λ (u : ℕ). named ++ json_tokens (json_with_in table names texts u (meaning table 100 u bytes))) k
    ∙ ap (λ (u : Table). named ++ json_tokens (json_with_in u names texts s (meaning u 100 s bytes))) at
    ∙ ap (λ (u : Names). named ++ json_tokens (json_with_in r.table u texts s (meaning r.table 100 s bytes))) by
    ∙ ap (λ (v : Parts). named ++ json_tokens (json_with_in r.table r.names texts s v)) m in
    then_tokens named new json (end_object ∷ []) written
    ∙ then_tokens old named (key (codes "message") ∷ []) (json ++ end_object ∷ []) n
    ∙ ap (λ (ms : Members). old ++ members_tokens ms) (sym (shown_message r texts schema s payload e a))

pub shown_malformed : (r : Reading) (texts : Bool) (schema : Option ℕ) (s : ℕ) (payload : List ℕ) → schema ≡ Some s → ¬
    (IsAcceptedIn r.table s payload) → payload_members_in r texts schema payload ≡ malformed_members texts payload
shown_malformed r texts schema s payload e a = rw (e, not_true (accepts_payload r.table 100 s payload) a) refl

-- the head of a message, and what is after it
pub head_then : (old a b c d x y z : List Token) (flag : Option Bool) (others : Members) → a ≡ old ++ x → b ≡ a ++ y → c
    ≡ b ++ z → d ≡ c ++ ack_tokens flag
    → d ++ members_tokens others ≡ old ++ (x ++ (y ++ (z ++ members_tokens (ack_members flag others))))
head_then old a b c d x y z flag others e f g h =
    then_ack c d flag others h ∙ then_tokens b c z (members_tokens (ack_members flag others)) g
    ∙ then_tokens a b y (z ++ members_tokens (ack_members flag others)) f ∙ then_tokens old a x
    (y ++ (z ++ members_tokens (ack_members flag others))) e

pub then_header : (old new : List Token) (word written : ℕ) (others : Members) → new ≡ old ++ header_tokens word written
    → new ++ members_tokens others ≡ old ++ members_tokens (header_members word written others)
then_header old new word written others e = by (word == written) e
  where
    bytes : List ℕ
    bytes = to_be_bytes w64 word

    shown : List Token
    shown = key (codes "header") ∷ string (encode_of standard bytes) ∷ []

    by : (b : Bool) → new ≡ old ++ cond b [] shown
        → new ++ members_tokens others ≡ old ++ members_tokens
        (cond b others (member (codes "header") (header_json bytes) others))
    by true is = then_tokens old new [] (members_tokens others) is
    by false is = then_tokens old new shown (members_tokens others) is

-- the same with the bytes of the header
pub head_with_header : (old a b c d f x y z : List Token) (flag : Option Bool) (word written : ℕ) (others : Members) → a
    ≡ old ++ x → b ≡ a ++ y → c ≡ b ++ z → d ≡ c ++ ack_tokens flag → f ≡ d ++ header_tokens word written
    → f ++ members_tokens others ≡ old ++ (x ++ (y ++ (z ++ members_tokens
    (ack_members flag (header_members word written others)))))
head_with_header old a b c d f x y z flag word written others e g h i j =
    then_header d f word written others j ∙ head_then old a b c d x y z flag (header_members word written others) e g h
    i

-- a flag and a code, and the bytes of a header
pub code_with_header : (old a b c x y : List Token) (word written : ℕ) (others : Members) → a ≡ old ++ x → b ≡ a ++ y →
    c ≡ b ++ header_tokens word written
    → c ++ members_tokens others ≡ old ++ (x ++ (y ++ members_tokens (header_members word written others)))
code_with_header old a b c x y word written others e f g =
    then_header b c word written others g ∙ then_tokens a b y (members_tokens (header_members word written others)) f
    ∙ then_tokens old a x (y ++ members_tokens (header_members word written others)) e

-- the same with a length
pub length_with_header : (old a b c d x y z : List Token) (word written : ℕ) (others : Members) → a ≡ old ++ x → b ≡ a
    ++ y → c ≡ b ++ z → d ≡ c ++ header_tokens word written
    → d ++ members_tokens others ≡ old ++ (x ++ (y ++ (z ++ members_tokens (header_members word written others))))
length_with_header old a b c d x y z word written others e f g h =
    code_with_header a b c d y z word written others f g h
    ∙ then_tokens old a x (y ++ (z ++ members_tokens (header_members word written others))) e
