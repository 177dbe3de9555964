-- The laws of reading and writing.
use Rattle.std.specs.Prelude.{◌≡◌, ◌≤◌, ◌<◌, ◌^◌, ℕ, Bool, List, length, Some}
use Rattle.std.specs.Str.{IsUtf8}
use Rattle.base64.specs.GeneralPurpose.{IsBytes}
use Rattle.json.specs.Lex.{tokens}
use Rattle.json.specs.Tree.{json_tokens}
use Rattle.json.specs.Print.{print}
use Rattle.shared_core_wire.specs.Value.{Parts}
use Rattle.shared_core_wire.specs.Canonical.{canonical_payload, levels}
use Rattle.shared_core_codec.specs.Table.{table}
use Rattle.shared_core_codec.specs.Payloads.{IsAccepted, payload_meaning}
use Rattle.shared_core_codec.specs.Canonicity.{IsCanonical}
use Rattle.shared_core_json.specs.Form.{json_with}
use Rattle.shared_core_json.specs.Payloads.{IsEncoding}
use Rattle.shared_core_json_reader.specs.Reading.{text_payload}

-- A text whose tokens are those of the JSON of a value, with texts or without, as that which is written for the value's
-- canonical payload, is read as this payload, if the value is at most one hundred levels deep.
abbrev pub JsonIsReadBack : Bool → ℕ → Type 0
JsonIsReadBack texts s = (v : Parts) (bytes text : List ℕ) → IsEncoding s v bytes → IsBytes bytes → levels v ≤ 100
    → IsUtf8 text → tokens text ≡ json_tokens (json_with texts s v) → text_payload s text ≡ Some bytes

-- A payload that a text is read as is canonical, if it is not too long for a header.
abbrev pub ReadsCanonical : ℕ → Type 0
ReadsCanonical s = (text payload : List ℕ) → text_payload s text ≡ Some payload → length payload < 2 ^ 32 → IsCanonical
    s payload

-- A payload that a text is read as is read again, byte for byte, of each UTF-8 text that has the tokens of its JSON,
-- with texts or without. (Each slice is of bytes, and has fewer than 2 ^ 64 of them.)
abbrev pub IsReadAgain : Bool → ℕ → Type 0
IsReadAgain texts s = (text again payload : List ℕ) → text_payload s text ≡ Some payload → IsBytes payload → length
    payload < 2 ^ 64
    → IsUtf8 again → tokens again ≡ json_tokens (json_with texts s (payload_meaning s payload)) → text_payload s again ≡
    Some payload

-- A UTF-8 text that has the tokens of the JSON of a well-formed payload, with texts or without, is read as the
-- canonical
-- payload of what the payload means.
abbrev pub WellFormedIsReadBack : Bool → ℕ → Type 0
WellFormedIsReadBack texts s = (payload text : List ℕ) → IsAccepted s payload → IsBytes payload → IsUtf8 text
    → tokens text ≡ json_tokens (json_with texts s (payload_meaning s payload)) → text_payload s text ≡ Some
    (canonical_payload table s (payload_meaning s payload))

-- The text that is printed for a well-formed payload, with texts or without, is read as the canonical payload of what
-- the
-- payload means.
abbrev pub PrintedIsReadBack : Bool → ℕ → Type 0
PrintedIsReadBack texts s = (payload : List ℕ) → IsAccepted s payload → IsBytes payload
    → text_payload s (print (json_tokens (json_with texts s (payload_meaning s payload)))) ≡ Some
    (canonical_payload table s (payload_meaning s payload))
