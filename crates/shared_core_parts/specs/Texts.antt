-- The texts of the nested messages.
use Rattle.std.specs.Prelude.{ℕ, List, [], ◌∷◌, ◌++◌, ◌/◌, ◌%◌, codes, false, nat_le, ◌==◌, ◌&&◌, if◌then◌else◌}
use Rattle.std.specs.Prelude.{encode_utf8_all}
use Rattle.std.specs.Fmt.{decimal, comma_space, digit_glyph}
use Rattle.std.specs.List.{join_by, flat_map}
use Rattle.std.specs.Str.{is_utf8}
use Rattle.std.specs.String.{string_bytes}
use Rattle.bstr.specs.Utf8.{lossy_chars}
use Rattle.shared_core_parts.specs.declared.header.Header.{Header}

-- A byte between the quotes of `b".."`: an escape with a name, itself from 0x20 to 0x7E, otherwise `\x` and two
-- lower-case hexadecimal digits.
abbrev pub escaped_byte : ℕ → List ℕ
escaped_byte byte = if byte == 10 then codes "\\n"
    else (if byte == 13 then codes "\\r"
    else (if byte == 9 then codes "\\t"
    else (if byte == 0 then codes "\\0"
    else (if byte == 92 then codes "\\\\"
    else (if byte == 34 then codes "\\\""
    else (if nat_le 0x20 byte && nat_le byte 0x7E then byte ∷ []
    else codes "\\x" ++ (digit_glyph false (byte / 16) ∷ digit_glyph false (byte % 16) ∷ [])))))))

-- The text of a value with this content: `'text'` if it is UTF-8, otherwise `b".."` with escapes.
abbrev pub value_text : List ℕ → List ℕ
value_text content = if is_utf8 content
    then codes "'" ++ (content ++ codes "'")
    else codes "b\"" ++ (flat_map escaped_byte content ++ codes "\"")

-- The text of a failure: `error [code] 'message'`.
abbrev pub failure_text : ℕ → List ℕ → List ℕ
failure_text code message = codes "error [" ++ (decimal code ++ (codes "] '" ++ (message ++ codes "'")))

-- The text of a header: `key: value`.
abbrev pub header_text : List ℕ → List ℕ → List ℕ
header_text key value = key ++ (codes ": " ++ value)

-- The text of headers: each header's, joined by `, `.
abbrev pub headers_text : List Header → List ℕ
headers_text headers = join_by (λ header. header_text (string_bytes header.key) (string_bytes header.value)) comma_space
    headers

-- Bytes as text, with U+FFFD for each sequence that is not UTF-8.
abbrev pub lossy_text : List ℕ → List ℕ
lossy_text bytes = encode_utf8_all (lossy_chars bytes)

-- The text of a state key: `'key'`, with U+FFFD for each sequence that is not UTF-8.
abbrev pub state_key_text : List ℕ → List ℕ
state_key_text key = codes "'" ++ (lossy_text key ++ codes "'")

-- The text of state keys: each key's, joined by `, `, in brackets.
abbrev pub state_keys_text : List (List ℕ) → List ℕ
state_keys_text keys = codes "[" ++ (join_by state_key_text comma_space keys ++ codes "]")
