-- The bytes of fields.
use Rattle.std.specs.Prelude.{◌≡◌, ℕ, true, List, [], ◌++◌, codes, decimal, ◌==◌, if◌then◌else◌}
use Rattle.shared_core_wire.specs.Schema.{Kind, U32, U64, Boolean, Enumeration, Text, ByteString, Message}
use Rattle.shared_core_wire.specs.Value.{Parts, Number, Bytes, Nested, Elements, nil, cons}
use Rattle.shared_core_codec.specs.Canonicity.{is_canonical_payload_in}
use Rattle.shared_core_codec.specs.Payloads.{payload_meaning}
use Rattle.shared_core_codec.specs.Table.{table}
use Rattle.shared_core_fields.specs.Fields.{FieldPart}
use Rattle.shared_core_json.specs.Form.{enum_digits}

-- The line of a number.
abbrev pub number_line : ℕ → List ℕ
number_line number = decimal number ++ codes "\n"

-- The line of a flag.
abbrev pub flag_line : ℕ → List ℕ
flag_line number = if number == 0 then codes "false\n" else codes "true\n"

-- The line of a number of a kind.
abbrev pub scalar_line : Kind → ℕ → List ℕ
scalar_line Boolean number = flag_line number
scalar_line Enumeration number = enum_digits number ++ codes "\n"
scalar_line k number = number_line number

-- The lines of numbers of a kind.
abbrev pub number_lines : Kind → Parts → List ℕ
number_lines k nil = []
number_lines k (cons (Number number) parts) = scalar_line k number ++ number_lines k parts
number_lines k (cons part parts) = number_lines k parts

-- These are the bytes of a field: a text and bytes as they are; a number and a flag as a line, numbers as lines; of a
-- message a canonical payload of what it means.
abbrev pub AreBytes : FieldPart → List ℕ → Type 0
AreBytes (n, (Text, repeated), Bytes text) bytes = bytes ≡ text
AreBytes (n, (ByteString, repeated), Bytes content) bytes = bytes ≡ content
AreBytes (n, (U32, repeated), Number number) bytes = bytes ≡ number_line number
AreBytes (n, (U64, repeated), Number number) bytes = bytes ≡ number_line number
AreBytes (n, (Boolean, repeated), Number number) bytes = bytes ≡ flag_line number
AreBytes (n, (Enumeration, repeated), Number number) bytes = bytes ≡ enum_digits number ++ codes "\n"
AreBytes (n, (Message s, repeated), Nested value) bytes =
    (is_canonical_payload_in table 100 s bytes ≡ true) × (payload_meaning s bytes ≡ value)
AreBytes (n, (k, repeated), Elements numbers) bytes = bytes ≡ number_lines k numbers
AreBytes field bytes = bytes ≡ []
