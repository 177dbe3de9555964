-- What lines say of their bytes.
use Rattle.std.specs.Prelude.{ℕ, ◌-◌, ◌/◌, ◌%◌, ◌^◌, Bool, false, nat_lt, List, [], ◌∷◌, ◌++◌, length, take, codes}
use Rattle.std.specs.Prelude.{decimal, flat_map, ◌==◌, if◌then◌else◌, Option, Some, None}
use Rattle.std.specs.Fmt.{digit_glyph, digits}
use Rattle.std.specs.Str.Lossy.{utf8_lossy}
use Rattle.terminal_text.specs.Texts.{escaped_text}
use Rattle.terminal_text.specs.declared.texts.Escapes.TheVariants as escapes
use Rattle.shared_core_wire.specs.Schema.{Kind, U32, Boolean, Enumeration}
use Rattle.shared_core_codec.specs.ProgramRows.{kind_view}
use Rattle.shared_core_codec.specs.declared.rows.Kind.{Kind as ProgramKind}
use Rattle.shared_core_json.specs.Fields.{names_of, name_of}
use Rattle.explain_lines.specs.declared.piece.FieldAt.{FieldAt}
use Rattle.explain_lines.specs.declared.piece.Piece.{Piece}
use Rattle.explain_lines.specs.declared.piece.Piece.TheVariants as piece

-- The first bytes, at most this number.
abbrev pub front : ℕ → List ℕ → List ℕ
front most bytes = if nat_lt most (length bytes) then take most bytes else bytes

-- Two dots if there are more bytes than this number.
abbrev pub dots : ℕ → List ℕ → List ℕ
dots most bytes = if nat_lt most (length bytes) then codes ".." else codes ""

-- ---- fields

-- The name of a field; empty if its schema does not have it.
abbrev pub own_name : FieldAt → List ℕ
own_name field = name_of (names_of field.schema) field.number

-- The name of a field, or its number if its schema does not have it.
abbrev pub field_name : FieldAt → List ℕ
field_name field = if length (own_name field) == 0 then decimal field.number else own_name field

-- The names of fields, each with a colon after it.
abbrev pub path_text : List FieldAt → List ℕ
path_text path = flat_map (λ field. field_name field ++ codes ": ") path

-- A name after a space, if it is not empty.
abbrev pub after_space : List ℕ → List ℕ
after_space name = if length name == 0 then codes "" else codes " " ++ name

-- A field's number, its name and a wire type.
unfoldable pub field_text : FieldAt → ℕ → List ℕ
field_text field wire =
    codes "field " ++ (decimal field.number ++ (after_space (own_name field) ++ (codes ", wire type " ++ decimal wire)))

-- ---- values

-- Whether a number has more than 32 bits.
unfoldable pub exceeds : ℕ → Bool
exceeds n = nat_lt 4294967295 n

-- The low 32 bits of a number that has more.
abbrev pub low_text : ℕ → List ℕ
low_text n = if exceeds n then codes ", 32 bits: " ++ decimal (n % 4294967296) else codes ""

-- What a field of a kind, if it is known, has of a number that is not the number itself.
abbrev pub reading_text : ℕ → Option Kind → List ℕ
reading_text n (Some Boolean) = if n == 0 then codes ", false" else codes ", true"
reading_text n (Some U32) = low_text n
reading_text n (Some Enumeration) = low_text n
reading_text n k = codes ""

-- A number of a field.
abbrev pub number_text : FieldAt → ℕ → Option Kind → List ℕ
number_text field n k = field_text field 0 ++ (codes ": " ++ (decimal n ++ reading_text n k))

-- Two hexadecimal digits of a byte.
abbrev pub byte_text : ℕ → List ℕ
byte_text byte = digit_glyph false (byte / 16) ∷ digit_glyph false (byte % 16) ∷ []

-- The number of bytes of which the first is the lowest, in hexadecimal digits.
abbrev pub low_first_text : List ℕ → List ℕ
low_first_text [] = []
low_first_text (byte ∷ bytes) = low_first_text bytes ++ byte_text byte

-- The wire type of four or of eight bytes.
abbrev pub fixed_wire : List ℕ → ℕ
fixed_wire bytes = if length bytes == 4 then 5 else 1

-- Four or eight bytes of a field.
abbrev pub fixed_text : FieldAt → List ℕ → List ℕ
fixed_text field bytes = field_text field (fixed_wire bytes) ++ (codes ": 0x" ++ low_first_text bytes)

-- The key and the length before a number of bytes, and what these are.
abbrev pub length_text : FieldAt → ℕ → List ℕ → List ℕ
length_text field size what =
    field_text field 2 ++ (codes ", length " ++ (decimal size ++ (codes ": " ++ what)))

-- The key by which a group begins.
abbrev pub group_start_text : FieldAt → List ℕ
group_start_text field = field_text field 3 ++ codes ": a group"

-- The key by which a group ends.
abbrev pub group_end_text : FieldAt → List ℕ
group_end_text field = field_text field 4 ++ codes ": its end"

-- Up to 40 bytes in quotes: U+FFFD is shown for what is not UTF-8, and characters that a terminal may take as commands
-- are escaped. Two dots follow if there are more.
unfoldable pub quoted_text : List ℕ → List ℕ
quoted_text bytes =
    codes "\"" ++ (escaped_text escapes.Text (utf8_lossy (front 40 bytes)) ++ (codes "\"" ++ dots 40 bytes))

-- ---- headers

-- The flags of a header, if one is set.
abbrev pub flags_text : ℕ → List ℕ
flags_text flags = if flags == 0 then codes "" else codes ", flags 0x" ++ digits 16 false flags

-- The request for an acknowledgement, if there is one.
abbrev pub ack_text : Bool → List ℕ
ack_text asks = if asks then codes ", acknowledgement requested" else codes ""

-- A header by its word: the code of the type, the flags, the request for an acknowledgement, and the length.
unfoldable pub header_text : ℕ → Bool → List ℕ
header_text word asks =
    codes "type 0x" ++ (digits 16 false (word / 281474976710656)
    ++ (flags_text (word / 4294967296 % 65536)
    ++ (ack_text asks ++ (codes ", length " ++ decimal (word % 4294967296)))))

-- ---- all of them

-- The kind of the program's, if there is one.
abbrev pub kind_seen : Option ProgramKind → Option Kind
kind_seen None = None
kind_seen (Some k) = Some (kind_view k)

-- What a line says.
abbrev pub piece_text : Piece → List ℕ
piece_text (piece.Header word asks) = header_text word asks
piece_text piece.CutHeader = codes "a part of a header"
piece_text (piece.Number field n k) = number_text field n (kind_seen k)
piece_text (piece.Fixed field bytes) = fixed_text field bytes.now
piece_text (piece.Length field size what) = length_text field size what.now
piece_text (piece.GroupStart field) = group_start_text field
piece_text (piece.GroupEnd field) = group_end_text field
piece_text (piece.Quoted bytes) = quoted_text bytes.now
piece_text (piece.Element n) = decimal n
piece_text piece.Rest = codes "not explained"
