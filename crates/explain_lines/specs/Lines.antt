-- The lines of an explanation.
use Rattle.std.specs.Prelude.{ℕ, ◌+◌, ◌-◌, ◌^◌, List, [], ◌∷◌, ◌++◌, length, codes, decimal, flat_map, min, replicate}
use Rattle.explain_lines.specs.declared.piece.FieldAt.{FieldAt}
use Rattle.explain_lines.specs.Texts.{byte_text, dots, front}

-- A line: the fields that its bytes are within, the bytes, and what it says of them.
pub record Line : Type 0 where
  pub path : List FieldAt
  pub bytes : List ℕ
  pub says : List ℕ

-- The bytes of lines, in order.
abbrev pub bytes_of : List Line → List ℕ
bytes_of [] = []
bytes_of (line ∷ lines) = line.bytes ++ bytes_of lines

-- A number to the right of ten columns.
abbrev pub in_columns : ℕ → List ℕ
in_columns n = replicate (10 - length (decimal n)) 32 ++ decimal n

-- A text, and spaces up to this number of columns.
abbrev pub filled : ℕ → List ℕ → List ℕ
filled columns text = text ++ replicate (columns - length text) 32

-- Bytes in hexadecimal digits, each with a space after it.
abbrev pub spaced_bytes : List ℕ → List ℕ
spaced_bytes bytes = flat_map (λ byte. byte_text byte ++ codes " ") bytes

-- The first eight bytes, two dots if there are more, and spaces up to the column at which the text begins.
unfoldable pub bytes_text : List ℕ → List ℕ
bytes_text bytes = filled 27 (spaced_bytes (front 8 bytes) ++ dots 8 bytes)

-- The indentation of what is within these fields.
abbrev pub indentation : List FieldAt → List ℕ
indentation path = flat_map (λ field. codes "  ") path

-- What a line begins with: the offset of its bytes, these, and the indentation.
unfoldable pub line_front : ℕ → List FieldAt → List ℕ → List ℕ
line_front at path bytes = in_columns at ++ (codes "  " ++ (bytes_text bytes ++ indentation path))

-- The text of a line whose bytes begin at an offset.
abbrev pub line_text : ℕ → Line → List ℕ
line_text at line = line_front at line.path line.bytes ++ (line.says ++ codes "\n")

-- The offset after a number of bytes; 2^128 - 1 stands for all from there on.
abbrev pub offset_at : ℕ → ℕ → ℕ
offset_at from size = min (from + size) (2 ^ 128 - 1)

-- A number of bytes, and some more; 2^128 - 1 stands for all from there on.
abbrev pub counted : ℕ → ℕ → ℕ
counted count more = min (count + more) (2 ^ 128 - 1)

-- A text of lines, the offset at which the bytes of the first one begin, and how many bytes they have.
pub record Told : Type 0 where
  pub text : List ℕ
  pub from : ℕ
  pub count : ℕ

-- The same with a line more.
abbrev pub with_line : Told → Line → Told
with_line told line = record {
  text = told.text ++ line_text (offset_at told.from told.count) line;
  from = told.from;
  count = counted told.count (length line.bytes);
}

-- The same with more lines.
abbrev pub show : Told → List Line → Told
show told [] = told
show told (line ∷ lines) = show (with_line told line) lines

-- The text of lines, the first of which has the bytes at an offset.
unfoldable pub lines_text : ℕ → List Line → List ℕ
lines_text from lines = (show (record { text = []; from = from; count = 0 }) lines).text
