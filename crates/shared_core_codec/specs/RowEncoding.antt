-- The canonical payload row by row, as it is written and measured.
use Rattle.std.specs.Prelude.{Bool, not, ℕ, ◌+◌, ◌^◌, List, ◌∷◌, ◌++◌, map, flat_map, length, min}
use Rattle.shared_core_wire.specs.Encoding.{shortest_varint, key_bytes, record_list_bytes}
use Rattle.shared_core_wire.specs.Schema.{Kind, Row, Plain, Optional, Repeated, OneOf, member_kind}
use Rattle.shared_core_wire.specs.Acceptance.{accepts_number}
use Rattle.shared_core_wire.specs.Value.{Part, Parts, Absent, Member, cons}
use Rattle.shared_core_wire.specs.Canonical.{row_records, part_values, kind_of}
use Rattle.shared_core_codec.specs.Table.{table}

-- ---- bytes

-- A record of a varint.
abbrev pub varint_record : ℕ → ℕ → List ℕ
varint_record number n = key_bytes number 0 ++ shortest_varint n

-- A length-delimited record.
abbrev pub length_record : ℕ → List ℕ → List ℕ
length_record number bytes = key_bytes number 2 ++ (shortest_varint (length bytes) ++ bytes)

-- The bytes of a value, which is written even if it is a default.
unfoldable pub value_bytes : ℕ → Kind → Part → List ℕ
value_bytes number k p = record_list_bytes (map (λ w. record { number = number; value = w }) (part_values table p k))

-- The bytes of a row.
unfoldable pub row_bytes : Row → Part → List ℕ
row_bytes row p = record_list_bytes (row_records row p (part_values table p (kind_of row p)))

-- The bytes after a row's part, with the part before them.
abbrev pub before_row : Row → Part → List ℕ → List ℕ
before_row (Plain n k) p after = row_bytes (Plain n k) p ++ after
before_row (Repeated n k) p after = row_bytes (Repeated n k) p ++ after
before_row (Optional n k) Absent after = after
before_row (Optional n k) p after = value_bytes n k p ++ after
before_row (OneOf members) Absent after = after
before_row (OneOf members) (Member n p) after = value_bytes n (member_kind members n) p ++ after
before_row (OneOf members) p after = row_bytes (OneOf members) p ++ after

-- The bytes after a message, with its rows before them.
abbrev pub before_rows : List Row → Parts → List ℕ → List ℕ
before_rows (row ∷ rows) (cons p ps) after = before_row row p (before_rows rows ps after)
before_rows _ _ after = after

-- The varints of numbers.
unfoldable pub varints_of : List ℕ → List ℕ
varints_of ns = flat_map shortest_varint ns

-- Whether the elements of a repeated field of this kind are written one by one, and not packed.
abbrev pub unpacked : Kind → Bool
unpacked k = not (accepts_number k)

-- ---- sizes

-- The number of bytes of a row.
abbrev pub row_size : Row → Part → ℕ
row_size (Plain n k) p = length (row_bytes (Plain n k) p)
row_size (Repeated n k) p = length (row_bytes (Repeated n k) p)
row_size (Optional n k) Absent = 0
row_size (Optional n k) p = length (value_bytes n k p)
row_size (OneOf members) Absent = 0
row_size (OneOf members) (Member n p) = length (value_bytes n (member_kind members n) p)
row_size (OneOf members) p = length (row_bytes (OneOf members) p)

-- The number of bytes of the rows of a message.
abbrev pub rows_size : List Row → Parts → ℕ
rows_size (row ∷ rows) (cons p ps) = row_size row p + rows_size rows ps
rows_size _ _ = 0

-- A number of bytes, capped at 2 ^ 32.
abbrev pub capped : ℕ → ℕ
capped n = min n (2 ^ 32)

-- The size so far, with a row's part added.
abbrev pub measured_row : Row → Part → ℕ → ℕ
measured_row (Plain n k) p before = capped (before + length (row_bytes (Plain n k) p))
measured_row (Repeated n k) p before = capped (before + length (row_bytes (Repeated n k) p))
measured_row (Optional n k) Absent before = before
measured_row (Optional n k) p before = capped (before + length (value_bytes n k p))
measured_row (OneOf members) Absent before = before
measured_row (OneOf members) (Member n p) before = capped (before + length (value_bytes n (member_kind members n) p))
measured_row (OneOf members) p before = capped (before + length (row_bytes (OneOf members) p))

-- The size so far, with the rows of a message added.
abbrev pub measured_rows : List Row → Parts → ℕ → ℕ
measured_rows (row ∷ rows) (cons p ps) before = measured_rows rows ps (measured_row row p before)
measured_rows _ _ before = before

-- The size so far, with a key, a length and content of this many bytes added.
unfoldable pub measured_message : ℕ → ℕ → ℕ → ℕ
measured_message number content before =
    capped (capped (capped (before + length (key_bytes number 2)) + length (shortest_varint content)) + content)
