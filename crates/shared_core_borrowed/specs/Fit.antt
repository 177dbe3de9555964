-- Whether a value that comes from outside fits its schema, as it is found out row by row.
use Rattle.std.specs.Prelude.{ℕ, ◌^◌, Bool, true, false, ◌&&◌, List, [], ◌∷◌, nat_lt}
use Rattle.std.specs.Str.{is_utf8}
use Rattle.shared_core_wire.specs.Schema.{Kind, Row, U32, U64, Boolean, Enumeration, Text, ByteString, Message}
use Rattle.shared_core_wire.specs.Schema.{Plain, Optional, Repeated, OneOf, includes, member_kind, numbers}
use Rattle.shared_core_wire.specs.Value.{Part, Parts, Absent, Number, Bytes, Nested, Elements, Member, nil, cons}
use Rattle.shared_core_wire.specs.Canonical.{kind_of}
use Rattle.shared_core_wire.specs.Fitting.{has_shape, is_single}
use Rattle.shared_core_codec.specs.Table.{table}

-- Whether a number is in the range of a kind.
abbrev pub number_fits : Kind → ℕ → Bool
number_fits U32 n = nat_lt n (2 ^ 32)
number_fits U64 n = nat_lt n (2 ^ 64)
number_fits Boolean n = nat_lt n 2
number_fits Enumeration n = nat_lt n (2 ^ 32)
number_fits k n = false

-- Whether bytes are valid for a kind: a string is UTF-8.
abbrev pub bytes_fit : Kind → List ℕ → Bool
bytes_fit Text bytes = is_utf8 bytes
bytes_fit ByteString bytes = true
bytes_fit k bytes = false

unfoldable mutual
  -- Whether a part holds a value of the kind.
  pub part_fits : Part → Kind → Bool
  part_fits Absent k = true
  part_fits (Number n) k = number_fits k n
  part_fits (Bytes bytes) k = bytes_fit k bytes
  part_fits (Nested ps) (Message s) = parts_fit ps (table s)
  part_fits (Nested ps) k = false
  part_fits (Elements ps) k = elements_fit ps k
  part_fits (Member n p) k = part_fits p k

  -- Whether each of the elements is a single value of the kind.
  pub elements_fit : Parts → Kind → Bool
  elements_fit nil k = true
  elements_fit (cons p ps) k = (is_single p && part_fits p k) && elements_fit ps k

  -- Whether there is a part for each row, with a shape that the row allows and a value of its kind.
  pub parts_fit : Parts → List Row → Bool
  parts_fit nil [] = true
  parts_fit nil (row ∷ rows) = false
  parts_fit (cons p ps) [] = false
  parts_fit (cons p ps) (row ∷ rows) = (has_shape row p && part_fits p (kind_of row p)) && parts_fit ps rows

-- Whether a part is a single value of the kind.
unfoldable pub value_fits : Kind → Part → Bool
value_fits k p = is_single p && part_fits p k

-- Whether the elements of a repeated field fit.
unfoldable pub list_fits : Kind → Parts → Bool
list_fits k ps = elements_fit ps k

-- Whether what came before fits, and a row's part.
abbrev pub row_fits : Row → Part → Bool → Bool
row_fits (Plain n k) p before = before && value_fits k p
row_fits (Optional n k) Absent before = before
row_fits (Optional n k) p before = before && value_fits k p
row_fits (Repeated n k) (Elements ps) before = before && list_fits k ps
row_fits (Repeated n k) p before = false
row_fits (OneOf members) Absent before = before
row_fits (OneOf members) (Member n p) before =
    before && (includes (numbers (OneOf members)) n && value_fits (member_kind members n) p)
row_fits (OneOf members) p before = false

-- Whether what came before fits, and the rows of a message.
abbrev pub rows_fit : List Row → Parts → Bool → Bool
rows_fit (row ∷ rows) (cons p ps) before = rows_fit rows ps (row_fits row p before)
rows_fit [] nil before = before
rows_fit _ _ before = false
