-- The canonical payload row by row, as it is appended to the bytes before it.
use Rattle.std.specs.Prelude.{List, ◌∷◌, ◌++◌, ℕ}
use Rattle.shared_core_codec.specs.RowEncoding.{row_bytes, value_bytes}
use Rattle.shared_core_wire.specs.Schema.{Row, Plain, Optional, Repeated, OneOf, member_kind}
use Rattle.shared_core_wire.specs.Value.{Part, Parts, Absent, Member, cons}

-- The bytes before a row's part, with the part after them.
abbrev pub after_row : Row → Part → List ℕ → List ℕ
after_row (Plain n k) p before = before ++ row_bytes (Plain n k) p
after_row (Repeated n k) p before = before ++ row_bytes (Repeated n k) p
after_row (Optional n k) Absent before = before
after_row (Optional n k) p before = before ++ value_bytes n k p
after_row (OneOf members) Absent before = before
after_row (OneOf members) (Member n p) before = before ++ value_bytes n (member_kind members n) p
after_row (OneOf members) p before = before ++ row_bytes (OneOf members) p

-- The bytes before a message, with its rows after them.
abbrev pub after_rows : List Row → Parts → List ℕ → List ℕ
after_rows (row ∷ rows) (cons p ps) before = after_rows rows ps (after_row row p before)
after_rows _ _ before = before
