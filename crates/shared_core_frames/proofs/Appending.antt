-- What is appended row by row is the canonical payload.
use Rattle.std.proofs.Common.{◌≡◌, ℕ, List, [], ◌∷◌, ◌++◌, append_assoc, append-nil, refl, ap, sym, ◌∙◌}
use Rattle.shared_core_codec.proofs.RowBytes.{written_before}
use Rattle.shared_core_codec.specs.RowEncoding.{before_row, before_rows}
use Rattle.shared_core_codec.specs.Table.{table}
use Rattle.shared_core_wire.specs.Canonical.{canonical_payload}
use Rattle.shared_core_wire.specs.Schema.{OneOf, Optional, Plain, Repeated, Row}
use Rattle.shared_core_wire.specs.Value.{Absent, Bytes, Elements, Member, Nested, Number, Part, Parts, cons, nil}
use Rattle.shared_core_frames.specs.Appending.{after_row, after_rows}

-- the bytes after a row are those of which the row is before
pub row_joined : (row : Row) (p : Part) (xs ys : List ℕ) → after_row row p xs ++ ys ≡ xs ++ before_row row p ys
row_joined (Plain n k) p xs ys = append_assoc xs _ ys
row_joined (Repeated n k) p xs ys = append_assoc xs _ ys
row_joined (Optional n k) Absent xs ys = refl
row_joined (Optional n k) (Number v) xs ys = append_assoc xs _ ys
row_joined (Optional n k) (Bytes b) xs ys = append_assoc xs _ ys
row_joined (Optional n k) (Nested ps) xs ys = append_assoc xs _ ys
row_joined (Optional n k) (Elements ps) xs ys = append_assoc xs _ ys
row_joined (Optional n k) (Member v p) xs ys = append_assoc xs _ ys
row_joined (OneOf members) Absent xs ys = refl
row_joined (OneOf members) (Number v) xs ys = append_assoc xs _ ys
row_joined (OneOf members) (Bytes b) xs ys = append_assoc xs _ ys
row_joined (OneOf members) (Nested ps) xs ys = append_assoc xs _ ys
row_joined (OneOf members) (Elements ps) xs ys = append_assoc xs _ ys
row_joined (OneOf members) (Member v p) xs ys = append_assoc xs _ ys

rows_joined : (rows : List Row) (ps : Parts) (xs ys : List ℕ) → after_rows rows ps xs ++ ys ≡ xs ++ before_rows rows ps
    ys
rows_joined [] ps xs ys = refl
rows_joined (row ∷ rows) nil xs ys = refl
rows_joined (row ∷ rows) (cons p ps) xs ys =
    rows_joined rows ps (after_row row p xs) ys ∙ row_joined row p xs (before_rows rows ps ys)

-- all rows appended are the canonical payload appended
pub payload_after : (s : ℕ) (ps : Parts) (xs : List ℕ) → after_rows (table s) ps xs ≡ xs ++ canonical_payload table s ps
payload_after s ps xs =
    sym (append-nil (after_rows (table s) ps xs)) ∙ rows_joined (table s) ps xs [] ∙ ap (λ (t : List ℕ). xs ++ t)
    (written_before s ps [] ∙ append-nil (canonical_payload table s ps))
