-- A payload of one schema, decoded with the template of a view.
use Rattle.std.specs.Prelude.{◌≡◌, ℕ, suc, Bool, true, false, not, ◌&&◌, ◌||◌, List, [], ◌∷◌, nat_eq, if◌then◌else◌}
use Rattle.std.specs.List.{list_all, list_any}
use Rattle.shared_core_wire.specs.Grammar.{FieldRecord}
use Rattle.shared_core_wire.specs.Schema.{Table, Kind, Row, U32, U64, Boolean, Enumeration, Text, ByteString, Message}
use Rattle.shared_core_wire.specs.Schema.{Plain, Optional, Repeated, OneOf, numbers, includes, member_kind, all_numbers}
use Rattle.shared_core_wire.specs.Schema.{is_schema}
use Rattle.shared_core_wire.specs.Value.{Part, Parts, Absent, nil, cons}
use Rattle.shared_core_wire.specs.Acceptance.{accepts_payload}
use Rattle.shared_core_wire.specs.Overlay.{member_at, payload_records, meaning}

-- The index of the row that has a number.
abbrev pub row_index : List Row → ℕ → ℕ
row_index [] n = 0
row_index (row ∷ rows) n = if includes (numbers row) n then 0 else suc (row_index rows n)

-- The kind of a number in its row.
abbrev pub kind_in_row : Row → ℕ → Kind
kind_in_row (Plain m k) n = k
kind_in_row (Optional m k) n = k
kind_in_row (Repeated m k) n = k
kind_in_row (OneOf members) n = member_kind members n

-- The kind of a number in a schema.
abbrev pub kind_at : List Row → ℕ → Kind
kind_at [] n = ByteString
kind_at (row ∷ rows) n = if includes (numbers row) n then kind_in_row row n else kind_at rows n

-- Whether two kinds are the same.
abbrev pub same_kind : Kind → Kind → Bool
same_kind U32 U32 = true
same_kind U64 U64 = true
same_kind Boolean Boolean = true
same_kind Enumeration Enumeration = true
same_kind Text Text = true
same_kind ByteString ByteString = true
same_kind (Message s) (Message t) = nat_eq s t
same_kind _ _ = false

-- Whether a row is a oneof.
abbrev pub is_oneof : Row → Bool
is_oneof (OneOf members) = true
is_oneof row = false

-- Whether a row is a repeated field.
abbrev pub is_repeated : Row → Bool
is_repeated (Repeated n k) = true
is_repeated row = false

-- Whether two booleans are equal.
abbrev pub agree : Bool → Bool → Bool
agree true b = b
agree false b = not b

-- Whether two numbers share a row if and only if they share one of the template's.
abbrev pub share_alike : List Row → List Row → ℕ → ℕ → Bool
share_alike template rows n m = agree (nat_eq (row_index rows n) (row_index rows m))
    (nat_eq (row_index template n) (row_index template m))

-- Whether the schema's rows are rows of the template, whose rows are oneofs: none of the schema's rows is repeated,
-- each of its numbers is in the template with the same kind, and two numbers share a row if and only if they share one
-- of the template's.
abbrev pub is_within_template : List Row → List Row → Bool
is_within_template template rows =
    list_all is_oneof template
    && list_all (λ row. not (is_repeated row)) rows
    && list_all (λ n. includes (all_numbers template) n && same_kind (kind_at rows n) (kind_at template n))
    (all_numbers rows)
    && list_all (λ n. list_all (λ m. share_alike template rows n m) (all_numbers rows)) (all_numbers rows)

-- What a row's part holds at one of its numbers.
abbrev pub part_in_row : Row → Part → ℕ → Part
part_in_row (Plain m k) p n = p
part_in_row (Optional m k) p n = p
part_in_row (Repeated m k) p n = p
part_in_row (OneOf members) p n = member_at n p

-- What a message holds at a number of its schema.
abbrev pub part_at : List Row → Parts → ℕ → Part
part_at [] v n = Absent
part_at (row ∷ rows) nil n = Absent
part_at (row ∷ rows) (cons p ps) n = if includes (numbers row) n then part_in_row row p n else part_at rows ps n

-- Whether each record's number is in the schema, or not in the template.
abbrev pub are_apart : List Row → List Row → List FieldRecord → Bool
are_apart template rows rs = list_all (λ r. includes (all_numbers rows) r.number || not
    (includes (all_numbers template) r.number)) rs

-- If the rows of the schema t are rows of the template s, and no record that t skips has a number of s, a payload that
-- t accepts is accepted by the template, which holds at each of its numbers that occurs in the payload what t's meaning
-- holds there.
abbrev pub ViewLaw : Table → Type 0
ViewLaw table = (left s t : ℕ) (payload : List ℕ)
    → is_schema (table s) ≡ true → is_schema (table t) ≡ true → is_within_template (table s) (table t) ≡ true
    → are_apart (table s) (table t) (payload_records left payload) ≡ true → accepts_payload table left t payload ≡ true
    → (accepts_payload table left s payload ≡ true)
    × ((n : ℕ) → includes (all_numbers (table s)) n ≡ true → list_any (λ r. nat_eq r.number n)
    (payload_records left payload) ≡ true
    → part_at (table s) (meaning table left s payload) n ≡ part_at (table t) (meaning table left t payload) n)
