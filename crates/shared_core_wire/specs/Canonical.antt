-- The canonical encoding of a value, its size, and its nesting depth.
use Rattle.std.specs.Prelude.{ℕ, suc, ◌+◌, ◌-◌, ◌^◌, max, Bool, false, List, [], ◌∷◌, ◌++◌, map, length, nat_lt, ◌==◌}
use Rattle.std.specs.Prelude.{if◌then◌else◌, flat_map}
use Rattle.shared_core_wire.specs.Grammar.{RecordValue, Varint, Length, FieldRecord}
use Rattle.shared_core_wire.specs.Encoding.{shortest_varint, record_list_bytes}
use Rattle.shared_core_wire.specs.Schema.{Table, Kind, Row, Enumeration, Message, Plain, Optional, Repeated, OneOf}
use Rattle.shared_core_wire.specs.Schema.{member_kind}
use Rattle.shared_core_wire.specs.Acceptance.{accepts_number}
use Rattle.shared_core_wire.specs.Value.{Part, Parts, Absent, Number, Bytes, Nested, Elements, Member, nil, cons}

-- ---- how a row is written

-- The number of the member that a oneof holds.
abbrev pub member_number : Part → ℕ
member_number (Member n p) = n
member_number p = 0

-- The field number of a row's part; of a oneof, the number of the member that it holds.
abbrev pub number_of : Row → Part → ℕ
number_of (Plain n k) p = n
number_of (Optional n k) p = n
number_of (Repeated n k) p = n
number_of (OneOf members) p = member_number p

-- The kind of a row's part; of a oneof, the kind of the member that it holds.
abbrev pub kind_of : Row → Part → Kind
kind_of (Plain n k) p = k
kind_of (Optional n k) p = k
kind_of (Repeated n k) p = k
kind_of (OneOf members) p = member_kind members (member_number p)

-- The number that is written for a value: a negative enum is sign-extended to 64 bits.
abbrev pub written_number : Kind → ℕ → ℕ
written_number Enumeration n = if nat_lt n (2 ^ 31) then n else n + (2 ^ 64 - 2 ^ 32)
written_number k n = n

-- The rows of the message that a kind names; other kinds have none.
abbrev pub rows_of_kind : Table → Kind → List Row
rows_of_kind table (Message s) = table s
rows_of_kind table k = []

-- Whether a part is a default value: 0, false or empty.
abbrev pub is_default : Part → Bool
is_default (Number n) = n == 0
is_default (Bytes bytes) = length bytes == 0
is_default p = false

-- The varint of a value that is a number; of any other value, no bytes.
abbrev pub number_bytes : RecordValue → List ℕ
number_bytes (Varint n) = shortest_varint n
number_bytes w = []

-- Numbers as one packed run, if there are any.
abbrev pub run_values : List RecordValue → List RecordValue
run_values [] = []
run_values (w ∷ ws) = Length (flat_map number_bytes (w ∷ ws)) ∷ []

-- The record values that a repeated field is written as: elements that are numbers are one packed run.
abbrev pub packed_values : Kind → List RecordValue → List RecordValue
packed_values k ws = if accepts_number k then run_values ws else ws

-- Which of a part's values are written: a plain field not if it is a default, an optional field, a member and an
-- element even if it is one.
abbrev pub written_values : Row → Part → List RecordValue → List RecordValue
written_values (Plain n k) p ws = if is_default p then [] else ws
written_values (Optional n k) p ws = ws
written_values (Repeated n k) p ws = packed_values k ws
written_values (OneOf members) p ws = ws

-- The records of a row whose part has these values.
abbrev pub row_records : Row → Part → List RecordValue → List FieldRecord
row_records row p ws = map (λ w. record { number = number_of row p; value = w }) (written_values row p ws)

-- ---- the encoding

module _ (table : Table) where
  unfoldable mutual
    -- The record values of a part: one for a number, bytes, a message or a member, and those of each element for a
    -- repeated field.
    pub part_values : Part → Kind → List RecordValue
    part_values Absent k = []
    part_values (Number n) k = Varint (written_number k n) ∷ []
    part_values (Bytes bytes) k = Length bytes ∷ []
    part_values (Nested ps) k = Length (record_list_bytes (message_records ps (rows_of_kind table k))) ∷ []
    part_values (Elements ps) k = element_values ps k
    part_values (Member n p) k = part_values p k

    -- The record values of the elements of a repeated field.
    pub element_values : Parts → Kind → List RecordValue
    element_values nil k = []
    element_values (cons p ps) k = part_values p k ++ element_values ps k

    -- The records of a message, row by row in the order of its schema.
    pub message_records : Parts → List Row → List FieldRecord
    message_records nil rows = []
    message_records (cons p ps) [] = []
    message_records (cons p ps) (row ∷ rows) = row_records row p (part_values p (kind_of row p)) ++ message_records ps
        rows

  -- The canonical payload of a value of the schema s.
  abbrev pub canonical_payload : ℕ → Parts → List ℕ
  canonical_payload s v = record_list_bytes (message_records v (table s))

  -- The number of bytes of the canonical payload.
  abbrev pub size : ℕ → Parts → ℕ
  size s v = length (canonical_payload s v)

-- ---- nesting depth

unfoldable mutual
  -- The nesting depth of a part: for a message, one more than that of its parts.
  pub part_levels : Part → ℕ
  part_levels Absent = 0
  part_levels (Number n) = 0
  part_levels (Bytes bytes) = 0
  part_levels (Nested ps) = suc (levels ps)
  part_levels (Elements ps) = levels ps
  part_levels (Member n p) = part_levels p

  -- The nesting depth within a message: the greatest of its parts.
  pub levels : Parts → ℕ
  levels nil = 0
  levels (cons p ps) = max (part_levels p) (levels ps)
