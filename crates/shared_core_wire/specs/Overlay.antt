-- What a payload means: a whole record list merged into a value, field by field.
use Rattle.std.specs.Prelude.{ℕ, zero, suc, ◌%◌, ◌^◌, Bool, List, [], ◌∷◌, map, Option, Some, None, nat_eq, ◌==◌}
use Rattle.std.specs.Prelude.{if◌then◌else◌, filter, flat_map}
use Rattle.std.specs.List.{list_all}
use Rattle.shared_core_wire.specs.Grammar.{RecordValue, Varint, Length, FieldRecord, content}
use Rattle.shared_core_wire.specs.Reader.{packed_numbers, record_list}
use Rattle.shared_core_wire.specs.Schema.{Table, Kind, Row, U32, U64, Boolean, Enumeration, Message, Plain, Optional}
use Rattle.shared_core_wire.specs.Schema.{Repeated, OneOf, numbers, includes, member_kind}
use Rattle.shared_core_wire.specs.Value.{Part, Parts, Absent, Number, Bytes, Nested, Elements, Member, nil, cons, ◌+++◌}
use Rattle.shared_core_wire.specs.Value.{one_part, empty_value}
use Rattle.shared_core_wire.specs.Acceptance.{accepts_number}

-- ---- record lists

-- The last of x and the items after it.
abbrev pub last : {X : Type 0} → X → List X → X
last x [] = x
last x (y ∷ ys) = last y ys

-- The values of the records.
abbrev pub values : List FieldRecord → List RecordValue
values rs = map (λ r. r.value) rs

-- The joined bytes of the length-delimited values.
abbrev pub joined_contents : List RecordValue → List ℕ
joined_contents ws = flat_map content ws

-- The records of a row, picked out of a whole list.
abbrev pub own_records : Row → List FieldRecord → List FieldRecord
own_records row rs = filter (λ r. includes (numbers row) r.number) rs

-- Whether all records have this number.
abbrev pub all_numbered : ℕ → List FieldRecord → Bool
all_numbered n rs = list_all (λ r. nat_eq r.number n) rs

-- The longest run of records of this number at the end of a list.
abbrev pub last_run : ℕ → List FieldRecord → List FieldRecord
last_run n [] = []
last_run n (r ∷ rs) = if all_numbered n (r ∷ rs) then r ∷ rs else last_run n rs

-- ---- one occurrence

-- The part that a varint gives to a field: a uint32 and an enum keep the low 32 bits, and a bool is true if the number
-- is not 0.
abbrev pub number_part : Kind → ℕ → Part
number_part U32 n = Number (n % 2 ^ 32)
number_part U64 n = Number n
number_part Boolean n = Number (if n == 0 then 0 else 1)
number_part Enumeration n = Number (n % 2 ^ 32)
number_part k n = Absent

-- The part that an occurrence gives to a field that is not a message.
abbrev pub scalar_part : Kind → RecordValue → Part
scalar_part k (Varint n) = number_part k n
scalar_part k (Length bytes) = Bytes bytes
scalar_part k w = Absent

-- The message that a part holds, or else the given one.
abbrev pub message_in : Parts → Part → Parts
message_in e (Nested ps) = ps
message_in e p = e

-- Numbers as elements of a field of the kind.
abbrev pub number_parts : Kind → List ℕ → Parts
number_parts k [] = nil
number_parts k (n ∷ ns) = cons (number_part k n) (number_parts k ns)

-- The elements of a packed run.
abbrev pub packed_elements : Kind → Option (List ℕ) → Parts
packed_elements k None = nil
packed_elements k (Some ns) = number_parts k ns

-- The elements that one occurrence adds to a list of numbers: each number of a packed run, or one number.
abbrev pub number_elements : Kind → RecordValue → Parts
number_elements k (Length bytes) = packed_elements k (packed_numbers bytes)
number_elements k w = one_part (scalar_part k w)

-- A repeated field's part with further elements at its end.
abbrev pub with_elements : Part → Parts → Part
with_elements (Elements ps) qs = Elements (ps +++ qs)
with_elements p qs = p

-- What a oneof holds at a member's number: the member, if it is the one that is present.
abbrev pub member_at : ℕ → Part → Part
member_at n (Member m p) = if nat_eq m n then p else Absent
member_at n p = Absent

-- ---- field by field

-- How the bytes of a nested message are merged into a message of the schema with this number.
abbrev pub NestedOverlay : Type 0
NestedOverlay = ℕ → Parts → List ℕ → Parts

module _ (table : Table) (nested : NestedOverlay) where
  -- The part of a field that is not repeated, with the occurrences w and ws merged into it: of a message their joined
  -- bytes are merged into the message that the part holds, or into the empty one; of any other field the last
  -- occurrence counts.
  abbrev pub singular_of : Kind → Part → RecordValue → List RecordValue → Part
  singular_of (Message s) p w ws = Nested (nested s (message_in (empty_value (table s)) p) (joined_contents (w ∷ ws)))
  singular_of k p w ws = scalar_part k (last w ws)

  -- The part of a field that is not repeated, with its occurrences merged into it; without any it is unchanged.
  abbrev pub singular_over : Kind → Part → List RecordValue → Part
  singular_over k p [] = p
  singular_over k p (w ∷ ws) = singular_of k p w ws

  -- The element that one occurrence adds to a repeated field of no numbers; a message is the meaning only of its own
  -- bytes.
  abbrev pub element_of : Kind → RecordValue → Parts
  element_of (Message s) (Length bytes) = one_part (Nested (nested s (empty_value (table s)) bytes))
  element_of k w = one_part (scalar_part k w)

  -- The elements that one occurrence adds to a repeated field: each number of a packed run, or one element.
  abbrev pub elements_of : Kind → RecordValue → Parts
  elements_of k w = if accepts_number k then number_elements k w else element_of k w

  -- The elements that the occurrences add, in order.
  abbrev pub all_elements : Kind → List RecordValue → Parts
  all_elements k [] = nil
  all_elements k (w ∷ ws) = elements_of k w +++ all_elements k ws

  -- The part of a repeated field, with its occurrences merged into it: their elements come after its own.
  abbrev pub repeated_over : Kind → Part → List RecordValue → Part
  repeated_over k p [] = p
  repeated_over k p (w ∷ ws) = with_elements p (all_elements k (w ∷ ws))

  -- A oneof's member of number n, the number of its last record: the longest run of that number at the end, merged into
  -- the member of that number that the part holds if all the oneof's records are of that number, and into nothing
  -- otherwise.
  abbrev pub member_over : List (ℕ × Kind) → Part → List FieldRecord → ℕ → Part
  member_over members p rs n =
      Member n (singular_over (member_kind members n) (if all_numbered n rs then member_at n p else Absent)
      (values (last_run n rs)))

  -- The part of a oneof, with its records merged into it: it holds the member of its last record; without any it is
  -- unchanged.
  abbrev pub oneof_over : List (ℕ × Kind) → Part → List FieldRecord → Part
  oneof_over members p [] = p
  oneof_over members p (r ∷ rs) = member_over members p (r ∷ rs) (last r rs).number

  -- The part of a row, with its own records merged into it.
  abbrev pub row_over : Row → Part → List FieldRecord → Part
  row_over (Plain n k) p rs = singular_over k p (values rs)
  row_over (Optional n k) p rs = singular_over k p (values rs)
  row_over (Repeated n k) p rs = repeated_over k p (values rs)
  row_over (OneOf members) p rs = oneof_over members p rs

  -- The parts of a message, with a record list merged into them: into each row's part the records of that row.
  abbrev pub rows_over : List Row → Parts → List FieldRecord → Parts
  rows_over [] ps rs = ps
  rows_over (row ∷ rows) nil rs = nil
  rows_over (row ∷ rows) (cons p ps) rs = cons (row_over row p (own_records row rs)) (rows_over rows ps rs)

-- ---- at any nesting depth

-- The list that was found, or the empty one.
abbrev pub or_empty : Option (List FieldRecord) → List FieldRecord
or_empty None = []
or_empty (Some rs) = rs

-- The records of a payload, which allow `left` levels of nesting; none if it is not a record list.
abbrev pub payload_records : ℕ → List ℕ → List FieldRecord
payload_records left bytes = or_empty (record_list left bytes)

-- The nested message v with bytes merged into it, where the record that holds them allows `left` levels of nesting.
unfoldable pub message_overlay : Table → ℕ → NestedOverlay
message_overlay table zero s v bytes = v
message_overlay table (suc left) s v bytes = rows_over table (message_overlay table left) (table s) v
    (payload_records left bytes)

-- The value v with a whole record list merged into it, whose records allow `left` levels of nesting.
abbrev pub overlay : Table → ℕ → ℕ → Parts → List FieldRecord → Parts
overlay table left s v rs = rows_over table (message_overlay table left) (table s) v rs

-- The value v with the records of a payload merged into it.
abbrev pub overlay_payload : Table → ℕ → ℕ → Parts → List ℕ → Parts
overlay_payload table left s v bytes = overlay table left s v (payload_records left bytes)

-- The meaning of a payload: its records merged into the empty value.
abbrev pub meaning : Table → ℕ → ℕ → List ℕ → Parts
meaning table left s bytes = overlay_payload table left s (empty_value (table s)) bytes
