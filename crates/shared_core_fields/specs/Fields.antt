-- The fields of a value of a message, in the order in which a canonical payload has them.
use Rattle.std.specs.Prelude.{ℕ, Bool, true, false, List, [], ◌∷◌, ◌++◌, if◌then◌else◌, map, flat_map}
use Rattle.shared_core_wire.specs.Grammar.{RecordValue, Length, FieldRecord}
use Rattle.shared_core_wire.specs.Encoding.{record_list_bytes}
use Rattle.shared_core_wire.specs.Schema.{Table, Kind, Row, Message, member_kind, Plain, Optional, Repeated, OneOf}
use Rattle.shared_core_wire.specs.Acceptance.{accepts_number}
use Rattle.shared_core_wire.specs.Value.{Part, Parts, Absent, Nested, Elements, Member, nil, cons}
use Rattle.shared_core_wire.specs.Canonical.{is_default, packed_values, part_values}
use Rattle.shared_core_wire.specs.Overlay.{scalar_part, number_parts, meaning}
use Rattle.shared_core_codec.specs.Table.{table as protocol}
use Rattle.shared_core_fields.specs.Runs.{run_numbers}

-- A field: its number, its kind and whether it is repeated, and the part that it holds; of a repeated field one
-- element, or all numbers.
abbrev pub FieldPart : Type 0
FieldPart = ℕ × (Kind × Bool) × Part

-- ---- by the value

-- Each of these parts as a field of the number.
abbrev pub each_field : ℕ → Kind → Parts → List FieldPart
each_field n k nil = []
each_field n k (cons p ps) = (n, (k, true), p) ∷ each_field n k ps

-- One field with all these numbers, if there are any.
abbrev pub list_field : ℕ → Kind → Parts → List FieldPart
list_field n k nil = []
list_field n k (cons p ps) = (n, (k, true), Elements (cons p ps)) ∷ []

-- The fields of a repeated field's elements: one for each, and of numbers one for all.
abbrev pub element_fields : ℕ → Kind → Parts → List FieldPart
element_fields n k ps = if accepts_number k then list_field n k ps else each_field n k ps

-- The fields of a row's part: none of what is absent, nor of a plain field that is a default.
abbrev pub row_fields : Row → Part → List FieldPart
row_fields row Absent = []
row_fields (Plain n k) p = if is_default p then [] else (n, (k, false), p) ∷ []
row_fields (Optional n k) p = (n, (k, false), p) ∷ []
row_fields (Repeated n k) (Elements ps) = element_fields n k ps
row_fields (Repeated n k) p = []
row_fields (OneOf members) (Member n p) = (n, (member_kind members n, false), p) ∷ []
row_fields (OneOf members) p = []

-- The fields of a value, row by row in the order of its schema.
abbrev pub message_fields : List Row → Parts → List FieldPart
message_fields (row ∷ rows) (cons p ps) = row_fields row p ++ message_fields rows ps
message_fields rows ps = []

-- ---- by a record

-- The part that a record gives to a field of numbers: a number, or the elements of a packed run.
abbrev pub number_part_of : Kind → RecordValue → Part
number_part_of k (Length run) = Elements (number_parts k (run_numbers run))
number_part_of k w = scalar_part k w

-- The part that a record of a canonical payload of a table gives to a field of another kind.
abbrev pub other_part_in : Table → Kind → RecordValue → Part
other_part_in table (Message s) (Length bytes) = Nested (meaning table 100 s bytes)
other_part_in table k w = scalar_part k w

-- The part that a record of a canonical payload of a table gives to a field of a kind, repeated or not.
abbrev pub record_part_in : Table → Kind × Bool → RecordValue → Part
record_part_in table f w = if accepts_number f.0 then number_part_of f.0 w else other_part_in table f.0 w

-- The same for the schemas of the protocol.
abbrev pub record_part : Kind × Bool → RecordValue → Part
record_part = record_part_in protocol

-- ---- back to the payload

-- The record values of a field of a kind, repeated or not, that holds a part.
abbrev pub field_values : Kind × Bool → Part → List RecordValue
field_values (k, true) p = packed_values k (part_values protocol p k)
field_values (k, false) p = part_values protocol p k

-- The records of a field.
abbrev pub field_records : FieldPart → List FieldRecord
field_records f = map (λ w. record { number = f.0; value = w }) (field_values f.1 f.2)

-- The bytes of fields, one after the other.
abbrev pub fields_payload : List FieldPart → List ℕ
fields_payload fs = record_list_bytes (flat_map field_records fs)
