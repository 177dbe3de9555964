-- One occurrence of a field, merged into a field, a oneof or a whole message.
use Rattle.std.specs.Prelude.{◌≡◌, ℕ, Bool, true, false, ◌&&◌, nat_lt, List, [], ◌∷◌, Option, Some, None, if◌then◌else◌}
use Rattle.shared_core_wire.specs.Grammar.{RecordValue, Varint, Fixed64, Length, Group, Fixed32, FieldRecord}
use Rattle.shared_core_wire.specs.View.{value_of}
use Rattle.shared_core_wire.specs.Schema.{Kind, Message, OneOf, includes, numbers, member_kind}
use Rattle.shared_core_wire.specs.Value.{Part, Parts, Nested, empty_value, ◌+++◌}
use Rattle.shared_core_wire.specs.Acceptance.{accepts_value, accepts_element, accepts_message, accepts_records}
use Rattle.shared_core_wire.specs.Canonical.{is_default}
use Rattle.shared_core_wire.specs.Overlay.{singular_of, all_elements, oneof_over, message_overlay, overlay}
use Rattle.shared_core_codec.specs.Table.{table}
use Rattle.shared_core_codec.specs.declared.occurrence.Occurrence.{Occurrence}

-- The value after the occurrence's key.
abbrev pub value_in : Occurrence → RecordValue
value_in o = value_of o.value

-- The occurrence as a record of the grammar: a field number and a value.
abbrev pub record_in : Occurrence → FieldRecord
record_in o = record { number = o.number; value = value_in o }

-- Whether a value is length-delimited bytes.
abbrev pub is_length : RecordValue → Bool
is_length (Varint n) = false
is_length (Fixed64 bytes) = false
is_length (Length bytes) = true
is_length (Group bytes) = false
is_length (Fixed32 bytes) = false

-- Whether the occurrence may hold a message: it is length-delimited, and a level of nesting is left.
abbrev pub holds_message : Occurrence → Bool
holds_message o = is_length (value_in o) && nat_lt 0 o.left

-- ---- fields that are not repeated

-- The part of a field of this kind before any merge: a message's is the empty message, any other's the default.
abbrev pub IsEmptyField : Kind → Part → Type 0
IsEmptyField (Message s) p = p ≡ Nested (empty_value (table s))
IsEmptyField k p = is_default p ≡ true

-- Whether the occurrence is well-formed for a field of this kind that is not repeated.
abbrev pub field_accepts : Occurrence → Kind → Bool
field_accepts o k = accepts_value (accepts_message table o.left) k (value_in o)

-- The occurrence is well-formed for a field of this kind, and merged into a field that holds the part old it gives the
-- part p.
abbrev pub FieldBecomes : Occurrence → Kind → Part → Part → Type 0
FieldBecomes o k old p = (field_accepts o k ≡ true) × (singular_of table (message_overlay table o.left) k old
    (value_in o) [] ≡ p)

-- ---- repeated fields

-- Whether the occurrence is well-formed for a repeated field of this kind.
abbrev pub repeated_accepts : Occurrence → Kind → Bool
repeated_accepts o k = accepts_element (accepts_message table o.left) k (value_in o)

-- The occurrence is well-formed for a repeated field of this kind, and appended to the elements old it gives the
-- elements new.
abbrev pub FieldExtends : Occurrence → Kind → Parts → Parts → Type 0
FieldExtends o k old new = (repeated_accepts o k ≡ true) × (new ≡ old +++ all_elements table
    (message_overlay table o.left) k (value_in o ∷ []))

-- ---- oneofs

-- The occurrence's number is that of a member.
abbrev pub IsMember : Occurrence → List (ℕ × Kind) → Type 0
IsMember o members = includes (numbers (OneOf members)) o.number ≡ true

-- Whether the occurrence is well-formed for the oneof's member of its number.
abbrev pub member_accepts : Occurrence → List (ℕ × Kind) → Bool
member_accepts o members = accepts_value (accepts_message table o.left) (member_kind members o.number) (value_in o)

-- The occurrence is well-formed for the member of its number, and merged into a oneof that holds the part old it gives
-- the part p.
abbrev pub MemberBecomes : Occurrence → List (ℕ × Kind) → Part → Part → Type 0
MemberBecomes o members old p = (member_accepts o members ≡ true) ×
    (oneof_over table (message_overlay table o.left) members old (record_in o ∷ []) ≡ p)

-- ---- whole messages

-- Whether the occurrence is well-formed for the schema: for its field, if the schema has one of its number.
abbrev pub schema_accepts : ℕ → Occurrence → Bool
schema_accepts s o = accepts_records table o.left s (record_in o ∷ [])

-- The occurrence is well-formed for the schema, and merged into a message of the value old it gives the value new.
abbrev pub RecordMerges : ℕ → Occurrence → Parts → Parts → Type 0
RecordMerges s o old new = (schema_accepts s o ≡ true) × (new ≡ overlay table o.left s old (record_in o ∷ []))

-- A message's value with one more occurrence merged into it, or None if that is not well-formed for the schema.
abbrev pub merged_with : ℕ → ℕ → Parts → FieldRecord → Option Parts
merged_with left s v r = if accepts_records table left s (r ∷ []) then Some (overlay table left s v (r ∷ [])) else None
