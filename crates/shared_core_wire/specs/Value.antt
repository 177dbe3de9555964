-- The value of a message: a list with one part for each row of its schema.
use Rattle.std.specs.Prelude.{ℕ, List, [], ◌∷◌}
use Rattle.shared_core_wire.specs.Schema.{Kind, Row, Text, ByteString, Message, Plain, Optional, Repeated, OneOf}

mutual
  -- What a field or a oneof holds: nothing, a number (an enum's as its low 32 bits, a bool's as 0 or 1), bytes, a
  -- message, the elements of a repeated field, or the member of a oneof with its number.
  pub data Part : Type 0 where
    Absent : Part
    Number : ℕ → Part
    Bytes : List ℕ → Part
    Nested : Parts → Part
    Elements : Parts → Part
    Member : ℕ → Part → Part

  -- Some parts in order: those of a message, or the elements of a repeated field.
  pub data Parts : Type 0 where
    nil : Parts
    cons : Part → Parts → Parts

infixr 60 ◌+++◌
-- Two lists of parts, joined.
abbrev pub ◌+++◌ : Parts → Parts → Parts
nil +++ qs = qs
(cons p ps) +++ qs = cons p (ps +++ qs)

-- A list of one part.
abbrev pub one_part : Part → Parts
one_part p = cons p nil

-- The default of a kind: 0, false or empty; a message has none.
abbrev pub default_of : Kind → Part
default_of Text = Bytes []
default_of ByteString = Bytes []
default_of (Message s) = Absent
default_of k = Number 0

-- What a row holds if none of its fields occurs in a payload.
abbrev pub empty_part : Row → Part
empty_part (Plain n k) = default_of k
empty_part (Optional n k) = Absent
empty_part (Repeated n k) = Elements nil
empty_part (OneOf members) = Absent

-- What a message holds if its payload is empty.
abbrev pub empty_value : List Row → Parts
empty_value [] = nil
empty_value (row ∷ rows) = cons (empty_part row) (empty_value rows)
