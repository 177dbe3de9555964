-- Which values fit a schema.
use Rattle.std.specs.Prelude.{◌≡◌, ◌<◌, ℕ, ◌^◌, Bool, true, false, ◌&&◌, List, [], ◌∷◌}
use Rattle.std.specs.Str.{is_utf8}
use Rattle.shared_core_wire.specs.Schema.{Table, Kind, Row, U32, U64, Boolean, Enumeration, Text, ByteString, Message}
use Rattle.shared_core_wire.specs.Schema.{Plain, Optional, Repeated, OneOf, numbers, includes}
use Rattle.shared_core_wire.specs.Value.{Part, Parts, Absent, Number, Bytes, Nested, Elements, Member, nil, cons}
use Rattle.shared_core_wire.specs.Canonical.{kind_of}

-- Whether a part is a single value: a number, bytes or a message.
abbrev pub is_single : Part → Bool
is_single (Number n) = true
is_single (Bytes bytes) = true
is_single (Nested ps) = true
is_single p = false

-- Whether a part has a shape that the row's presence allows.
abbrev pub has_shape : Row → Part → Bool
has_shape (Plain n k) p = is_single p
has_shape (Optional n k) Absent = true
has_shape (Optional n k) p = is_single p
has_shape (Repeated n k) (Elements ps) = true
has_shape (Repeated n k) p = false
has_shape (OneOf members) Absent = true
has_shape (OneOf members) (Member n p) = includes (numbers (OneOf members)) n && is_single p
has_shape (OneOf members) p = false

-- The number is in the range of the kind.
abbrev pub NumberFits : Kind → ℕ → Type 0
NumberFits U32 n = n < 2 ^ 32
NumberFits U64 n = n < 2 ^ 64
NumberFits Boolean n = n < 2
NumberFits Enumeration n = n < 2 ^ 32
NumberFits k n = ⊥

-- The bytes are valid for the kind: a string is UTF-8.
abbrev pub BytesFit : Kind → List ℕ → Type 0
BytesFit Text bytes = is_utf8 bytes ≡ true
BytesFit ByteString bytes = Unit {0}
BytesFit k bytes = ⊥

module _ (table : Table) where
  unfoldable mutual
    -- The part holds a value of the kind.
    pub PartFits : Part → Kind → Type 0
    PartFits Absent k = Unit {0}
    PartFits (Number n) k = NumberFits k n
    PartFits (Bytes bytes) k = BytesFit k bytes
    PartFits (Nested ps) (Message s) = Fits ps (table s)
    PartFits (Nested ps) k = ⊥
    PartFits (Elements ps) k = ElementsFit ps k
    PartFits (Member n p) k = PartFits p k

    -- Each of the elements is a single value of the kind.
    pub ElementsFit : Parts → Kind → Type 0
    ElementsFit nil k = Unit {0}
    ElementsFit (cons p ps) k = (is_single p ≡ true) × PartFits p k × ElementsFit ps k

    -- The value fits the schema: it has one part for each row, with a shape that the row allows and a value of its
    -- kind.
    pub Fits : Parts → List Row → Type 0
    Fits nil [] = Unit {0}
    Fits nil (row ∷ rows) = ⊥
    Fits (cons p ps) [] = ⊥
    Fits (cons p ps) (row ∷ rows) = (has_shape row p ≡ true) × PartFits p (kind_of row p) × Fits ps rows
