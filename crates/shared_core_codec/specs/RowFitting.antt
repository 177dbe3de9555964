-- Which values fit, row by row.
use Rattle.std.specs.Prelude.{◌≡◌, true, List, [], ◌∷◌}
use Rattle.shared_core_wire.specs.Schema.{Kind, Row, Plain, Optional, Repeated, OneOf, numbers, includes, member_kind}
use Rattle.shared_core_wire.specs.Value.{Part, Parts, Absent, Member, nil, cons}
use Rattle.shared_core_wire.specs.Canonical.{kind_of}
use Rattle.shared_core_wire.specs.Fitting.{PartFits, has_shape, is_single}
use Rattle.shared_core_codec.specs.Table.{table}

-- The part is a single value of the kind.
unfoldable pub ValueFits : Kind → Part → Type 0
ValueFits k p = (is_single p ≡ true) × PartFits table p k

-- The part has a shape that the row allows, and is of its kind.
unfoldable pub RowFits : Row → Part → Type 0
RowFits row p = (has_shape row p ≡ true) × PartFits table p (kind_of row p)

-- The same, by the presence of the row's field.
abbrev pub FieldFits : Row → Part → Type 0
FieldFits (Plain n k) p = ValueFits k p
FieldFits (Repeated n k) p = RowFits (Repeated n k) p
FieldFits (Optional n k) Absent = Unit {0}
FieldFits (Optional n k) p = ValueFits k p
FieldFits (OneOf members) Absent = Unit {0}
FieldFits (OneOf members) (Member n p) = (includes (numbers (OneOf members)) n ≡ true) × ValueFits
    (member_kind members n) p
FieldFits (OneOf members) p = RowFits (OneOf members) p

-- There is a part for each row, and each fits.
abbrev pub FieldsFit : List Row → Parts → Type 0
FieldsFit (row ∷ rows) (cons p ps) = FieldFits row p × FieldsFit rows ps
FieldsFit [] nil = Unit {0}
FieldsFit _ _ = ⊥
