-- What a record keeps of what it held, whether a merge succeeds or fails.
use Rattle.std.specs.Prelude.{◌≡◌, ℕ, Bool, true, false, List, ◌∷◌, take, Some, Result}
use Rattle.shared_core_wire.specs.declared.error.WireError.{WireError}
use Rattle.shared_core_wire.specs.ReadRecords.{PlacedRecord}
use Rattle.shared_core_wire.specs.Schema.{Row, numbers, includes}
use Rattle.shared_core_wire.specs.Value.{Part, Parts, Absent, Number, Bytes, Nested, Elements, Member, nil, cons, ◌+++◌}
use Rattle.shared_core_codec.specs.Table.{table}
use Rattle.shared_core_codec.specs.Folding.{fold_read}
use Rattle.shared_core_codec.specs.Occurrences.{merged_with}

-- The elements of a list begin with those that it had.
abbrev pub BeginsWith : Parts → Parts → Type 0
BeginsWith old new = (more : Parts) × (new ≡ old +++ more)

abbrev mutual
  -- What a part keeps: a number is a number and bytes are bytes, which may be others; a message keeps what it held, a
  -- list its elements, at its front; a oneof holds a member, which may be another.
  pub PartKept : Part → Part → Type 0
  PartKept old (Member n q) = Unit {0}
  PartKept Absent new = Unit {0}
  PartKept (Number m) (Number n) = Unit {0}
  PartKept (Bytes a) (Bytes b) = Unit {0}
  PartKept (Nested old) (Nested new) = PartsKept old new
  PartKept (Elements old) (Elements new) = BeginsWith old new
  PartKept _ _ = ⊥

  -- What a message keeps, in each of its parts.
  pub PartsKept : Parts → Parts → Type 0
  PartsKept nil nil = Unit {0}
  PartsKept (cons p ps) (cons q qs) = PartKept p q × PartsKept ps qs
  PartsKept _ _ = ⊥

-- A part after a merge that has failed: a number and bytes are the same, a oneof holds the member that it held, and the
-- same is true of that member; a message and a list are kept.
abbrev pub PartAfterError : Part → Part → Type 0
PartAfterError (Member m p) (Member n q) = (m ≡ n) × PartAfterError p q
PartAfterError (Number n) new = new ≡ Number n
PartAfterError (Bytes bytes) new = new ≡ Bytes bytes
PartAfterError old new = PartKept old new

-- A part after one merge, which was ok or has failed.
abbrev pub PartAfter : Part → Part → Bool → Type 0
PartAfter old new true = PartKept old new
PartAfter old new false = PartAfterError old new

-- The same of a row that has the record's number; any other does not change.
abbrev pub RowAfter : Bool → Part → Part → Bool → Type 0
RowAfter true old new ok = PartAfter old new ok
RowAfter false old new ok = new ≡ old

-- The parts of a message after one record was merged, which was ok or has failed: only the row of the record's number
-- may have changed.
abbrev pub RowsAfter : List Row → ℕ → Parts → Parts → Bool → Type 0
RowsAfter (row ∷ rows) n (cons p ps) (cons q qs) ok = RowAfter (includes (numbers row) n) p q ok × RowsAfter rows n ps
    qs ok
RowsAfter _ n old new ok = new ≡ old

-- Merging the items of a payload into a message has failed at one of them: those before it are records, and they are
-- merged; since then only the row of one number may have changed, as by a merge that has failed.
pub record IsPartlyMerged (left s : ℕ) (old : Parts) (items : List (Result PlacedRecord WireError)) (new : Parts) : Type
    0 where
  pub count : ℕ
  pub before : Parts
  pub merged : fold_read (merged_with left s) old (take count items) ≡ Some before
  pub number : ℕ
  pub after : RowsAfter (table s) number before new false
