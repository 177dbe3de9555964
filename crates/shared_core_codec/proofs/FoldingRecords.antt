-- Going over a payload is going over its record list.
use Rattle.std.proofs.Common.{◌≡◌, ℕ, List, [], ◌∷◌, length, map, Option, Some, Result, Ok, Err, refl, ap, arith}
use Rattle.shared_core_wire.specs.declared.error.WireError.{WireError}
use Rattle.shared_core_codec.specs.Folding.{fold_read, fold_records}
use Rattle.shared_core_wire.proofs.ReadRecords.{ReadsInOrder, read_only, read_reading}
use Rattle.shared_core_wire.proofs.Readers.{bind_some, none_some}
use Rattle.shared_core_wire.specs.Grammar.{FieldRecord, IsRecordListWithin, IsRecordWithin}
use Rattle.shared_core_wire.specs.ReadRecords.{PlacedRecord, read_records, without_place}
use Rattle.shared_core_wire.specs.Reader.{◌>>=◌}

fold_first : {V : Type 0} (take : V → FieldRecord → Option V) (v u w : V) (r : FieldRecord) (rs : List FieldRecord) →
    take v r ≡ Some u → fold_records take u rs ≡ Some w → fold_records take v (r ∷ rs) ≡ Some w
fold_first take v u w r rs e f = rw e f

-- what a walk that took everything was given
reading_fold : {V : Type 0} (left from : ℕ) (bytes : List ℕ) (is : List (Result PlacedRecord WireError))
    (take : V → FieldRecord → Option V) (v w : V) → ReadsInOrder (IsRecordWithin left) from bytes is → fold_read take v
    is ≡ Some w
    → (rs : List FieldRecord) × IsRecordListWithin left bytes rs × (fold_records take v rs ≡ Some w)
reading_fold left from bytes [] take v w h e = ([], h, e)
reading_fold left from bytes (Ok p ∷ is) take v w h e =
    let s = bind_some (take v p.field_record) (λ u. fold_read take u is) w e in
    let others = reading_fold left p.to h.1 is take s.0 w h.6 s.2 in (
      p.field_record ∷ others.0,
      (h.0, h.1, h.2, h.3, others.1),
      fold_first take v s.0 w p.field_record others.0 s.1
          others.2,
    )
reading_fold left from bytes (Err x ∷ is) take v w h e = absurd (none_some w e)

pub fold_encoded : {V : Type 0} (left : ℕ) (payload : List ℕ) (take : V → FieldRecord → Option V) (v w : V) → fold_read
    take v (read_records left payload) ≡ Some w
    → (rs : List FieldRecord) × IsRecordListWithin left payload rs × (fold_records take v rs ≡ Some w)
unfolding read_records
fold_encoded left payload take v w e = reading_fold left 0 payload (read_records left payload) take v w
    (read_reading left (length payload) 0 (length payload) payload (omega arith) (omega arith)) e

oks_fold : {V : Type 0} (take : V → FieldRecord → Option V) (is : List (Result PlacedRecord WireError))
    (rs : List FieldRecord) (v : V) → map without_place is ≡ map Ok rs → fold_read take v is ≡ fold_records take v rs
oks_fold take [] [] v e = refl
oks_fold take [] (r ∷ rs) v e = absurd cc
oks_fold take (Ok p ∷ is) [] v e = absurd cc
oks_fold take (Err x ∷ is) [] v e = absurd cc
oks_fold take (Err x ∷ is) (r ∷ rs) v e = absurd cc
oks_fold take (Ok p ∷ is) (r ∷ rs) v e =
    let head : p.field_record ≡ r = cc in
    let tail : map without_place is ≡ map Ok rs = cc in
    rw head (ap (λ (f : _). take v r >>= f) (λ i u. oks_fold take is rs u tail i))

pub fold_again : {V : Type 0} (left : ℕ) (payload : List ℕ) (take : V → FieldRecord → Option V) (v : V)
    (rs : List FieldRecord) → IsRecordListWithin left payload rs → fold_read take v (read_records left payload) ≡
    fold_records take v rs
unfolding read_records
fold_again left payload take v rs h = oks_fold take (read_records left payload) rs v
    (read_only left rs (length payload) payload h)
