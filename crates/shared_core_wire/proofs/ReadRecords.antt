-- What reading the records of some bytes gives.
use Rattle.std.proofs.Common.{◌≡◌, ℕ, zero, suc, ◌+◌, ◌-◌, ◌*◌, ◌<◌, ◌≤◌, ◌⊎◌, List, [], ◌∷◌, ◌++◌, length, drop, map}
use Rattle.std.proofs.Common.{Option, Some, None, Result, Ok, Err, refl, sym, ap, subst, ◌∙◌, arith, inl, inr}
use Rattle.std.specs.Prelude.{◌↔◌}
use Rattle.std.proofs.lemmas.List.{length-append}
use Rattle.shared_core_wire.specs.declared.error.WireError.{WireError}
use Rattle.shared_core_wire.specs.declared.error.WireError.TheVariants.{Malformed}
use Rattle.shared_core_wire.specs.Grammar.{IsGroupContent, IsRecordWithin, IsRecordListWithin, FieldRecord}
use Rattle.shared_core_wire.proofs.Readers.{BeginsWith}
use Rattle.shared_core_wire.specs.Reader.{record_at, group_content_at}
use Rattle.shared_core_wire.specs.ReadRecords.{PlacedRecord, records_past, without_place, record_count}
use Rattle.shared_core_wire.proofs.Readers.{none_some, record_again, record_reads, record_long}
use Rattle.shared_core_wire.proofs.Groups.{beyond, reads_groups}

-- what the bytes from an offset of the payload on give, by their encodings
abbrev pub ReadsInOrder : (List ℕ → FieldRecord → Type 0) → ℕ → List ℕ → List (Result PlacedRecord WireError) → Type 0
ReadsInOrder R at_place bytes [] = bytes ≡ []
ReadsInOrder R at_place bytes (Ok p ∷ items) = (first : List ℕ) × (others : List ℕ) × (bytes ≡ first ++ others) × R
    first p.field_record
    × (p.from ≡ at_place) × (p.to ≡ at_place + length first) × ReadsInOrder R p.to others items
ReadsInOrder R at_place bytes (Err e ∷ items) = (e ≡ Malformed) × (items ≡ []) × (0 < length bytes)
    × ((first others : List ℕ) (r : FieldRecord) → bytes ≡ first ++ others → R first r → ⊥)

pub cases_option : {A : Type 0} (o : Option A) → (o ≡ None) ⊎ ((x : A) × (o ≡ Some x))
cases_option None = inl refl
cases_option (Some x) = inr (x, refl)

-- ---- the steps of the computation

abbrev pub place : ℕ → List ℕ → FieldRecord → List ℕ → PlacedRecord
place end bytes r rest = record { field_record = r; from = end - length bytes; to = end - length rest }

module _ (one : List ℕ → Option (FieldRecord × List ℕ)) (end : ℕ) where
  read_over : (past : ℕ) (bytes : List ℕ) → records_past one end past bytes ≡ records_past one end 0 (drop past bytes)
  unfolding records_past
  read_over zero bytes = refl
  read_over (suc past) [] = refl
  read_over (suc past) (b ∷ bs) = read_over past bs

  pub read_nil : records_past one end 0 [] ≡ []
  unfolding records_past
  read_nil = refl

  pub read_stop : (bytes : List ℕ) → 0 < length bytes → one bytes ≡ None → records_past one end 0 bytes ≡ Err Malformed
      ∷ []
  unfolding records_past
  read_stop [] h e = absurd (omega arith)
  read_stop (b ∷ bs) h e = rw (e, records_past) refl

  pub read_more : (bytes text rest : List ℕ) (r : FieldRecord) → one bytes ≡ Some (r, rest) → bytes ≡ text ++ rest → 0 <
      length text → records_past one end 0 bytes ≡ Ok (place end bytes r rest) ∷ records_past one end 0 rest
  unfolding records_past
  read_more [] text rest r e parts h = absurd (omega (arith, ap length parts, length-append text rest))
  read_more (b ∷ bs) text rest r e parts h =
      rw (e, records_past) (ap (λ (xs : List (Result PlacedRecord WireError)). Ok (place end (b ∷ bs) r rest) ∷ xs)
      (read_over (length bs - length rest) bs ∙ ap (records_past one end 0) (beyond b bs text rest parts h)))

-- ---- with a nesting depth

module _ (left : ℕ) where
  abbrev C : List ℕ → Type 0
  C = IsGroupContent left

  pub read_again : (r : FieldRecord) (text rest : List ℕ) → IsRecordWithin left text r → record_at left (text ++ rest) ≡
      Some (r, rest)
  unfolding record_at
  read_again r text rest h = record_again C (group_content_at left) (reads_groups left) r text rest h

  pub read_encoded : (bytes : List ℕ) (x : FieldRecord × List ℕ) → record_at left bytes ≡ Some x → BeginsWith
      (IsRecordWithin left) bytes x
  unfolding record_at
  read_encoded bytes x e = record_reads C (group_content_at left) (reads_groups left) bytes x e

  pub read_reading : (most from end : ℕ) (bytes : List ℕ) → length bytes ≤ most → from + length bytes ≡ end →
      ReadsInOrder (IsRecordWithin left) from bytes (records_past (record_at left) end 0 bytes)
  read_reading most from end [] le e = rw read_nil refl
  read_reading zero from end (b ∷ bs) le e = absurd (omega arith)
  read_reading (suc most) from end (b ∷ bs) le e =
      elim (cases_option (record_at left (b ∷ bs))) [
        | inl none ↦
            subst (ReadsInOrder (IsRecordWithin left) from (b ∷ bs))
            (sym (read_stop (record_at left) end (b ∷ bs) (omega arith) none)) (
              refl,
              refl,
              omega arith,
              λ first others r parts h. none_some (r, others)
                  (sym none ∙ ap (record_at left) parts ∙ read_again r first others h),
            )
        | inr w ↦
            let f = read_encoded (b ∷ bs) w.0 w.1 in
            let long = record_long C f.text w.0.0 f.is in
            let len : length (b ∷ bs) ≡ length f.text + length w.0.1 = ap length f.parts ∙ length-append f.text w.0.1 in
            subst (ReadsInOrder (IsRecordWithin left) from (b ∷ bs))
            (sym (read_more (record_at left) end (b ∷ bs) f.text w.0.1 w.0.0 w.1 f.parts (omega arith))) (
              f.text,
              w.0.1,
              f.parts,
              f.is,
              omega arith,
              omega arith,
              read_reading most (end - length w.0.1) end w.0.1
                  (omega arith) (omega arith),
            )
      ]

  pub read_only : (rs : List FieldRecord) (end : ℕ) (bytes : List ℕ) → IsRecordListWithin left bytes rs → map
      without_place (records_past (record_at left) end 0 bytes) ≡ map Ok rs
  read_only [] end bytes j = rw (j, read_nil) refl
  read_only (r ∷ rs) end bytes j =
      let long = record_long C j.0 r j.3 in
      rw (j.2, read_more (record_at left) end (j.0 ++ j.1) j.0 j.1 r (read_again r j.0 j.1 j.3) refl (omega arith))
      (ap (λ (xs : List (Result FieldRecord WireError)). Ok r ∷ xs) (read_only rs end j.1 j.4))

  pub read_few : (most end : ℕ) (bytes : List ℕ) → length bytes ≤ most → 2 * length
      (records_past (record_at left) end 0 bytes) ≤ length bytes + 1
  read_few most end [] le = rw read_nil (omega arith)
  read_few zero end (b ∷ bs) le = absurd (omega arith)
  read_few (suc most) end (b ∷ bs) le =
      elim (cases_option (record_at left (b ∷ bs))) [
        | inl none ↦ rw (read_stop (record_at left) end (b ∷ bs) (omega arith) none) (omega arith)
        | inr w ↦
            let f = read_encoded (b ∷ bs) w.0 w.1 in
            let long = record_long C f.text w.0.0 f.is in
            let len : length (b ∷ bs) ≡ length f.text + length w.0.1 = ap length f.parts ∙ length-append f.text w.0.1 in
            let few = read_few most end w.0.1 (omega arith) in
            rw (read_more (record_at left) end (b ∷ bs) f.text w.0.1 w.0.0 w.1 f.parts (omega arith)) (omega arith)
      ]

  -- the converse of read_only
  oks_listed : (from : ℕ) (bytes : List ℕ) (is : List (Result PlacedRecord WireError)) (rs : List FieldRecord) →
      ReadsInOrder (IsRecordWithin left) from bytes is → map without_place is ≡ map Ok rs → IsRecordListWithin left
      bytes rs
  oks_listed from bytes [] [] h e = h
  oks_listed from bytes [] (r ∷ rs) h e = absurd cc
  oks_listed from bytes (Ok p ∷ is) [] h e = absurd cc
  oks_listed from bytes (Err x ∷ is) [] h e = absurd cc
  oks_listed from bytes (Err x ∷ is) (r ∷ rs) h e = absurd cc
  oks_listed from bytes (Ok p ∷ is) (r ∷ rs) h e =
      let head : p.field_record ≡ r = cc in
      let tail : map without_place is ≡ map Ok rs = cc in
      (h.0, h.1, h.2, subst (IsRecordWithin left h.0) head h.3, oks_listed p.to h.1 is rs h.6 tail)

  pub read_complete : (bytes : List ℕ) (rs : List FieldRecord) → IsRecordListWithin left bytes rs ↔
      (map without_place (records_past (record_at left) (length bytes) 0 bytes) ≡ map Ok rs)
  read_complete bytes rs = (
    read_only rs (length bytes) bytes,
    oks_listed 0 bytes
        (records_past (record_at left) (length bytes) 0 bytes) rs
        (read_reading (length bytes) 0 (length bytes) bytes (omega arith) (omega arith)),
  )

  pub read_count : (most end : ℕ) (bytes : List ℕ) → length bytes ≤ most → 2 * record_count
      (records_past (record_at left) end 0 bytes) ≤ length bytes
  read_count most end [] le = rw read_nil (omega arith)
  read_count zero end (b ∷ bs) le = absurd (omega arith)
  read_count (suc most) end (b ∷ bs) le =
      elim (cases_option (record_at left (b ∷ bs))) [
        | inl none ↦ rw (read_stop (record_at left) end (b ∷ bs) (omega arith) none) (omega arith)
        | inr w ↦
            let f = read_encoded (b ∷ bs) w.0 w.1 in
            let long = record_long C f.text w.0.0 f.is in
            let len : length (b ∷ bs) ≡ length f.text + length w.0.1 = ap length f.parts ∙ length-append f.text w.0.1 in
            let few = read_count most end w.0.1 (omega arith) in
            rw (read_more (record_at left) end (b ∷ bs) f.text w.0.1 w.0.0 w.1 f.parts (omega arith)) (omega arith)
      ]

-- a step of the iterator
pub record Step (left end : ℕ) (bytes : List ℕ) (r : FieldRecord) (rest : List ℕ) : Type 0 where
  pub shorter : length rest < length bytes
  pub more : records_past (record_at left) end 0 bytes ≡ Ok (place end bytes r rest) ∷ records_past (record_at left) end
      0 rest

pub step : (left end : ℕ) (bytes : List ℕ) (r : FieldRecord) (rest : List ℕ) → record_at left bytes ≡ Some (r, rest) →
    Step left end bytes r rest
step left end bytes r rest e =
    let f = read_encoded left bytes (r, rest) e in
    let long = record_long (IsGroupContent left) f.text r f.is in
    record {
      shorter = omega (arith, ap length f.parts, length-append f.text rest);
      more = read_more (record_at left) end bytes f.text rest r e f.parts (omega arith);
    }
