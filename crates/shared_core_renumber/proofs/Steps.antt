-- Writing a payload at other field numbers, step by step.
use Rattle.std.proofs.Common.{◌≡◌, ℕ, zero, suc, ◌+◌, List, [], ◌∷◌, ◌++◌, true, false}
use Rattle.std.proofs.Common.{Option, Some, None, refl, ap, arith, Ok}
use Rattle.std.proofs.Common.{Result, Err}
use Rattle.std.specs.List.{list_all}
use Rattle.shared_core_wire.specs.Grammar.{RecordValue}
use Rattle.shared_core_wire.specs.ReadRecords.{PlacedRecord}
use Rattle.shared_core_wire.specs.declared.error.WireError.{WireError}
use Rattle.shared_core_codec.specs.Checking.{all_read}
use Rattle.shared_core_canonical.specs.declared.places.Placed.{Placed}
use Rattle.shared_core_canonical.specs.Rows.{records_of}
use Rattle.shared_core_canonical.proofs.Readings.{passed, failed}
use Rattle.shared_core_renumber.specs.declared.entries.Renumbering.{Renumbering}
use Rattle.shared_core_renumber.specs.Entries.{find_in}
use Rattle.shared_core_renumber.specs.Allowed.{NestedTest, found_allows, nested_allows, payload_allows, record_allows}
use Rattle.shared_core_renumber.specs.Written.{FoundRecord, found_record}
use Rattle.shared_core_renumber.specs.Written.{is_allowed, nested_bytes}
use Rattle.shared_core_renumber.specs.Written.{payload_bytes, records_found}

-- ---- one level down

pub allows_none : (es : List Renumbering) (left s : ℕ) (bytes : List ℕ) → left ≡ 0 → nested_allows es left s bytes ≡
    false
unfolding nested_allows
allows_none es zero s bytes e = refl
allows_none es (suc left) s bytes e = absurd (omega (arith, e))

pub allows_below : (es : List Renumbering) (below left s : ℕ) (bytes : List ℕ) → below + 1 ≡ left → nested_allows es
    left s bytes ≡ payload_allows es below s bytes
unfolding nested_allows
allows_below es below zero s bytes h = absurd (omega (arith, h))
allows_below es below (suc left) s bytes h = let e : left ≡ below = omega (arith, h) in ap
    (λ l. payload_allows es l s bytes) e

pub bytes_below : (es : List Renumbering) (below left s : ℕ) (bytes : List ℕ) → below + 1 ≡ left → nested_bytes es
    left s bytes ≡ payload_bytes es below s bytes
unfolding nested_bytes
bytes_below es below zero s bytes h = absurd (omega (arith, h))
bytes_below es below (suc left) s bytes h = let e : left ≡ below = omega (arith, h) in ap
    (λ l. payload_bytes es l s bytes) e

-- ---- the records that a table allows

abbrev Items : Type 0
Items = List (Result PlacedRecord WireError)

-- a record whose entry was found or not, before others that are allowed
one_allowed : (inner : NestedTest) (o : Option (Placed Renumbering)) (w : RecordValue) (fs : List FoundRecord) →
    found_allows inner o
    w ≡ true → list_all (is_allowed inner) fs ≡ true → list_all (is_allowed inner) (found_record o w ++ fs) ≡ true
one_allowed inner None w fs h rest = rest
one_allowed inner (Some p) w fs h rest = rw h rest

-- those of the table among records that it allows
pub all_allowed : (inner : NestedTest) (s : ℕ) (es : List Renumbering) (items : Items) → all_read
    (record_allows inner s es) items ≡ true → list_all (is_allowed inner) (records_found s es (records_of items)) ≡ true
all_allowed inner s es [] h = refl
all_allowed inner s es (Ok r ∷ items) h =
    let e = passed (record_allows inner s es) r (Ok r ∷ items) items refl h in
    one_allowed inner (find_in s r.field_record.number es) r.field_record.value
    (records_found s es (records_of items)) e.0 (all_allowed inner s es items e.1)
all_allowed inner s es (Err x ∷ items) h = absurd
    (failed (record_allows inner s es) x (Err x ∷ items) items refl h)
