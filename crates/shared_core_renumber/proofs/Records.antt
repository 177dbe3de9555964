-- A payload at other field numbers encodes the records of the payload, with their other numbers.
use Rattle.std.proofs.Common.{◌≡◌, ℕ, List, [], ◌∷◌, ◌++◌, Bool, true, false, cond, eqb, Some, refl}
use Rattle.std.proofs.Common.{sym, ap}
use Rattle.std.proofs.Common.{◌∙◌, flat_map, length}
use Rattle.std.specs.List.{list_all}
use Rattle.std.proofs.lemmas.List.{append-nil}
use Rattle.std.proofs.lemmas.List.Concat.{flat_map-append}
use Rattle.shared_core_wire.specs.Encoding.{record_bytes, record_list_bytes}
use Rattle.shared_core_wire.specs.Grammar.{RecordValue, Varint, Fixed64, Length, Group, Fixed32, FieldRecord}
use Rattle.shared_core_wire.specs.Grammar.{IsRecordListWithin}
use Rattle.shared_core_wire.specs.Reader.{record_list}
use Rattle.shared_core_wire.proofs.EncodingLaws.{record_encoded, encodable}
use Rattle.shared_core_wire.proofs.RecordLists.{records_append, records_empty, records_reads}
use Rattle.shared_core_wire.proofs.Runs.{and_split}
use Rattle.shared_core_canonical.specs.Rows.{records_read}
use Rattle.shared_core_renumber.specs.declared.entries.Renumbering.{Renumbering}
use Rattle.shared_core_renumber.specs.Entries.{from_schema}
use Rattle.shared_core_renumber.specs.Written.{FoundRecord, NestedBytes, nested_bytes, payload_bytes, records_found}
use Rattle.shared_core_renumber.specs.Written.{value_bytes, group_bytes, first_bytes, entries_bytes}
use Rattle.shared_core_renumber.specs.Records.{value_records, group_records, first_records}
use Rattle.shared_core_renumber.specs.Records.{entries_records, moved_records, is_writable}

-- ---- what is written are the bytes of the records

joined : (xs ys : List FieldRecord) (a b : List ℕ) → a ≡ record_list_bytes xs → b ≡ record_list_bytes ys → a ++ b ≡
    record_list_bytes (xs ++ ys)
joined xs ys a b e f =
    ap (λ (c : List ℕ). c ++ b) e ∙ ap (λ (c : List ℕ). record_list_bytes xs ++ c) f
    ∙ sym (flat_map-append record_bytes xs ys)

module _ (inner : NestedBytes) where
  value_is : (e : Renumbering) (w : RecordValue) → value_bytes inner e w ≡ record_list_bytes (value_records inner e w)
  value_is e (Varint v) = sym (append-nil _)
  value_is e (Fixed64 b) = refl
  value_is e (Length b) = sym (append-nil _)
  value_is e (Group b) = refl
  value_is e (Fixed32 b) = refl

  group_is : (place : ℕ) (fs : List FoundRecord) → flat_map (group_bytes inner place) fs ≡ record_list_bytes
      (flat_map (group_records inner place) fs)
  group_is place [] = refl
  group_is place (f ∷ fs) = joined (group_records inner place f) (flat_map (group_records inner place) fs)
      (group_bytes inner place f) (flat_map (group_bytes inner place) fs) (by_test (eqb f.place place))
      (group_is place fs)
    where
      by_test : (b : Bool) → cond b (value_bytes inner f.entry f.value) [] ≡ record_list_bytes
          (cond b (value_records inner f.entry f.value) [])
      by_test true = value_is f.entry f.value
      by_test false = refl

  first_is : (before : ℕ) (e : Renumbering) (es : List Renumbering) (fs : List FoundRecord) → first_bytes inner before e
      es fs ≡ record_list_bytes (first_records inner before e es fs)
  first_is before e es fs = by_test (eqb e.group before)
    where
      by_test : (b : Bool) → cond b [] (flat_map (group_bytes inner (length (e ∷ es))) fs) ≡ record_list_bytes
          (cond b [] (flat_map (group_records inner (length (e ∷ es))) fs))
      by_test true = refl
      by_test false = group_is (length (e ∷ es)) fs

  entries_are : (s before : ℕ) (es : List Renumbering) (fs : List FoundRecord) → entries_bytes inner s before es fs ≡
      record_list_bytes (entries_records inner s before es fs)
  entries_are s before [] fs = refl
  entries_are s before (e ∷ es) fs = by_test (entries_are s e.group es fs) (eqb e.schema s)
    where
      by_test : (entries_bytes inner s e.group es fs ≡ record_list_bytes (entries_records inner s e.group es fs))
          → (b : Bool) → cond b (first_bytes inner before e es fs ++ entries_bytes inner s e.group es fs) [] ≡
          record_list_bytes
          (cond b (first_records inner before e es fs ++ entries_records inner s e.group es fs) [])
      by_test later true =
          joined (first_records inner before e es fs) (entries_records inner s e.group es fs) _ _
          (first_is before e es fs) later
      by_test later false = refl

-- ---- bytes of records are read as these

writable_is : (r : FieldRecord) → is_writable r ≡ encodable r
writable_is r = by_value r.value
  where
    by_value : (w : RecordValue) → is_writable (record { number = r.number; value = w }) ≡ encodable
        (record { number = r.number; value = w })
    by_value (Varint n) = refl
    by_value (Fixed64 bytes) = refl
    by_value (Length bytes) = refl
    by_value (Group bytes) = refl
    by_value (Fixed32 bytes) = refl

listed : (left : ℕ) (rs : List FieldRecord) → list_all is_writable rs ≡ true → record_list left (record_list_bytes rs) ≡
    Some rs
listed left [] h = records_empty left
listed left (r ∷ rs) h =
    let e = and_split (is_writable r) (list_all is_writable rs) h in
    records_append left (record_bytes r) (record_list_bytes rs) (r ∷ []) rs
    (record_encoded left r (sym (writable_is r) ∙ e.0)) (listed left rs e.1)

pub has_the_records : (es : List Renumbering) (left s : ℕ) (payload : List ℕ) → list_all is_writable
    (moved_records es left s payload) ≡ true → IsRecordListWithin left (payload_bytes es left s payload)
    (moved_records es left s payload)
has_the_records es left s payload h =
    let rs = moved_records es left s payload in
    let own = from_schema s es in
    let same = entries_are (nested_bytes es left) s 0 own (records_found s own (records_read left payload)) in
    records_reads left (payload_bytes es left s payload) rs (ap (record_list left) same ∙ listed left rs h)
