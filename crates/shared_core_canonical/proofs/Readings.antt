-- Going over the records of a payload.
use Rattle.std.proofs.Common.{◌≡◌, ℕ, List, [], ◌∷◌, map, Bool, true, false, cond, Option, Some, None}
use Rattle.std.proofs.Common.{Result, Ok, Err, refl, sym, ap, ◌∙◌}
use Rattle.std.specs.List.{list_all}
use Rattle.shared_core_wire.specs.declared.error.WireError.{WireError}
use Rattle.shared_core_wire.specs.Grammar.{FieldRecord}
use Rattle.shared_core_wire.specs.Reader.{record_list, record_at}
use Rattle.shared_core_wire.specs.ReadRecords.{PlacedRecord, read_records, without_place}
use Rattle.shared_core_wire.specs.Acceptance.{some_passes}
use Rattle.shared_core_wire.proofs.ReadRecords.{read_complete}
use Rattle.shared_core_wire.proofs.RecordLists.{records_reads}
use Rattle.shared_core_wire.proofs.Runs.{and_split}
use Rattle.shared_core_codec.specs.Checking.{all_read}
use Rattle.shared_core_codec.proofs.Checked.{read_past}
use Rattle.shared_core_canonical.specs.Rows.{records_of, records_read}

abbrev Items : Type 0
Items = List (Result PlacedRecord WireError)

-- ---- one record

pub passed : (test : FieldRecord → Bool) (r : PlacedRecord) (items later : Items) → items ≡ Ok r ∷ later → all_read test
    items ≡ true → (test r.field_record ≡ true) × (all_read test later ≡ true)
passed test r items later e h = by_test (test r.field_record) refl (sym (ap (all_read test) e) ∙ h)
  where
    by_test : (b : Bool) → test r.field_record ≡ b → cond b (all_read test later) false ≡ true → (b ≡ true)
        × (all_read test later ≡ true)
    by_test true t g = (refl, g)
    by_test false t g = absurd cc

pub failed : (test : FieldRecord → Bool) (x : WireError) (items later : Items) → items ≡ Err x ∷ later → all_read test
    items ≡ true → ⊥
failed test x items later e h = let g : false ≡ true = sym (ap (all_read test) e) ∙ h in absurd cc

-- ---- all records

-- Each record that was read passes the test, and no bytes are left.
abbrev pub AllPass : (FieldRecord → Bool) → ℕ → List ℕ → Type 0
AllPass test left bytes = all_read test (read_records left bytes) ≡ true

pub weaker : (test other : FieldRecord → Bool) → ((r : FieldRecord) → test r ≡ true → other r ≡ true)
    → (rs : List FieldRecord) → list_all test rs ≡ true → list_all other rs ≡ true
weaker test other w [] h = refl
weaker test other w (r ∷ rs) h =
    let e = and_split (test r) (list_all test rs) h in
    rw (w r e.0) (weaker test other w rs e.1)

listed : (items : Items) (rs : List FieldRecord) → map without_place items ≡ map Ok rs → records_of items ≡ rs
listed [] [] e = refl
listed [] (r ∷ rs) e = absurd cc
listed (Ok r ∷ items) [] e = absurd cc
listed (Ok r ∷ items) (s ∷ rs) e =
    let first : r.field_record ≡ s = cc in
    let later : map without_place items ≡ map Ok rs = cc in
    ap (λ (x : FieldRecord). x ∷ records_of items) first ∙ ap (λ (xs : List FieldRecord). s ∷ xs)
    (listed items rs later)
listed (Err x ∷ items) [] e = absurd cc
listed (Err x ∷ items) (s ∷ rs) e = absurd cc

pub record WhatIsRead (test : FieldRecord → Bool) (left : ℕ) (bytes : List ℕ) : Type 0 where
  pub records : List FieldRecord
  pub list : record_list left bytes ≡ Some records
  pub pass : list_all test records ≡ true
  pub read : records_read left bytes ≡ records

found : (test : FieldRecord → Bool) (left : ℕ) (bytes : List ℕ) (o : Option (List FieldRecord)) → record_list left bytes
    ≡ o → some_passes (list_all test) o ≡ true → WhatIsRead test left bytes
unfolding read_records
found test left bytes None e h = absurd cc
found test left bytes (Some rs) e h = record {
  records = rs;
  list = e;
  pass = h;
  read = listed (read_records left bytes) rs ((read_complete left bytes rs).0 (records_reads left bytes rs e));
}

pub all_pass : (test : FieldRecord → Bool) (left : ℕ) (bytes : List ℕ) → AllPass test left bytes → WhatIsRead test left
    bytes
unfolding read_records record_list
all_pass test left bytes h = found test left bytes (record_list left bytes) refl
    (sym (read_past (record_at left) test _ bytes 0) ∙ h)
