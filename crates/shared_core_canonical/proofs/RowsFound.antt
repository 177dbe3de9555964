-- The records of a message by their rows.
use Rattle.std.proofs.Common.{◌≡◌, ℕ, ◌+◌, ◌<◌, ◌≤◌, List, [], ◌∷◌, ◌++◌, Bool, true, false, cond, eqb}
use Rattle.std.proofs.Common.{refl, sym, ap, ◌∙◌, flat_map, drop, take, arith, zero, suc, Option, Some, None}
use Rattle.std.specs.Prelude.{is_some}
use Rattle.std.specs.List.{filter, list_all}
use Rattle.std.proofs.lemmas.Bool.{eq-eqb}
use Rattle.shared_core_wire.specs.Grammar.{FieldRecord}
use Rattle.shared_core_wire.specs.Schema.{Kind, Row, U32, U64, Boolean, Enumeration, Text, ByteString, Message}
use Rattle.shared_core_wire.specs.Schema.{Plain, Optional, Repeated, OneOf, numbers, all_numbers, includes}
use Rattle.shared_core_wire.specs.Schema.{are_distinct}
use Rattle.shared_core_wire.specs.declared.records.Record.{Record}
use Rattle.shared_core_wire.proofs.Runs.{and_split}
use Rattle.shared_core_wire.proofs.ReadBack.{or_split, includes-append, distinct_back, distinct_other}
use Rattle.shared_core_wire.specs.WrittenRecords.{content_record}
use Rattle.shared_core_codec.specs.Checking.{field_record_of}
use Rattle.shared_core_codec.proofs.PassedRows.{lacks}
use Rattle.shared_core_codec.specs.ProgramRows.{field_in_row, member_numbered}
use Rattle.shared_core_canonical.specs.declared.places.Placed.{Placed}
use Rattle.shared_core_canonical.specs.Places.{AreInOrder, at_place, front_at, placed_values, rise_from, values_at}
use Rattle.shared_core_canonical.specs.Found.{place_in, placed_record, records_found, places_record}
use Rattle.shared_core_canonical.specs.Found.{found_views, found_records}
use Rattle.shared_core_canonical.specs.Rows.{NestedBytes, LastValue, last_over, last_found, run_record, scalar_element}
use Rattle.shared_core_canonical.specs.Rows.{message_element, repeated_record, row_record, rows_record}
use Rattle.shared_core_canonical.proofs.ByPlace.{equal_less, equal_more, front_views, views_at}

-- ---- the numbers of rows

member_lacks : (members : List (ℕ × Kind)) (n : ℕ) → includes (numbers (OneOf members)) n ≡ false → member_numbered
    members n ≡ None
member_lacks [] n h = refl
member_lacks (m ∷ members) n h =
    let e = or_split (eqb n m.0) (includes (numbers (OneOf members)) n) h in
    rw e.0 (member_lacks members n e.1)

row_lacks : (row : Row) (n : ℕ) → includes (numbers row) n ≡ false → field_in_row row n ≡ None
row_lacks (Plain m k) n h = rw (or_split (eqb n m) false h).0 refl
row_lacks (Optional m k) n h = rw (or_split (eqb n m) false h).0 refl
row_lacks (Repeated m k) n h = rw (or_split (eqb n m) false h).0 refl
row_lacks (OneOf members) n h = member_lacks members n h

-- Whether a row has the number of a record.
abbrev has_record : Row → FieldRecord → Bool
has_record row r = is_some (field_in_row row r.number)

row_has : (row : Row) (n : ℕ) → is_some (field_in_row row n) ≡ true → includes (numbers row) n ≡ true
row_has row n h = by_test (includes (numbers row) n) refl
  where
    by_test : (b : Bool) → includes (numbers row) n ≡ b → b ≡ true
    by_test true t = refl
    by_test false t =
        let none : false ≡ true = sym (ap (λ (o : Option (Kind × Bool)). is_some o) (row_lacks row n t)) ∙ h in
        absurd cc

rows_lack : (rows : List Row) (place n : ℕ) → includes (all_numbers rows) n ≡ false → place_in rows place n ≡ None
rows_lack [] place n h = refl
rows_lack (row ∷ rows) place n h =
    let e = or_split (includes (numbers row) n) (includes (all_numbers rows) n)
    (sym (includes-append (numbers row) (all_numbers rows) n) ∙ h) in
    rw (row_lacks row n e.0) (rows_lack rows (place + 1) n e.1)

-- rows without a number are passed over
pub rows_passed : (rows : List Row) (count place n : ℕ) → includes (all_numbers (take count rows)) n ≡ false
    → place_in rows place n ≡ place_in (drop count rows) (place + count) n
rows_passed rows zero place n h = let e : place ≡ place + 0 = omega arith in ap (λ (p : ℕ). place_in rows p n) e
rows_passed [] (suc count) place n h = refl
rows_passed (row ∷ rows) (suc count) place n h =
    let l = lacks row (take count rows) n h in
    let e : place + 1 + count ≡ place + suc count = omega arith in
    rw (row_lacks row n l.first) (rows_passed rows count (place + 1) n l.later
    ∙ ap (λ (p : ℕ). place_in (drop count rows) p n) e)

-- ---- the records of a row

module _ (nested : NestedBytes) where
  last_own : (row : Row) (l : Option LastValue) (rs : List FieldRecord) → last_over row l (filter (has_record row) rs) ≡
      last_over row l rs
  last_own row l [] = refl
  last_own row l (r ∷ rs) = by_test (λ m. last_own row m rs) (field_in_row row r.number) refl
    where
      by_test : ((m : Option LastValue) → last_over row m (filter (has_record row) rs) ≡ last_over row m rs)
          → (o : Option (Kind × Bool)) → field_in_row row r.number ≡ o → last_over row l (cond (is_some o)
          (r ∷ filter (has_record row) rs) (filter (has_record row) rs)) ≡ last_over row (last_found l r o) rs
      by_test later None e = later l
      by_test later (Some f) e =
          ap (λ (o : Option (Kind × Bool)). last_over row (last_found l r o) (filter (has_record row) rs)) e
          ∙ later (last_found l r (Some f))

  each_own : (row : Row) (f : FieldRecord → List ℕ) → ((r : FieldRecord) → has_record row r ≡ false → f r ≡ [])
      → (rs : List FieldRecord) → flat_map f (filter (has_record row) rs) ≡ flat_map f rs
  each_own row f h [] = refl
  each_own row f h (r ∷ rs) = by_test (each_own row f h rs) (has_record row r) refl
    where
      by_test : flat_map f (filter (has_record row) rs) ≡ flat_map f rs → (b : Bool) → has_record row r ≡ b → flat_map
          f (cond b (r ∷ filter (has_record row) rs) (filter (has_record row) rs)) ≡ f r ++ flat_map f rs
      by_test later true t = ap (λ (xs : List ℕ). f r ++ xs) later
      by_test later false t = rw (h r t) later

  other_number : (b : Bool) (k : Kind) → is_some (cond {A = Option (Kind × Bool)} b (Some (k, true)) None) ≡ false → b ≡
      false
  other_number true k h = absurd cc
  other_number false k h = refl

  run_own : (n : ℕ) (k : Kind) (rs : List FieldRecord) → flat_map (run_record n k)
      (filter (has_record (Repeated n k)) rs) ≡ flat_map (run_record n k) rs
  run_own n k rs = each_own (Repeated n k) (run_record n k)
      (λ r h. let e : eqb r.number n ≡ false = other_number (eqb r.number n) k h in rw e refl) rs

  scalars_own : (n : ℕ) (k : Kind) (rs : List FieldRecord) → flat_map (scalar_element n k)
      (filter (has_record (Repeated n k)) rs) ≡ flat_map (scalar_element n k) rs
  scalars_own n k rs = each_own (Repeated n k) (scalar_element n k)
      (λ r h. let e : eqb r.number n ≡ false = other_number (eqb r.number n) k h in rw e refl) rs

  messages_own : (n s : ℕ) (rs : List FieldRecord) → flat_map (message_element nested n s)
      (filter (has_record (Repeated n (Message s))) rs) ≡ flat_map (message_element nested n s) rs
  messages_own n s rs = each_own (Repeated n (Message s)) (message_element nested n s)
      (λ r h. let e : eqb r.number n ≡ false = other_number (eqb r.number n) (Message s) h in rw e refl) rs

  repeated_own : (n : ℕ) (k : Kind) (rs : List FieldRecord) → repeated_record nested n k
      (filter (has_record (Repeated n k)) rs) ≡ repeated_record nested n k rs
  repeated_own n U32 rs = ap (λ (xs : List ℕ). content_record true n xs) (run_own n U32 rs)
  repeated_own n U64 rs = ap (λ (xs : List ℕ). content_record true n xs) (run_own n U64 rs)
  repeated_own n Boolean rs = ap (λ (xs : List ℕ). content_record true n xs) (run_own n Boolean rs)
  repeated_own n Enumeration rs = ap (λ (xs : List ℕ). content_record true n xs) (run_own n Enumeration rs)
  repeated_own n Text rs = scalars_own n Text rs
  repeated_own n ByteString rs = scalars_own n ByteString rs
  repeated_own n (Message s) rs = messages_own n s rs

  row_own : (row : Row) (rs : List FieldRecord) → row_record nested row (filter (has_record row) rs) ≡ row_record nested
      row rs
  row_own (Plain n k) rs = rw (last_own (Plain n k) None rs) refl
  row_own (Optional n k) rs = rw (last_own (Optional n k) None rs) refl
  row_own (Repeated n k) rs = repeated_own n k rs
  row_own (OneOf members) rs = rw (last_own (OneOf members) None rs) refl

  repeated_none : (n : ℕ) (k : Kind) → repeated_record nested n k [] ≡ []
  repeated_none n U32 = refl
  repeated_none n U64 = refl
  repeated_none n Boolean = refl
  repeated_none n Enumeration = refl
  repeated_none n Text = refl
  repeated_none n ByteString = refl
  repeated_none n (Message s) = refl

  pub row_none : (row : Row) → row_record nested row [] ≡ []
  row_none (Plain n k) = refl
  row_none (Optional n k) = refl
  row_none (Repeated n k) = repeated_none n k
  row_none (OneOf members) = refl

-- ---- the records at a place

place_above : (rows : List Row) (place n q : ℕ) → place_in rows place n ≡ Some q → place ≤ q
place_above [] place n q e = absurd cc
place_above (row ∷ rows) place n q e = by_test (place_above rows (place + 1) n q) (is_some (field_in_row row n)) e
  where
    by_test : (place_in rows (place + 1) n ≡ Some q → place + 1 ≤ q) → (b : Bool) → cond b (Some place)
        (place_in rows (place + 1) n) ≡ Some q → place ≤ q
    by_test later true g = let s : place ≡ q = cc in omega arith
    by_test later false g = let up = later g in omega (arith, up)

-- the records of the first row
first_own : (row : Row) (rows : List Row) (place : ℕ) (rs : List FieldRecord) → values_at place
    (records_found (row ∷ rows) place rs) ≡ filter (has_record row) rs
first_own row rows place [] = refl
first_own row rows place (r ∷ rs) = by_test (first_own row rows place rs) (has_record row r)
  where
    later_fs : List (Placed FieldRecord)
    later_fs = records_found (row ∷ rows) place rs

    skipped : (o : Option ℕ) → place_in rows (place + 1) r.number ≡ o → values_at place (placed_record o r ++ later_fs)
        ≡ values_at place later_fs
    skipped None e = refl
    skipped (Some q) e =
        let up = place_above rows (place + 1) r.number q e in
        rw (equal_more place q (omega (arith, up))) refl

    by_test : values_at place later_fs ≡ filter (has_record row) rs → (b : Bool) → values_at place (placed_record
        (cond b (Some place) (place_in rows (place + 1) r.number)) r ++ later_fs) ≡ cond b
        (r ∷ filter (has_record row) rs) (filter (has_record row) rs)
    by_test later true =
        rw (eq-eqb place place refl) (ap (λ (xs : List FieldRecord). r ∷ xs) later)
    by_test later false = skipped (place_in rows (place + 1) r.number) refl ∙ later

-- the records of the rows behind the first one
later_own : (row : Row) (rows : List Row) (place q : ℕ) (rs : List FieldRecord) → are_distinct
    (numbers row ++ all_numbers rows) ≡ true → place < q → values_at q (records_found (row ∷ rows) place rs) ≡
    values_at q (records_found rows (place + 1) rs)
later_own row rows place q [] d l = refl
later_own row rows place q (r ∷ rs) d l = by_test (later_own row rows place q rs d l) (has_record row r) refl
  where
    first_fs : List (Placed FieldRecord)
    first_fs = records_found (row ∷ rows) place rs

    later_fs : List (Placed FieldRecord)
    later_fs = records_found rows (place + 1) rs

    one_more : values_at q first_fs ≡ values_at q later_fs → (o : Option ℕ) → values_at q
        (placed_record o r ++ first_fs) ≡ values_at q (placed_record o r ++ later_fs)
    one_more later None = later
    one_more later (Some p) = both (eqb p q)
      where
        both : (b : Bool) → placed_values (cond b (record { place = p; value = r } ∷ at_place q first_fs)
            (at_place q first_fs)) ≡ placed_values (cond b (record { place = p; value = r } ∷ at_place q later_fs)
            (at_place q later_fs))
        both true = ap (λ (xs : List FieldRecord). r ∷ xs) later
        both false = later

    by_test : values_at q first_fs ≡ values_at q later_fs → (b : Bool) → has_record row r ≡ b → values_at q
        (placed_record (cond b (Some place) (place_in rows (place + 1) r.number)) r ++ first_fs) ≡ values_at q
        (placed_record (place_in rows (place + 1) r.number) r ++ later_fs)
    by_test later true t =
        rw (
          equal_less place q l,
          rows_lack rows (place + 1) r.number
              (distinct_other (numbers row) (all_numbers rows) r.number d (row_has row r.number t)),
        ) later
    by_test later false t = one_more later (place_in rows (place + 1) r.number)

-- ---- what is written

module _ (nested : NestedBytes) where
  places_agree : (rows : List Row) (place : ℕ) (fs gs : List (Placed FieldRecord)) → ((q : ℕ) → place ≤ q → values_at q
      fs ≡ values_at q gs) → places_record nested rows place fs ≡ places_record nested rows place gs
  places_agree [] place fs gs h = refl
  places_agree (row ∷ rows) place fs gs h = rw (h place (omega arith))
      (ap (λ (xs : List ℕ). row_record nested row (values_at place gs) ++ xs)
      (places_agree rows (place + 1) fs gs (λ q l. h q (omega arith))))

  places_are : (rows : List Row) (place : ℕ) (rs : List FieldRecord) → are_distinct (all_numbers rows) ≡ true
      → places_record nested rows place (records_found rows place rs) ≡ rows_record nested rows rs
  places_are [] place rs d = refl
  places_are (row ∷ rows) place rs d =
      let fs = records_found (row ∷ rows) place rs in
      ap (λ (xs : List FieldRecord). row_record nested row xs ++ places_record nested rows (place + 1) fs)
      (first_own row rows place rs)
      ∙ ap (λ (xs : List ℕ). xs ++ places_record nested rows (place + 1) fs) (row_own nested row rs)
      ∙ ap (λ (xs : List ℕ). row_record nested row rs ++ xs)
      (places_agree rows (place + 1) fs (records_found rows (place + 1) rs)
      (λ q l. later_own row rows place q rs d (omega arith))
      ∙ places_are rows (place + 1) rs (distinct_back (numbers row) (all_numbers rows) d))

-- ---- the records of the program

-- records at a place pass what all records pass
all_at : (test : FieldRecord → Bool) (rows : List Row) (place q : ℕ) (rs : List FieldRecord) → list_all test rs ≡
    true → list_all test (values_at q (records_found rows place rs)) ≡ true
all_at test rows place q [] h = refl
all_at test rows place q (r ∷ rs) h =
    let e = and_split (test r) (list_all test rs) h in
    by_place e.0 (all_at test rows place q rs e.1) (place_in rows place r.number)
  where
    later_fs : List (Placed FieldRecord)
    later_fs = records_found rows place rs

    by_place : test r ≡ true → list_all test (values_at q later_fs) ≡ true → (o : Option ℕ) → list_all test
        (values_at q (placed_record o r ++ later_fs)) ≡ true
    by_place first later None = later
    by_place first later (Some p) = by_test (eqb p q)
      where
        by_test : (b : Bool) → list_all test (placed_values (cond b (record { place = p; value = r } ∷ at_place q
            later_fs) (at_place q later_fs))) ≡ true
        by_test true = rw first later
        by_test false = later

module _ (nested : NestedBytes) where
  -- what is written of the records that were found, in the order of their rows
  pub sorted_are : (rows : List Row) (rs : List FieldRecord) (ps : List (Placed Record)) → are_distinct
      (all_numbers rows) ≡ true → AreInOrder field_record_of (records_found rows 0 rs) ps → places_record nested rows 0
      (found_views ps) ≡ rows_record nested rows rs
  sorted_are rows rs ps d o =
      places_agree nested rows 0 (found_views ps) (records_found rows 0 rs)
      (λ q l. sym (views_at field_record_of q ps) ∙ o.same q)
      ∙ places_are nested rows 0 rs d

-- records in the order of their rows pass what all records pass
pub sorted_pass : (test : FieldRecord → Bool) (rows : List Row) (rs : List FieldRecord) (ps : List (Placed Record))
    → AreInOrder field_record_of (records_found rows 0 rs) ps → list_all test rs ≡ true → (place : ℕ) → list_all test
    (values_at place (found_views ps)) ≡ true
sorted_pass test rows rs ps o h place =
    ap (list_all test) (sym (views_at field_record_of place ps) ∙ o.same place) ∙ all_at test rows 0 place rs h

-- the records of the row at a place
pub own_is : (place start : ℕ) (own ps : List (Placed Record)) → own ≡ front_at place (drop start ps) → rise_from place
    (drop start ps) ≡ true → at_place place (drop start ps) ≡ at_place place ps → found_records own ≡ values_at place
    (found_views ps)
own_is place start own ps e rising same =
    front_views field_record_of place start own ps e rising same ∙ views_at field_record_of place ps
