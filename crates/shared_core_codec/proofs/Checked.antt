-- Checking the records of a payload one after the other.
use Rattle.std.proofs.Common.{◌≡◌, ℕ, zero, suc, ◌+◌, ◌-◌, ◌<◌, ◌≤◌, List, [], ◌∷◌, length, map, get_or, Bool, true}
use Rattle.std.proofs.Common.{false}
use Rattle.std.proofs.Common.{cond, ◌&&◌, ◌||◌, Option, Some, None, refl, sym, ap, ◌∙◌, eqb, arith}
use Rattle.std.specs.List.{list_all}
use Rattle.std.specs.Option.{option_or, is_some}
use Rattle.std.proofs.lemmas.List.{length-append}
use Rattle.shared_core_wire.specs.Grammar.{FieldRecord, RecordValue}
use Rattle.shared_core_wire.specs.Reader.{◌>>=◌, sequence_past, varint_at, packed_numbers, record_at, record_list}
use Rattle.shared_core_wire.specs.ReadRecords.{records_past, read_records}
use Rattle.shared_core_wire.specs.Schema.{Table, Kind, Row, Plain, Optional, Repeated, OneOf, table_of, numbers}
use Rattle.shared_core_wire.specs.Schema.{includes}
use Rattle.shared_core_wire.specs.Schema.{member_kind, are_distinct, all_numbers}
use Rattle.shared_core_wire.specs.Acceptance.{NestedAcceptance, some_passes, accepts_value, accepts_element}
use Rattle.shared_core_wire.specs.Acceptance.{accepts_in_row, accepts_record, accepts_message, accepts_payload}
use Rattle.shared_core_wire.proofs.Runs.{and_split}
use Rattle.shared_core_wire.proofs.ReadBack.{or_split, includes-append, distinct_back, distinct_other}
use Rattle.shared_core_wire.proofs.Readers.{varint_pos, varint_reads}
use Rattle.shared_core_wire.proofs.Sequences.{all_more, all_nil, all_stop}
use Rattle.shared_core_codec.specs.Table.{schemas, schema_count}
use Rattle.shared_core_codec.specs.Tables.{IsTable}
use Rattle.shared_core_codec.specs.Checking.{accepts_found, all_read}
use Rattle.shared_core_codec.specs.ProgramRows.{if_numbered, member_numbered, field_in_row, field_numbered}

with_true : (b c : Bool) → c ≡ true → (b && c) ≡ b
with_true true c h = h
with_true false c h = refl

-- ---- all records of a payload

passes_next : (test : FieldRecord → Bool) (b c : Bool) (r : FieldRecord) (o : Option (List FieldRecord)) → test r ≡ b →
    c ≡ some_passes (list_all test) o
    → cond b c false ≡ some_passes (list_all test) (o >>= λ xs. Some (r ∷ xs))
passes_next test true c r None t e = e
passes_next test false c r None t e = refl
passes_next test true c r (Some rs) t e = rw t e
passes_next test false c r (Some rs) t e = rw t refl

module _ (one : List ℕ → Option (FieldRecord × List ℕ)) (test : FieldRecord → Bool) (end : ℕ) where
  read_first : (b : ℕ) (bs : List ℕ) (found : Option (FieldRecord × List ℕ)) → one (b ∷ bs) ≡ found
      → ((past : ℕ) → all_read test (records_past one end past bs) ≡ some_passes (list_all test)
      (sequence_past one past bs))
      → all_read test (records_past one end 0 (b ∷ bs)) ≡ some_passes (list_all test) (sequence_past one 0 (b ∷ bs))
  unfolding records_past sequence_past
  read_first b bs None e later = rw (e, records_past, sequence_past) refl
  read_first b bs (Some r) e later = rw (e, records_past, sequence_past)
      (passes_next test (test r.0) _ r.0 _ refl (later (length bs - length r.1)))

  pub read_past : (bytes : List ℕ) (past : ℕ) → all_read test (records_past one end past bytes) ≡ some_passes
      (list_all test) (sequence_past one past bytes)
  unfolding records_past sequence_past
  read_past [] past = refl
  read_past (b ∷ bs) (suc past) = read_past bs past
  read_past (b ∷ bs) zero = read_first b bs (one (b ∷ bs)) refl (read_past bs)

pub all_checked : (table : Table) (left s : ℕ) (bytes : List ℕ) → all_read (accepts_record (accepts_message table left)
    (table s))
    (read_records left bytes) ≡ accepts_payload table left s bytes
unfolding read_records record_list
all_checked table left s bytes = read_past (record_at left) (accepts_record (accepts_message table left) (table s))
    (length bytes) bytes 0

-- ---- one level down

pub message_zero_in : (table : Table) (s : ℕ) (bytes : List ℕ) → accepts_message table 0 s bytes ≡ false
unfolding accepts_message
message_zero_in table s bytes = refl

pub message_below_in : (table : Table) (below left s : ℕ) (bytes : List ℕ) → below + 1 ≡ left → accepts_message table
    left
    s bytes ≡ accepts_payload table below s bytes
unfolding accepts_message
message_below_in table below zero s bytes h = absurd (omega (arith, h))
message_below_in table below (suc left) s bytes h = let e : left ≡ below = omega (arith, h) in ap
    (λ l. accepts_payload table l s bytes) e

-- ---- the field of a record

module _ (nested : NestedAcceptance) (w : RecordValue) (n : ℕ) where
  first_finds : (m : ℕ) (k : Kind) (o : Option (Kind × Bool)) → includes (m ∷ []) n ≡ true → accepts_found nested
      (option_or (if_numbered (m, k) false n) o) w ≡ accepts_value nested k w
  first_finds m k o h = by_test (eqb n m) h
    where
      by_test : (b : Bool) → (b || false) ≡ true → accepts_found nested (option_or (cond b (Some (k, false)) None) o) w
          ≡ accepts_value nested k w
      by_test true g = refl
      by_test false g = absurd cc

  repeated_finds : (m : ℕ) (k : Kind) (o : Option (Kind × Bool)) → includes (m ∷ []) n ≡ true → accepts_found nested
      (option_or (if_numbered (m, k) true n) o) w ≡ accepts_element nested k w
  repeated_finds m k o h = by_test (eqb n m) h
    where
      by_test : (b : Bool) → (b || false) ≡ true → accepts_found nested (option_or (cond b (Some (k, true)) None) o) w ≡
          accepts_element nested k w
      by_test true g = refl
      by_test false g = absurd cc

  member_finds : (members : List (ℕ × Kind)) (o : Option (Kind × Bool)) → includes (numbers (OneOf members)) n ≡ true →
      accepts_found nested (option_or (member_numbered members n) o) w ≡ accepts_value nested (member_kind members n) w
  member_finds [] o h = absurd cc
  member_finds (m ∷ members) o h = by_test (eqb n m.0) (member_finds members o) h
    where
      by_test : (b : Bool) → (includes (numbers (OneOf members)) n ≡ true → accepts_found nested
          (option_or (member_numbered members n) o) w ≡ accepts_value nested (member_kind members n) w)
          → (b || includes (numbers (OneOf members)) n) ≡ true
          → accepts_found nested (option_or (option_or (cond b (Some (m.1, false)) None) (member_numbered members n)) o)
          w ≡ accepts_value nested (cond b m.1 (member_kind members n)) w
      by_test true later g = refl
      by_test false later g = later g

lacks_first : (m n : ℕ) (x : Kind × Bool) (o : Option (Kind × Bool)) → includes (m ∷ []) n ≡ false → option_or
    (cond (eqb n m) (Some x) None) o ≡ o
lacks_first m n x o h = rw (or_split (eqb n m) false h).0 refl

lacks_member : (members : List (ℕ × Kind)) (n : ℕ) (o : Option (Kind × Bool)) → includes (numbers (OneOf members)) n ≡
    false → option_or (member_numbered members n) o ≡ o
lacks_member [] n o h = refl
lacks_member (m ∷ members) n o h = let e = or_split (eqb n m.0) (includes (numbers (OneOf members)) n) h in rw e.0
    (lacks_member members n o e.1)

-- a row without the number finds nothing
row_lacks : (row : Row) (n : ℕ) (o : Option (Kind × Bool)) → includes (numbers row) n ≡ false → option_or
    (field_in_row row n) o ≡ o
row_lacks (Plain m k) n o h = lacks_first m n (k, false) o h
row_lacks (Optional m k) n o h = lacks_first m n (k, false) o h
row_lacks (Repeated m k) n o h = lacks_first m n (k, true) o h
row_lacks (OneOf members) n o h = lacks_member members n o h

module _ (nested : NestedAcceptance) (r : FieldRecord) where
  -- a row with the number finds the field that it accepts the record by
  row_finds : (row : Row) (o : Option (Kind × Bool)) → includes (numbers row) r.number ≡ true → accepts_found nested
      (option_or (field_in_row row r.number) o) r.value ≡ accepts_in_row nested row r
  row_finds (Plain m k) o h = first_finds nested r.value r.number m k o h
  row_finds (Optional m k) o h = first_finds nested r.value r.number m k o h
  row_finds (Repeated m k) o h = repeated_finds nested r.value r.number m k o h
  row_finds (OneOf members) o h = member_finds nested r.value r.number members o h

  others_allow : (rows : List Row) → includes (all_numbers rows) r.number ≡ false → accepts_record nested rows r ≡ true
  others_allow [] h = refl
  others_allow (row ∷ rows) h =
      let e = or_split (includes (numbers row) r.number) (includes (all_numbers rows) r.number)
      (sym (includes-append (numbers row) (all_numbers rows) r.number) ∙ h) in
      rw e.0 (others_allow rows e.1)

  pub field_accepts : (rows : List Row) → are_distinct (all_numbers rows) ≡ true → accepts_found nested
      (field_numbered rows r.number) r.value ≡ accepts_record nested rows r
  field_accepts [] d = refl
  field_accepts (row ∷ rows) d = by_test (includes (numbers row) r.number) refl
      (field_accepts rows (distinct_back (numbers row) (all_numbers rows) d))
    where
      by_test : (b : Bool) → includes (numbers row) r.number ≡ b → accepts_found nested (field_numbered rows r.number)
          r.value ≡ accepts_record nested rows r
          → accepts_found nested (option_or (field_in_row row r.number) (field_numbered rows r.number)) r.value ≡
          (cond b (accepts_in_row nested row r) true && accepts_record nested rows r)
      by_test true e later =
          row_finds row (field_numbered rows r.number) e
          ∙ sym (with_true (accepts_in_row nested row r) (accepts_record nested rows r)
          (others_allow rows (distinct_other (numbers row) (all_numbers rows) r.number d e)))
      by_test false e later = ap (λ (o : Option (Kind × Bool)). accepts_found nested o r.value)
          (row_lacks row r.number (field_numbered rows r.number) e) ∙ later

-- ---- a packed run

some_more : (n : ℕ) (o : Option (List ℕ)) → is_some (o >>= λ xs. Some (n ∷ xs)) ≡ is_some o
some_more n None = refl
some_more n (Some xs) = refl

pub record RunTurn (bytes rest : List ℕ) : Type 0 where
  pub shorter : length rest < length bytes
  pub same : is_some (packed_numbers bytes) ≡ is_some (packed_numbers rest)

pub run_turn : (bytes : List ℕ) (n : ℕ) (rest : List ℕ) → varint_at bytes ≡ Some (n, rest) → RunTurn bytes rest
unfolding packed_numbers
run_turn bytes n rest e =
    let f = varint_reads bytes (n, rest) e in
    let long = varint_pos f.text n f.is in
    record {
      shorter = omega (arith, ap length f.parts, length-append f.text rest);
      same = rw (all_more varint_at bytes f.text rest n e f.parts long) (some_more n (sequence_past varint_at 0 rest));
    }

pub run_stop : (bytes : List ℕ) → 0 < length bytes → varint_at bytes ≡ None → is_some (packed_numbers bytes) ≡ false
unfolding packed_numbers
run_stop bytes h e = rw (all_stop varint_at bytes h e) refl

pub run_end : (bytes : List ℕ) → bytes ≡ [] → is_some (packed_numbers bytes) ≡ true
unfolding packed_numbers
run_end bytes e = rw (e, all_nil varint_at) refl

-- ---- the rows of the program

pub at_index : {A : Type 0} (view : A → List Row) (xs : List A) (s : ℕ) (d : A) → s < length xs → view (get_or xs s d) ≡
    table_of (map view xs) s
at_index view [] s d h = absurd (omega arith)
at_index view (x ∷ xs) zero d h = refl
at_index view (x ∷ xs) (suc s) d h = at_index view xs s d (omega arith)

pub past_end : {A : Type 0} (view : A → List Row) (xs : List A) (s : ℕ) → length xs ≤ s → [] ≡ table_of (map view xs) s
past_end view [] s h = refl
past_end view (x ∷ xs) zero h = absurd (omega arith)
past_end view (x ∷ xs) (suc s) h = past_end view xs s (omega arith)

map_len : {A B : Type 0} (view : A → B) (xs : List A) → length (map view xs) ≡ length xs
map_len view [] = refl
map_len view (x ∷ xs) = omega (arith, map_len view xs)

pub schema_count_is : {A : Type 0} (view : A → List Row) (xs : List A) → map view xs ≡ schemas → length xs ≡
    schema_count
schema_count_is view xs e = sym (map_len view xs) ∙ ap length e

pub distinct_rows : (table : Table) → IsTable table → (s : ℕ) (rows : List Row) → rows ≡ table s → are_distinct
    (all_numbers rows) ≡ true
distinct_rows table valid s rows e = ap (λ (rs : List Row). are_distinct (all_numbers rs)) e ∙
    (and_split _ _ (and_split _ _ (valid s)).0).1
