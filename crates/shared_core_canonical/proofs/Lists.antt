-- What is written of the records of a repeated field.
use Rattle.std.proofs.Common.{◌≡◌, ℕ, zero, suc, ◌+◌, ◌/◌, ◌%◌, ◌<◌, List, [], ◌∷◌, ◌++◌, length, Bool, true}
use Rattle.std.proofs.Common.{false, cond}
use Rattle.std.proofs.Common.{◌||◌, eqb, Option, Some, None, refl, sym, ap, subst, ◌∙◌, append_assoc, arith}
use Rattle.std.specs.Prelude.{flat_map}
use Rattle.std.specs.List.{list_all}
use Rattle.std.proofs.lemmas.Bool.{ne_eqb}
use Rattle.std.proofs.Math.Dec.{ltb}
use Rattle.shared_core_wire.specs.Encoding.{shortest_varint, shortest_within, key_bytes}
use Rattle.shared_core_wire.specs.Grammar.{RecordValue, Varint, Fixed64, Length, Group, Fixed32, FieldRecord, content}
use Rattle.shared_core_wire.specs.Reader.{packed_numbers}
use Rattle.shared_core_wire.specs.Schema.{Kind, Table, U32, U64, Boolean, Enumeration, Text, ByteString, Message}
use Rattle.shared_core_wire.specs.Schema.{Repeated}
use Rattle.shared_core_wire.specs.Value.{Part, Parts, ◌+++◌, one_part}
use Rattle.shared_core_wire.specs.Acceptance.{accepts_number, accepts_numbers, accepts_value, accepts_element}
use Rattle.shared_core_wire.specs.Acceptance.{row_allows, accepts_message}
use Rattle.shared_core_wire.specs.Overlay.{values, own_records, number_part, scalar_part, number_parts, packed_elements}
use Rattle.shared_core_wire.specs.Overlay.{number_elements, elements_of, all_elements, message_overlay}
use Rattle.shared_core_wire.specs.Canonical.{number_bytes, run_values, packed_values, part_values, element_values}
use Rattle.shared_core_wire.specs.WrittenRecords.{content_record}
use Rattle.shared_core_wire.proofs.ReadBack.{not_true}
use Rattle.shared_core_wire.proofs.Runs.{and_split}
use Rattle.shared_core_codec.specs.RowEncoding.{unpacked}
use Rattle.shared_core_canonical.specs.Rows.{nested_bytes, scalar_record, scalar_element, message_element}
use Rattle.shared_core_canonical.specs.Rows.{rewritten_number, rewritten_varints, found_varints, run_part, run_record}
use Rattle.shared_core_canonical.proofs.RowsWritten.{bytes_of, bytes_join, content_bytes_are, is_scalar, scalar_is}
use Rattle.shared_core_canonical.proofs.RowsWritten.{number_values, nested_written}

-- ---- elements that are written one by one

scalar_elements : (table : Table) (left : ℕ) (k : Kind) (w : RecordValue) → is_scalar k ≡ true → unpacked k ≡ true
    → elements_of table (message_overlay table left) k w ≡ one_part (scalar_part k w)
scalar_elements table left U32 w s u = absurd cc
scalar_elements table left U64 w s u = absurd cc
scalar_elements table left Boolean w s u = absurd cc
scalar_elements table left Enumeration w s u = absurd cc
scalar_elements table left Text w s u = refl
scalar_elements table left ByteString w s u = refl
scalar_elements table left (Message t) w s u = absurd cc

scalar_accepted : (table : Table) (left : ℕ) (k : Kind) (w : RecordValue) → unpacked k ≡ true → accepts_element
    (accepts_message table left) k w ≡ true → accepts_value (accepts_message table left) k w ≡ true
scalar_accepted table left k w u h = ap (λ (b : Bool). cond b (accepts_numbers w) (accepts_value
    (accepts_message table left) k w)) (sym (not_true _ u)) ∙ h

-- the bytes of one element and of those after it
one_element : (table : Table) (n : ℕ) (k : Kind) (p : Part) (es qs : Parts) (b later : List ℕ) → es ≡ one_part p
    → bytes_of n (part_values table p k) ≡ b → bytes_of n (element_values table qs k) ≡ later → bytes_of n
    (element_values table (es +++ qs) k) ≡ b ++ later
unfolding element_values
one_element table n k p es qs b later e h l =
    ap (λ (ps : Parts). bytes_of n (element_values table (ps +++ qs) k)) e
    ∙ bytes_join n (part_values table p k) (element_values table qs k)
    ∙ ap (λ (xs : List ℕ). xs ++ bytes_of n (element_values table qs k)) h
    ∙ ap (λ (xs : List ℕ). b ++ xs) l

module _ (table : Table) (left : ℕ) (n : ℕ) where
  pub scalars_are : (k : Kind) (rs : List FieldRecord) → is_scalar k ≡ true → unpacked k ≡ true → list_all
      (λ r. row_allows (accepts_message table left) r (Repeated n k)) rs ≡ true → bytes_of n (element_values table
      (all_elements table (message_overlay table left) k (values (own_records (Repeated n k) rs))) k) ≡ flat_map
      (scalar_element n k) rs
  unfolding element_values bytes_of
  scalars_are k [] s u h = refl
  scalars_are k (r ∷ rs) s u h = by_test (eqb r.number n)
      (and_split (row_allows (accepts_message table left) r (Repeated n k)) _ h).0
      (scalars_are k rs s u (and_split (row_allows (accepts_message table left) r (Repeated n k)) _ h).1)
    where
      by_test : (b : Bool) → cond (b || false) (accepts_element (accepts_message table left) k r.value) true ≡ true
          → bytes_of n (element_values table (all_elements table (message_overlay table left) k (values
          (own_records (Repeated n k) rs))) k) ≡ flat_map (scalar_element n k) rs → bytes_of n (element_values table
          (all_elements table (message_overlay table left) k (values (cond (b || false)
          (r ∷ own_records (Repeated n k) rs) (own_records (Repeated n k) rs)))) k) ≡ cond b
          (scalar_record false n k r.value) [] ++ flat_map (scalar_element n k) rs
      by_test true a later =
          one_element table n k (scalar_part k r.value) (elements_of table (message_overlay table left) k r.value)
          (all_elements table (message_overlay table left) k (values (own_records (Repeated n k) rs)))
          (scalar_record false n k r.value) (flat_map (scalar_element n k) rs) (scalar_elements table left k r.value s
          u)
          (scalar_is table left n k r.value s (scalar_accepted table left k r.value u a)) later
      by_test false a later = later

  message_one : (s : ℕ) (w : RecordValue) (qs : Parts) (later : List ℕ) → accepts_value (accepts_message table left)
      (Message s) w ≡ true → bytes_of n (element_values table qs (Message s)) ≡ later → bytes_of n (element_values table
      (elements_of table (message_overlay table left) (Message s) w +++ qs) (Message s)) ≡ content_record false n
      (nested_bytes table left s (content w)) ++ later
  message_one s (Varint v) qs later h l = absurd cc
  message_one s (Fixed64 b) qs later h l = absurd cc
  message_one s (Length b) qs later h l =
      one_element table n (Message s) _ (elements_of table (message_overlay table left) (Message s) (Length b)) qs
      (content_record false n (nested_bytes table left s b)) later refl
      (ap (bytes_of n) (nested_written table left s b) ∙ content_bytes_are n (nested_bytes table left s b)) l
  message_one s (Group b) qs later h l = absurd cc
  message_one s (Fixed32 b) qs later h l = absurd cc

  pub messages_are : (s : ℕ) (rs : List FieldRecord) → list_all (λ r. row_allows (accepts_message table left) r
      (Repeated n (Message s))) rs ≡ true → bytes_of n (element_values table (all_elements table
      (message_overlay table left) (Message s) (values (own_records (Repeated n (Message s)) rs))) (Message s)) ≡
      flat_map (message_element (nested_bytes table left) n s) rs
  unfolding element_values bytes_of
  messages_are s [] h = refl
  messages_are s (r ∷ rs) h = by_test (eqb r.number n)
      (and_split (row_allows (accepts_message table left) r (Repeated n (Message s))) _ h).0
      (messages_are s rs (and_split (row_allows (accepts_message table left) r (Repeated n (Message s))) _ h).1)
    where
      by_test : (b : Bool) → cond (b || false) (accepts_element (accepts_message table left) (Message s) r.value) true ≡
          true → bytes_of n (element_values table (all_elements table (message_overlay table left) (Message s) (values
          (own_records (Repeated n (Message s)) rs))) (Message s)) ≡ flat_map
          (message_element (nested_bytes table left) n s) rs → bytes_of n (element_values table (all_elements table
          (message_overlay table left) (Message s) (values (cond (b || false) (r ∷ own_records (Repeated n (Message s))
          rs)
          (own_records (Repeated n (Message s)) rs)))) (Message s)) ≡ cond b (content_record false n
          (nested_bytes table left s (content r.value))) [] ++ flat_map (message_element (nested_bytes table left) n s)
          rs
      by_test true a later = message_one s r.value _ _ a later
      by_test false a later = later

-- ---- packed elements

-- the values are numbers
abbrev AreNumbers : List RecordValue → Type 0
AreNumbers [] = Unit {0}
AreNumbers (Varint v ∷ ws) = AreNumbers ws
AreNumbers (Fixed64 b ∷ ws) = ⊥
AreNumbers (Length b ∷ ws) = ⊥
AreNumbers (Group b ∷ ws) = ⊥
AreNumbers (Fixed32 b ∷ ws) = ⊥

module _ (table : Table) (left : ℕ) (k : Kind) (a : accepts_number k ≡ true) where
  one_value : (v : ℕ) → part_values table (number_part k v) k ≡ Varint (rewritten_number k v) ∷ []
  one_value v = number_values table k v a

  number_parts_values : (ns : List ℕ) (qs : Parts) → (flat_map number_bytes (element_values table
      (number_parts k ns +++ qs) k) ≡ rewritten_varints k ns ++ flat_map number_bytes (element_values table qs k))
  unfolding element_values
  number_parts_values [] qs = refl
  number_parts_values (m ∷ ns) qs =
      ap (λ (ws : List RecordValue). flat_map number_bytes (ws ++ element_values table (number_parts k ns +++ qs) k))
      (one_value m)
      ∙ ap (λ (xs : List ℕ). shortest_varint (rewritten_number k m) ++ xs) (number_parts_values ns qs)
      ∙ sym (append_assoc (shortest_varint (rewritten_number k m)) (rewritten_varints k ns)
      (flat_map number_bytes (element_values table qs k)))

  number_parts_are : (ns : List ℕ) (qs : Parts) → AreNumbers (element_values table qs k) → AreNumbers
      (element_values table (number_parts k ns +++ qs) k)
  unfolding element_values
  number_parts_are [] qs h = h
  number_parts_are (m ∷ ns) qs h =
      subst (λ (ws : List RecordValue). AreNumbers (ws ++ element_values table (number_parts k ns +++ qs) k))
      (sym (one_value m)) (number_parts_are ns qs h)

  found_values : (o : Option (List ℕ)) (qs : Parts) → (flat_map number_bytes
      (element_values table (packed_elements k o +++ qs) k) ≡ found_varints k o ++ flat_map number_bytes
      (element_values table qs k))
  found_values None qs = refl
  found_values (Some ns) qs = number_parts_values ns qs

  found_are : (o : Option (List ℕ)) (qs : Parts) → AreNumbers (element_values table qs k) → AreNumbers
      (element_values table (packed_elements k o +++ qs) k)
  found_are None qs h = h
  found_are (Some ns) qs h = number_parts_are ns qs h

  value_run : (w : RecordValue) (qs : Parts) → flat_map number_bytes (element_values table (number_elements k w +++ qs)
      k) ≡ run_part k w ++ flat_map number_bytes (element_values table qs k)
  unfolding element_values
  value_run (Varint v) qs = ap (λ (ws : List RecordValue). flat_map number_bytes (ws ++ element_values table qs k))
      (one_value v)
  value_run (Fixed64 b) qs = refl
  value_run (Length b) qs = found_values (packed_numbers b) qs
  value_run (Group b) qs = refl
  value_run (Fixed32 b) qs = refl

  value_are : (w : RecordValue) (qs : Parts) → AreNumbers (element_values table qs k) → AreNumbers
      (element_values table (number_elements k w +++ qs) k)
  unfolding element_values
  value_are (Varint v) qs h = subst (λ (ws : List RecordValue). AreNumbers (ws ++ element_values table qs k))
      (sym (one_value v)) h
  value_are (Fixed64 b) qs h = h
  value_are (Length b) qs h = found_are (packed_numbers b) qs h
  value_are (Group b) qs h = h
  value_are (Fixed32 b) qs h = h

  -- the elements of an occurrence
  added : (w : RecordValue) → elements_of table (message_overlay table left) k w ≡ number_elements k w
  added w = rw a refl

  one_run : (w : RecordValue) (qs : Parts) → flat_map number_bytes (element_values table (elements_of table
      (message_overlay table left) k w +++ qs) k) ≡ run_part k w ++ flat_map number_bytes (element_values table qs k)
  one_run w qs = ap (λ (ps : Parts). flat_map number_bytes (element_values table (ps +++ qs) k)) (added w) ∙ value_run w
      qs

  one_are : (w : RecordValue) (qs : Parts) → AreNumbers (element_values table qs k) → AreNumbers
      (element_values table (elements_of table (message_overlay table left) k w +++ qs) k)
  one_are w qs h = subst (λ (ps : Parts). AreNumbers (element_values table (ps +++ qs) k)) (sym (added w))
      (value_are w qs h)

  runs_are : (ws : List RecordValue) → AreNumbers (element_values table
      (all_elements table (message_overlay table left) k ws) k)
  unfolding element_values
  runs_are [] = tt
  runs_are (w ∷ ws) = one_are w (all_elements table (message_overlay table left) k ws) (runs_are ws)

  runs_written : (n : ℕ) (rs : List FieldRecord) → flat_map number_bytes (element_values table (all_elements table
      (message_overlay table left) k (values (own_records (Repeated n k) rs))) k) ≡ flat_map (run_record n k) rs
  unfolding element_values
  runs_written n [] = refl
  runs_written n (r ∷ rs) = by_test (eqb r.number n) (runs_written n rs)
    where
      by_test : (b : Bool) → flat_map number_bytes (element_values table (all_elements table (message_overlay table
          left) k (values (own_records (Repeated n k) rs))) k) ≡ flat_map (run_record n k) rs → flat_map
          number_bytes
          (element_values table (all_elements table (message_overlay table left) k (values (cond (b || false)
          (r ∷ own_records (Repeated n k) rs) (own_records (Repeated n k) rs)))) k) ≡ cond b (run_part k r.value) []
          ++ flat_map (run_record n k) rs
      by_test true later =
          one_run r.value (all_elements table (message_overlay table left) k
          (values (own_records (Repeated n k) rs))) ∙ ap (λ (xs : List ℕ). run_part k r.value ++ xs) later
      by_test false later = later

some_byte : (most n : ℕ) (xs : List ℕ) → 0 < length (shortest_within most n ++ xs)
unfolding shortest_within
some_byte zero n xs = omega arith
some_byte (suc most) n xs = by_test (ltb n 128)
  where
    by_test : (b : Bool) → 0 < length (cond b (n ∷ []) ((n % 128 + 128) ∷ shortest_within most (n / 128)) ++ xs)
    by_test true = omega arith
    by_test false = omega arith

first_byte : (n : ℕ) (xs : List ℕ) → 0 < length (shortest_varint n ++ xs)
unfolding shortest_varint
first_byte n xs = some_byte n n xs

packed_is : (n : ℕ) (ws : List RecordValue) → AreNumbers ws → bytes_of n (run_values ws) ≡ content_record true n
    (flat_map number_bytes ws)
unfolding bytes_of
packed_is n [] h = refl
packed_is n (Varint v ∷ ws) h =
    let bytes = shortest_varint v ++ flat_map number_bytes ws in
    let some : 0 < length bytes = first_byte v (flat_map number_bytes ws) in
    let none : eqb (length bytes) 0 ≡ false = ne_eqb (length bytes) 0 (λ e. omega (arith, e, some)) in
    content_bytes_are n bytes
    ∙ sym (ap (λ (b : Bool). cond b [] (key_bytes n 2 ++ (shortest_varint (length bytes) ++ bytes))) none)
packed_is n (Fixed64 b ∷ ws) h = absurd h
packed_is n (Length b ∷ ws) h = absurd h
packed_is n (Group b ∷ ws) h = absurd h
packed_is n (Fixed32 b ∷ ws) h = absurd h

pub run_is : (table : Table) (left n : ℕ) (k : Kind) (rs : List FieldRecord) → accepts_number k ≡ true → bytes_of n
    (packed_values k (element_values table (all_elements table (message_overlay table left) k
    (values (own_records (Repeated n k) rs))) k)) ≡ content_record true n (flat_map (run_record n k) rs)
run_is table left n k rs a =
    ap (λ (b : Bool). bytes_of n (cond b (run_values (element_values table
    (all_elements table (message_overlay table left) k (values (own_records (Repeated n k) rs))) k))
    (element_values table (all_elements table (message_overlay table left) k
    (values (own_records (Repeated n k) rs))) k))) a
    ∙ packed_is n _ (runs_are table left k a (values (own_records (Repeated n k) rs)))
    ∙ ap (content_record true n) (runs_written table left k a n rs)
