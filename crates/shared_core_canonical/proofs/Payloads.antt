-- What is written of the records of a payload, row by row, is the canonical payload of what it means.
use Rattle.std.proofs.Common.{◌≡◌, ℕ, zero, suc, List, [], ◌∷◌, ◌++◌, Bool, true, false, cond, ◌||◌, eqb, Option}
use Rattle.std.proofs.Common.{Some, None}
use Rattle.std.proofs.Common.{Result, Ok, Err, refl, sym, ap, subst, ◌∙◌, ◌+◌, arith}
use Rattle.std.specs.Prelude.{IfOk, Vec}
use Rattle.std.specs.declared.alloc.Global.{Global}
use Rattle.std.specs.List.{list_all}
use Rattle.std.proofs.lemmas.Bool.{eqb-true}
use Rattle.std.proofs.lemmas.List.Concat.{flat_map-append}
use Rattle.shared_core_wire.specs.Encoding.{record_bytes, record_list_bytes}
use Rattle.shared_core_wire.specs.Grammar.{FieldRecord}
use Rattle.shared_core_wire.specs.Schema.{Kind, Row, Table, U32, U64, Boolean, Enumeration, Text, ByteString, Message}
use Rattle.shared_core_wire.specs.Schema.{Plain, Optional, Repeated, OneOf, member_kind}
use Rattle.shared_core_wire.specs.Value.{Part, Absent, Elements, nil, empty_part, empty_value}
use Rattle.shared_core_wire.specs.Value.{default_of}
use Rattle.shared_core_wire.specs.Acceptance.{row_allows, accepts_message, accepts_record, accepts_value}
use Rattle.shared_core_wire.specs.Acceptance.{accepts_number, accepts_payload}
use Rattle.shared_core_wire.specs.Overlay.{last, values, own_records, all_numbered, last_run}
use Rattle.shared_core_wire.specs.Overlay.{singular_over}
use Rattle.shared_core_wire.specs.Overlay.{all_elements, member_at, oneof_over, row_over, rows_over, message_overlay}
use Rattle.shared_core_wire.specs.Overlay.{meaning, or_empty, payload_records, joined_contents, repeated_over}
use Rattle.shared_core_wire.specs.Canonical.{kind_of, packed_values, row_records, part_values}
use Rattle.shared_core_wire.specs.Canonical.{element_values}
use Rattle.shared_core_wire.specs.Canonical.{message_records, canonical_payload}
use Rattle.shared_core_wire.proofs.Merging.{accepts_payload-append, repeated_over_is}
use Rattle.shared_core_wire.proofs.Runs.{last_run_whole}
use Rattle.shared_core_codec.proofs.Checked.{all_checked}
use Rattle.shared_core_canonical.specs.Rows.{records_read, nested_bytes, single_record}
use Rattle.shared_core_canonical.specs.Rows.{row_record}
use Rattle.shared_core_canonical.specs.Rows.{rows_record, repeated_record, last_over, LastValue, run_allows}
use Rattle.shared_core_canonical.specs.Rows.{message_allows}
use Rattle.shared_core_canonical.proofs.Readings.{AllPass, all_pass, weaker}
use Rattle.shared_core_canonical.proofs.Allowed.{AreGood, member_found, last_good, first_allowed}
use Rattle.shared_core_canonical.proofs.Allowed.{later_allowed, run_allowed, message_allowed}
use Rattle.shared_core_canonical.proofs.Lasts.{IsLast, AreLast, last_of_own, run_ends, own_numbered}
use Rattle.shared_core_canonical.proofs.RowsWritten.{bytes_of, IsRunOf, optional_written, plain_written, plain_held}
use Rattle.shared_core_canonical.proofs.Lists.{scalars_are, messages_are, run_is}

-- ---- rows that are not repeated

-- the field of a row of one number
record IsField (n : ℕ) (k : Kind) (l : LastValue) : Type 0 where
  number : l.number ≡ n
  kind : k ≡ l.kind

kind_found : Kind → Option (Kind × Bool) → Kind
kind_found k None = k
kind_found k (Some f) = f.0

one_field : (n : ℕ) (k : Kind) (l : LastValue) (repeated : Bool) (b : Bool) → eqb l.number n ≡ b → cond
    {A = Option (Kind × Bool)} b (Some (k, false)) None ≡ Some (l.kind, repeated) → IsField n k l
unfolding kind_found
one_field n k l repeated true t e = record { number = eqb-true l.number n t; kind = ap (kind_found k) e }
one_field n k l repeated false t e = absurd cc

included : (n : ℕ) (b : Bool) → (b || false) ≡ b
included n true = refl
included n false = refl

joined_below : (table : Table) (left s : ℕ) (a b : List ℕ) → accepts_message table left s a ≡ true → accepts_message
    table left s b ≡ true → accepts_message table left s (a ++ b) ≡ true
unfolding accepts_message
joined_below table zero s a b g h = absurd cc
joined_below table (suc below) s a b g h = accepts_payload-append table below s a b g h

module _ (table : Table) (left : ℕ) where
  -- the run of the whole list, for a field of its own
  whole_run : (n : ℕ) (k : Kind) (row : Row) (x : FieldRecord) (xs : List FieldRecord) (l : LastValue) → IsLast x xs l
      → all_numbered n (x ∷ xs) ≡ true → IsField n k l → accepts_value (accepts_message table left) l.kind l.value ≡
      true
      → IsRunOf (accepts_message table left) n k x xs l
  whole_run n k row x xs l g all is a = record {
    number = is.number;
    kind = is.kind;
    value = g.value;
    joined =
        sym (ap (λ (rs : List FieldRecord). joined_contents (values rs)) (last_run_whole n (x ∷ xs) all))
        ∙ sym (ap (λ (m : ℕ). joined_contents (values (last_run m (x ∷ xs)))) is.number) ∙ g.joined;
    accepted = a;
  }

  optional_row : (n : ℕ) (k : Kind) (own : List FieldRecord) (lo : Option LastValue) → AreLast own lo → AreGood
      (accepts_message table left) (Optional n k) lo → all_numbered n own ≡ true → single_record (nested_bytes table
      left)
      false lo ≡ record_list_bytes (row_records (Optional n k) (singular_over table (message_overlay table left) k
      Absent
      (values own)) (part_values table (singular_over table (message_overlay table left) k Absent (values own)) k))
  unfolding AreLast AreGood bytes_of part_values
  optional_row n k [] None g h all = refl
  optional_row n k [] (Some l) g h all = absurd g
  optional_row n k (x ∷ xs) None g h all = absurd g
  optional_row n k (x ∷ xs) (Some l) g h all = sym (optional_written table left n k x xs l
      (whole_run n k (Optional n k) x xs l g all (one_field n k l h.repeated (eqb l.number n) refl h.found)
      (h.value refl)))

  plain_row : (n : ℕ) (k : Kind) (own : List FieldRecord) (lo : Option LastValue) → AreLast own lo → AreGood
      (accepts_message table left) (Plain n k) lo → all_numbered n own ≡ true → single_record (nested_bytes table left)
      true lo ≡ record_list_bytes (row_records (Plain n k) (singular_over table (message_overlay table left) k
      (default_of k) (values own)) (part_values table (singular_over table (message_overlay table left) k (default_of k)
      (values own)) k))
  unfolding AreLast AreGood bytes_of part_values plain_held
  plain_row n U32 [] None g h all = refl
  plain_row n U64 [] None g h all = refl
  plain_row n Boolean [] None g h all = refl
  plain_row n Enumeration [] None g h all = refl
  plain_row n Text [] None g h all = refl
  plain_row n ByteString [] None g h all = refl
  plain_row n (Message s) [] None g h all = refl
  plain_row n k [] (Some l) g h all = absurd g
  plain_row n k (x ∷ xs) None g h all = absurd g
  plain_row n k (x ∷ xs) (Some l) g h all = sym (plain_written table left n k x xs l
      (whole_run n k (Plain n k) x xs l g all (one_field n k l h.repeated (eqb l.number n) refl h.found)
      (h.value refl)))

  member_none : (b : Bool) (n : ℕ) → cond b (member_at n Absent) Absent ≡ Absent
  member_none true n = refl
  member_none false n = refl

  oneof_row : (members : List (ℕ × Kind)) (own : List FieldRecord) (lo : Option LastValue) → AreLast own lo → AreGood
      (accepts_message table left) (OneOf members) lo → single_record (nested_bytes table left) false lo ≡
      record_list_bytes (row_records (OneOf members) (oneof_over table (message_overlay table left) members Absent own)
      (part_values table (oneof_over table (message_overlay table left) members Absent own) (kind_of (OneOf members)
      (oneof_over table (message_overlay table left) members Absent own))))
  unfolding AreLast AreGood bytes_of part_values
  oneof_row members [] None g h = refl
  oneof_row members [] (Some l) g h = absurd g
  oneof_row members (x ∷ xs) None g h = absurd g
  oneof_row members (x ∷ xs) (Some l) g h =
      let n = (last x xs).number in
      let ends = run_ends x xs n refl in
      let found = member_found members l.number (l.kind, h.repeated) h.found in
      let k = member_kind members n in
      let kind : k ≡ l.kind = ap (member_kind members) g.number ∙ found.1 in
      let run : IsRunOf (accepts_message table left) n k ends.first ends.later l = record {
        number = sym g.number;
        kind = kind;
        value = ap (λ (y : FieldRecord). y.value) ends.end ∙ g.value;
        joined =
            sym (ap (λ (rs : List FieldRecord). joined_contents (values rs)) ends.is)
            ∙ ap (λ (m : ℕ). joined_contents (values (last_run m (x ∷ xs)))) g.number ∙ g.joined;
        accepted = h.value refl;
      } in
      sym (optional_written table left n k ends.first ends.later l run)
      ∙ sym (ap (λ (rs : List FieldRecord). bytes_of n (part_values table (singular_over table
      (message_overlay table left) k Absent (values rs)) k)) ends.is)
      ∙ sym (ap (λ (p : Part). bytes_of n (part_values table (singular_over table (message_overlay table left) k p
      (values (last_run n (x ∷ xs)))) k)) (member_none (all_numbered n (x ∷ xs)) n))

  -- ---- repeated rows

  list_row : (n : ℕ) (k : Kind) (rs : List FieldRecord) → bytes_of n (packed_values k (element_values table
      (all_elements table (message_overlay table left) k (values (own_records (Repeated n k) rs))) k)) ≡
      record_list_bytes
      (row_records (Repeated n k) (repeated_over table (message_overlay table left) k (Elements nil)
      (values (own_records (Repeated n k) rs))) (part_values table (repeated_over table (message_overlay table left) k
      (Elements nil) (values (own_records (Repeated n k) rs))) k))
  unfolding bytes_of part_values
  list_row n k rs = ap (λ (p : Part). record_list_bytes (row_records (Repeated n k) p (part_values table p k)))
      (sym (repeated_over_is table (message_overlay table left) k (Elements nil)
      (values (own_records (Repeated n k) rs))))

  repeated_row : (n : ℕ) (k : Kind) (rs : List FieldRecord) → list_all (λ r. row_allows (accepts_message table left) r
      (Repeated n k)) rs ≡ true → repeated_record (nested_bytes table left) n k rs ≡ bytes_of n (packed_values k
      (element_values table (all_elements table (message_overlay table left) k (values (own_records (Repeated n k) rs)))
      k))
  repeated_row n U32 rs h = sym (run_is table left n U32 rs refl)
  repeated_row n U64 rs h = sym (run_is table left n U64 rs refl)
  repeated_row n Boolean rs h = sym (run_is table left n Boolean rs refl)
  repeated_row n Enumeration rs h = sym (run_is table left n Enumeration rs refl)
  repeated_row n Text rs h = sym (scalars_are table left n Text rs refl refl h)
  repeated_row n ByteString rs h = sym (scalars_are table left n ByteString rs refl refl h)
  repeated_row n (Message s) rs h = sym (messages_are table left n s rs h)

  -- ---- all rows

  row_is : (row : Row) (rs : List FieldRecord) → list_all (λ r. row_allows (accepts_message table left) r row) rs ≡ true
      → AreGood (accepts_message table left) row (last_over row None rs) → row_record (nested_bytes table left) row rs ≡
      record_list_bytes (row_records row (row_over table (message_overlay table left) row (empty_part row)
      (own_records row rs)) (part_values table (row_over table (message_overlay table left) row (empty_part row)
      (own_records row rs)) (kind_of row (row_over table (message_overlay table left) row (empty_part row)
      (own_records row rs)))))
  row_is (Plain n k) rs h g = plain_row n k (own_records (Plain n k) rs) (last_over (Plain n k) None rs)
      (last_of_own (Plain n k) rs) g (own_numbered n (Plain n k) (λ m. included n (eqb m n)) rs)
  row_is (Optional n k) rs h g = optional_row n k (own_records (Optional n k) rs) (last_over (Optional n k) None rs)
      (last_of_own (Optional n k) rs) g (own_numbered n (Optional n k) (λ m. included n (eqb m n)) rs)
  row_is (Repeated n k) rs h g = repeated_row n k rs h ∙ list_row n k rs
  row_is (OneOf members) rs h g = oneof_row members (own_records (OneOf members) rs) (last_over (OneOf members) None rs)
      (last_of_own (OneOf members) rs) g

  pub message_joins : (s : ℕ) (a b : List ℕ) → accepts_message table left s a ≡ true → accepts_message table left s b ≡
      true → accepts_message table left s (a ++ b) ≡ true
  message_joins s a b g h = joined_below table left s a b g h

  rows_are : (rows : List Row) (rs : List FieldRecord) → list_all (accepts_record (accepts_message table left) rows)
      rs ≡ true → rows_record (nested_bytes table left) rows rs ≡ record_list_bytes (message_records table (rows_over
      table (message_overlay table left) rows (empty_value rows) rs) rows)
  unfolding part_values AreGood
  rows_are [] rs h = refl
  rows_are (row ∷ rows) rs h =
      let accepts = accepts_message table left in
      let allowed : list_all (λ r. row_allows accepts r row) rs ≡ true =
      weaker (accepts_record accepts (row ∷ rows)) (λ r. row_allows accepts r row) (first_allowed accepts row rows)
      rs h
      in
      let later : list_all (accepts_record accepts rows) rs ≡ true = weaker (accepts_record accepts (row ∷ rows))
      (accepts_record accepts rows) (later_allowed accepts row rows) rs h in
      let p = row_over table (message_overlay table left) row (empty_part row) (own_records row rs) in
      let ps = rows_over table (message_overlay table left) rows (empty_value rows) rs in
      ap (λ (xs : List ℕ). xs ++ rows_record (nested_bytes table left) rows rs)
      (row_is row rs allowed (last_good accepts message_joins row None rs tt allowed))
      ∙ ap (λ (xs : List ℕ). record_list_bytes (row_records row p (part_values table p (kind_of row p))) ++ xs)
      (rows_are rows rs later)
      ∙ sym (flat_map-append record_bytes (row_records row p (part_values table p (kind_of row p)))
      (message_records table ps rows))

payload_passes : (table : Table) (left s : ℕ) (bytes : List ℕ) → accepts_payload table left s bytes ≡ true → AllPass
    (accepts_record (accepts_message table left) (table s)) left bytes
payload_passes table left s bytes h = all_checked table left s bytes ∙ h

pub records_pass : (table : Table) (left s : ℕ) (bytes : List ℕ) → accepts_payload table left s bytes ≡ true → list_all
    (accepts_record (accepts_message table left) (table s)) (records_read left bytes) ≡ true
records_pass table left s bytes h =
    let all = all_pass (accepts_record (accepts_message table left) (table s)) left bytes
    (payload_passes table left s bytes h) in
    ap (list_all (accepts_record (accepts_message table left) (table s))) all.read ∙ all.pass

pub canonical_is : (table : Table) (left s : ℕ) (bytes : List ℕ) → accepts_payload table left s bytes ≡ true
    → rows_record (nested_bytes table left) (table s) (records_read left bytes) ≡ canonical_payload table s
    (meaning table left s bytes)
canonical_is table left s bytes h =
    let all = all_pass (accepts_record (accepts_message table left) (table s)) left bytes
    (payload_passes table left s bytes h) in
    let listed : payload_records left bytes ≡ all.records = ap or_empty all.list in
    rows_are table left (table s) (records_read left bytes) (records_pass table left s bytes h)
    ∙ ap (λ (rs : List FieldRecord). record_list_bytes (message_records table (rows_over table
    (message_overlay table left) (table s) (empty_value (table s)) rs) (table s))) (all.read ∙ sym listed)

-- ---- what the calls require

pub runs_pass : (table : Table) (left n : ℕ) (k : Kind) (rs : List FieldRecord) → accepts_number k ≡ true → list_all
    (λ r. row_allows (accepts_message table left) r (Repeated n k)) rs ≡ true → list_all (run_allows n) rs ≡ true
runs_pass table left n k rs a h = weaker (λ r. row_allows (accepts_message table left) r (Repeated n k)) (run_allows n)
    (run_allowed (accepts_message table left) n k a) rs h

pub messages_pass : (table : Table) (left n s : ℕ) (k : Kind) (rs : List FieldRecord) → k ≡ Message s → list_all
    (λ r. row_allows (accepts_message table left) r (Repeated n k)) rs ≡ true → list_all
    (message_allows (accepts_message table left) n s) rs ≡ true
messages_pass table left n s k rs e h = weaker
    (λ r. row_allows (accepts_message table left) r (Repeated n (Message s)))
    (message_allows (accepts_message table left) n s) (message_allowed (accepts_message table left) n s) rs
    (subst (λ (x : Kind). list_all (λ r. row_allows (accepts_message table left) r (Repeated n x)) rs ≡ true) e h)

pub first_pass : (table : Table) (left : ℕ) (row : Row) (rows all : List Row) (rs : List FieldRecord) → all ≡ row ∷ rows
    → list_all (accepts_record (accepts_message table left) all) rs ≡ true → list_all
    (λ r. row_allows (accepts_message table left) r row) rs ≡ true
first_pass table left row rows all rs e h = weaker (accepts_record (accepts_message table left) (row ∷ rows))
    (λ r. row_allows (accepts_message table left) r row) (first_allowed (accepts_message table left) row rows) rs
    (subst (λ (rows : List Row). list_all (accepts_record (accepts_message table left) rows) rs ≡ true) e h)

pub later_pass : (table : Table) (left : ℕ) (row : Row) (rows all : List Row) (rs : List FieldRecord) → all ≡ row ∷ rows
    → list_all (accepts_record (accepts_message table left) all) rs ≡ true → list_all
    (accepts_record (accepts_message table left) rows) rs ≡ true
later_pass table left row rows all rs e h = weaker (accepts_record (accepts_message table left) (row ∷ rows))
    (accepts_record (accepts_message table left) rows) (later_allowed (accepts_message table left) row rows) rs
    (subst (λ (rows : List Row). list_all (accepts_record (accepts_message table left) rows) rs ≡ true) e h)

-- the joined contents of the last record of a message field are accepted
pub joined_accepted : (table : Table) (left s : ℕ) (row : Row) (rs : List FieldRecord) (l : LastValue) → list_all
    (λ r. row_allows (accepts_message table left) r row) rs ≡ true → Some l ≡ last_over row None rs → l.kind ≡ Message s
    → accepts_message table left s l.joined ≡ true
unfolding AreGood
joined_accepted table left s row rs l h e k =
    let good : AreGood (accepts_message table left) row (Some l) = subst
    (λ (o : Option LastValue). AreGood (accepts_message table left) row o) (sym e)
    (last_good (accepts_message table left) (message_joins table left) row None rs tt h) in
    good.joined s k

pub nested_below : (table : Table) (below left s : ℕ) (bytes : List ℕ) → below + 1 ≡ left → nested_bytes table left s
    bytes ≡ canonical_payload table s (meaning table below s bytes)
unfolding nested_bytes message_overlay
nested_below table below zero s bytes h = absurd (omega (arith, h))
nested_below table below (suc left) s bytes h =
    let e : left ≡ below = omega (arith, h) in
    ap (λ (l : ℕ). canonical_payload table s (meaning table l s bytes)) e

pub if_ok : {E : Type 0} (r : Result (Vec ℕ Global) E) (a b : List ℕ) → a ≡ b → IfOk r (λ out. out.items ≡ a) → IfOk r
    (λ out. out.items ≡ b)
if_ok (Ok v) a b e h = h ∙ e
if_ok (Err x) a b e h = tt
