-- What entries give is canonical.
use Rattle.std.proofs.Common.{◌≡◌, length, ℕ, zero, suc, ◌+◌, ◌-◌, ◌^◌, ◌<◌, ◌≤◌, List, [], ◌∷◌, ◌++◌, Bool, true}
use Rattle.std.proofs.Common.{false, cond, not, ◌&&◌, ◌||◌, Option, Some, None, Result, Ok, Err, refl, sym, ap, subst}
use Rattle.std.proofs.Common.{◌∙◌}
use Rattle.std.proofs.Common.{length-append, eqb, ltb, get_or, arith}
use Rattle.std.proofs.Math.Bool.{or-true}
use Rattle.std.specs.Option.{option_or}
use Rattle.std.specs.Str.{is_utf8}
use Rattle.std.proofs.lemmas.Bool.{lt-ltb, le-ltb, ltb-true, eqb-true, ne_eqb}
use Rattle.std.proofs.lemmas.List.Folds.{list_all-append}
use Rattle.std.specs.List.{list_all}
use Rattle.shared_core_wire.specs.Grammar.{RecordValue, Varint, Length, FieldRecord}
use Rattle.shared_core_wire.specs.Reader.{record_list}
use Rattle.shared_core_wire.specs.Encoding.{record_bytes, record_list_bytes, is_field_number}
use Rattle.shared_core_wire.specs.Schema.{Kind, Row, U32, U64, Boolean, Enumeration, Text, ByteString, Message}
use Rattle.shared_core_wire.specs.Schema.{Plain, Optional, Repeated, OneOf, numbers, includes, all_numbers}
use Rattle.shared_core_wire.specs.Schema.{are_distinct}
use Rattle.shared_core_wire.specs.Grammar.{IsSequence}
use Rattle.shared_core_wire.specs.Reader.{sequence_past}
use Rattle.shared_core_wire.specs.Encoding.{shortest_varint, key_bytes}
use Rattle.shared_core_wire.specs.Acceptance.{NestedAcceptance, some_passes, accepts_number, accepts_bytes}
use Rattle.shared_core_wire.proofs.Shortest.{shortest_is}
use Rattle.shared_core_wire.proofs.Readers.{varint_pos, some_is}
use Rattle.shared_core_wire.proofs.Sequences.{all_again}
use Rattle.shared_core_wire.proofs.ReadBack.{includes-append, distinct_back, distinct_other, or_split}
use Rattle.shared_core_wire.proofs.Runs.{and_split, and_join}
use Rattle.shared_core_wire.proofs.EncodingLaws.{encodable, encodable_value}
use Rattle.shared_core_codec.specs.Table.{table}
use Rattle.shared_core_codec.specs.RowEncoding.{varint_record, length_record}
use Rattle.shared_core_codec.specs.Canonicity.{Next, next_field, is_written_field, rows_after, coming_after, all_come}
use Rattle.shared_core_codec.specs.Canonicity.{Coming, is_packed}
use Rattle.shared_core_codec.specs.Canonicity.{written_size, is_canonical_message, is_canonical_message_in}
use Rattle.shared_core_codec.specs.Canonicity.{is_written_number, is_written_value, is_default_value}
use Rattle.shared_core_codec.specs.Canonicity.{is_written_run, written_varint_at, IsCanonical, may_recur, found_or}
use Rattle.shared_core_codec.specs.Canonicity.{is_plain}
use Rattle.shared_core_codec.specs.ProgramRows.{member_numbered, field_in_row}
use Rattle.shared_core_codec.proofs.Tables.{are_schemas}
use Rattle.shared_core_codec.proofs.Canonicity.{total_size, IsWritten, reader_written, is_message}
use Rattle.shared_core_codec.proofs.Canonicity.{may_be_empty, rows_may_be_empty, sound}
use Rattle.shared_core_codec.proofs.CanonicityExact.{records_encoded}
use Rattle.shared_core_fields.specs.declared.table.FieldEntry.{FieldEntry}
use Rattle.shared_core_fields_writer.specs.declared.error.Reason.{Reason}
use Rattle.shared_core_fields.specs.Rows.{kind_number}
use Rattle.shared_core_fields_writer.specs.declared.error.Reason.TheVariants.{WrongKind, NotUtf8, OutOfRange}
use Rattle.shared_core_fields_writer.specs.declared.error.Reason.TheVariants.{UnknownField, WrongLevel, TooLong}
use Rattle.shared_core_fields_writer.specs.Given.{Given, Number, Content, Opens, given, value_given, number_given}
use Rattle.shared_core_fields_writer.specs.Given.{text_given}
use Rattle.shared_core_fields_writer.specs.Given.{bytes_given, content, field_next, found_next}
use Rattle.shared_core_fields_writer.specs.Walk.{Walked, Inward, Onward, onto, nested_onto, message_walk, number_walk}
use Rattle.shared_core_fields_writer.specs.Walk.{value_walk, field_walk, more_walk}
use Rattle.shared_core_fields_writer.proofs.Walking.{past_number, no_number}
use Rattle.shared_core_fields_writer.specs.Walk.{is_within, is_more, run_kind, entries_payload, short_enough}
use Rattle.shared_core_fields_writer.specs.Walk.{More, Nothing, Within, Numbers, run_numbers, varints, walk}

-- ---- sizes

size_is : (n : ℕ) (w : RecordValue) → encodable_value w ≡ true → written_size (record { number = n; value = w }) ≡
    length (record_bytes (record { number = n; value = w }))
size_is n (Varint m) h = refl
size_is n (Length b) h = refl
size_is n w h = absurd cc

total_is : (rs : List FieldRecord) → list_all encodable rs ≡ true → total_size rs ≡ length (record_list_bytes rs)
unfolding total_size
total_is [] h = refl
total_is (r ∷ rs) h =
    let e = and_split _ _ h in
    let one : written_size r ≡ length (record_bytes r) = size_is r.number r.value (and_split _ _ e.0).1 in
    omega (arith, one, total_is rs e.1, length-append (record_bytes r) (record_list_bytes rs))

-- ---- records that come

-- Bytes are records that may come where these rows are left.
pub record Records (depth : ℕ) (left : List Row) (bytes : List ℕ) : Type 0 where
  rs : List FieldRecord
  is : bytes ≡ record_list_bytes rs
  encodes : list_all encodable rs ≡ true
  comes : all_come (is_canonical_message depth) (left, total_size rs) rs ≡ true

none : (depth : ℕ) (left : List Row) → Records depth left []
unfolding total_size
none depth left = record { rs = []; is = refl; encodes = refl; comes = refl }

-- one more record
before : (depth : ℕ) (left : List Row) (next : Next) (n : ℕ) (w : RecordValue) (bytes : List ℕ) → next_field left n ≡
    Some
    next → is_written_field (is_canonical_message depth) next.is_plain next.field w ≡ true → encodable (record {
      number = n;
      value = w;
    }) ≡ true → Records depth next.rows bytes → Records depth left (record_bytes (record { number = n; value = w }) ++
    bytes)
unfolding total_size
before depth left next n w bytes f h c x =
    let r : FieldRecord = record { number = n; value = w } in
    let after : rows_after (is_canonical_message depth) left r ≡ Some next.rows = rw (f, h) refl in
    let room : written_size r ≤ total_size (r ∷ x.rs) = omega arith in
    let rest : total_size (r ∷ x.rs) - written_size r ≡ total_size x.rs = omega arith in
    let one : coming_after (is_canonical_message depth) (left, total_size (r ∷ x.rs)) r ≡ Some (
      next.rows,
      total_size
          x.rs,
    )
    = rw (after, le-ltb _ _ room, rest) refl in
    record {
      rs = r ∷ x.rs;
      is = ap (λ (bs : List ℕ). record_bytes r ++ bs) x.is;
      encodes = and_join _ _ c x.encodes;
      comes = rw (one, all_come) x.comes;
    }

-- ---- the rows that are left

one_has : (b : Bool) (x f : Kind × Bool) → cond b (Some x) None ≡ Some f → (b || false) ≡ true
one_has true x f e = refl
one_has false x f e = absurd cc

member_has : (members : List (ℕ × Kind)) (n : ℕ) (f : Kind × Bool) → member_numbered members n ≡ Some f → includes
    (numbers (OneOf members)) n ≡ true
member_has [] n f e = absurd cc
member_has (m ∷ members) n f e = by_test (eqb n m.0) (member_has members n f) e
  where
    by_test : (b : Bool) → (member_numbered members n ≡ Some f → includes (numbers (OneOf members)) n ≡ true)
        → option_or (cond b (Some (m.1, false)) None) (member_numbered members n) ≡ Some f →
        (b || includes (numbers (OneOf members)) n) ≡ true
    by_test true later g = refl
    by_test false later g = later g

row_has : (row : Row) (n : ℕ) (f : Kind × Bool) → field_in_row row n ≡ Some f → includes (numbers row) n ≡ true
row_has (Plain m k) n f e = one_has (eqb n m) (k, false) f e
row_has (Optional m k) n f e = one_has (eqb n m) (k, false) f e
row_has (Repeated m k) n f e = one_has (eqb n m) (k, true) f e
row_has (OneOf members) n f e = member_has members n f e

member_lacks : (members : List (ℕ × Kind)) (n : ℕ) → includes (numbers (OneOf members)) n ≡ false → member_numbered
    members n ≡ None
member_lacks [] n h = refl
member_lacks (m ∷ members) n h = let e = or_split (eqb n m.0) (includes (numbers (OneOf members)) n) h in rw e.0
    (member_lacks members n e.1)

row_lacks : (row : Row) (n : ℕ) → includes (numbers row) n ≡ false → field_in_row row n ≡ None
row_lacks (Plain m k) n h = rw (or_split (eqb n m) false h).0 refl
row_lacks (Optional m k) n h = rw (or_split (eqb n m) false h).0 refl
row_lacks (Repeated m k) n h = rw (or_split (eqb n m) false h).0 refl
row_lacks (OneOf members) n h = member_lacks members n h

pub next_has : (left : List Row) (n : ℕ) (next : Next) → next_field left n ≡ Some next → includes (all_numbers left) n ≡
    true
next_has [] n next e = absurd cc
next_has (row ∷ left) n next e = includes-append (numbers row) (all_numbers left) n ∙ by_row (next_has left n next)
    (field_in_row row n) refl e
  where
    by_row : (next_field left n ≡ Some next → includes (all_numbers left) n ≡ true) → (o : Option (Kind × Bool)) →
        field_in_row row n ≡ o → found_or row left (next_field left n) o ≡ Some next →
        (includes (numbers row) n || includes (all_numbers left) n) ≡ true
    by_row later None i g = ap (λ b. includes (numbers row) n || b) (later g) ∙ or-true (includes (numbers row) n)
    by_row later (Some f) i g = ap (λ b. b || includes (all_numbers left) n) (row_has row n f i)

pub one_of : (p : ℕ → Bool) (ns : List ℕ) (n : ℕ) → list_all p ns ≡ true → includes ns n ≡ true → p n ≡ true
one_of p [] n h i = absurd cc
one_of p (m ∷ ns) n h i = by_test (one_of p ns n (and_split _ _ h).1) (eqb n m) refl i
  where
    by_test : (includes ns n ≡ true → p n ≡ true) → (b : Bool) → eqb n m ≡ b → (b || includes ns n) ≡ true → p n ≡ true
    by_test later true e g = ap p (eqb-true _ _ e) ∙ (and_split _ _ h).0
    by_test later false e g = later g

pub record Good (left : List Row) : Type 0 where
  pub fields : list_all is_field_number (all_numbers left) ≡ true
  pub distinct : are_distinct (all_numbers left) ≡ true
  pub possible : list_all may_be_empty left ≡ true

pub good_later : (row : Row) (left : List Row) → Good (row ∷ left) → Good left
good_later row left g = record {
  fields = (and_split _ _ (sym (list_all-append is_field_number (numbers row) (all_numbers left)) ∙ g.fields)).1;
  distinct = distinct_back (numbers row) (all_numbers left) g.distinct;
  possible = (and_split _ _ g.possible).1;
}

pub all_good : (s : ℕ) → Good (table s)
all_good s = record {
  fields = (and_split _ _ (are_schemas s)).0;
  distinct = (and_split _ _ (are_schemas s)).1;
  possible = rows_may_be_empty s;
}

-- a plain field is not a message
plain_single : (row : Row) (n : ℕ) (f : Kind × Bool) → may_be_empty row ≡ true → field_in_row row n ≡ Some f → (t : ℕ) →
    f.0 ≡ Message t → is_plain row ≡ false
plain_single (Plain m k) n f h i t j = by_test (eqb n m) i
  where
    by_test : (b : Bool) → cond b (Some (k, false)) None ≡ Some f → true ≡ false
    by_test false e = absurd cc
    by_test true e =
        let same : k ≡ f.0 = ap (λ (x : Kind × Bool). x.0) (some_is (k, false) f e) in
        absurd (let no = sym (ap (λ (x : Kind). not (is_message x)) (same ∙ j)) ∙ h in cc)
plain_single (Optional m k) n f h i t j = refl
plain_single (Repeated m k) n f h i t j = refl
plain_single (OneOf members) n f h i t j = refl

pub record Found (left : List Row) (n : ℕ) (next : Next) : Type 0 where
  pub own : is_field_number n ≡ true
  pub good : Good next.rows
  pub widen : (m : ℕ) (x : Next) → next_field next.rows m ≡ Some x → next_field left m ≡ Some x
  pub single : (t : ℕ) → next.field.0 ≡ Message t → next.is_plain ≡ false

pub widen_one : (row : Row) (left : List Row) → Good (row ∷ left) → (m : ℕ) (x : Next) → next_field left m ≡ Some x →
    next_field
    (row ∷ left) m ≡ Some x
widen_one row left g m x e = ap (found_or row left (next_field left m)) (row_lacks row m (by_test (includes (numbers
    row) m)
    refl)) ∙ e
  where
    by_test : (b : Bool) → includes (numbers row) m ≡ b → b ≡ false
    by_test false i = refl
    by_test true i = absurd (let none : includes (all_numbers left) m ≡ false = distinct_other (numbers row)
        (all_numbers left) m g.distinct i in let some = next_has left m x e in cc)

pub step : (left : List Row) (n : ℕ) (next : Next) → Good left → next_field left n ≡ Some next → Found left n next
step [] n next g e = absurd cc
step (row ∷ left) n next g e = by_row (step left n next (good_later row left g)) (field_in_row row n) refl e
  where
    by_recur : (b : Bool) → (y : Next) → cond b (row ∷ left) left ≡ y.rows → is_field_number n ≡ true →
        ((t : ℕ) → y.field.0 ≡ Message t → y.is_plain ≡ false) → Found (row ∷ left) n y
    by_recur true y r o q = record {
      single = q;
      own = o;
      good = subst Good r g;
      widen = λ m x k. ap (λ (rows : List Row). next_field rows m) r ∙ k;
    }
    by_recur false y r o q = record {
      single = q;
      own = o;
      good = subst Good r (good_later row left g);
      widen = λ m x k. widen_one row left g m x (ap (λ (rows : List Row). next_field rows m) r ∙ k);
    }

    by_row : (next_field left n ≡ Some next → Found left n next) → (o : Option (Kind × Bool)) → field_in_row row n ≡ o →
        found_or row left (next_field left n) o ≡ Some next → Found (row ∷ left) n next
    by_row earlier None i h =
        let later = earlier h in
        record {
          own = later.own;
          good = later.good;
          widen = λ m x k. widen_one row left g m x (later.widen m x k);
          single = later.single;
        }
    by_row earlier (Some f) i h =
        let same = some_is _ next h in
        by_recur (may_recur f) next (ap (λ (x : Next). x.rows) same) (one_of is_field_number (numbers row) n
        (and_split _ _ (sym (list_all-append is_field_number (numbers row) (all_numbers left)) ∙ g.fields)).0
        (row_has row n f i)) (subst (λ (x : Next). (t : ℕ) → x.field.0 ≡ Message t → x.is_plain ≡ false) same
        (plain_single row n f (and_split _ _ g.possible).0 i))

-- records that may come later may come now
widen : (depth : ℕ) (left : List Row) (n : ℕ) (next : Next) (bytes : List ℕ) → Found left n next → Records depth
    next.rows
    bytes → Records depth left bytes
unfolding total_size
widen depth left n next bytes f x = by_records x.rs x.is x.encodes x.comes
  where
    by_next : (r : FieldRecord) (rs : List FieldRecord) (room : ℕ) (o : Option Next) → next_field next.rows r.number ≡ o
        →
        all_come (is_canonical_message depth) (next.rows, room) (r ∷ rs) ≡ true → all_come (is_canonical_message depth)
        (left, room) (r ∷ rs) ≡ true
    by_next r rs room None i h =
        let none : coming_after (is_canonical_message depth) (next.rows, room) r ≡ None = rw i refl in
        absurd (let no = sym (ap (λ (o : Option Coming). elim o [
          | None ↦ false
          | Some c ↦ all_come (is_canonical_message depth) c rs
        ]) none) ∙ h in cc)
    by_next r rs room (Some y) i h =
        let same : coming_after (is_canonical_message depth) (left, room) r ≡ coming_after (is_canonical_message depth)
        (next.rows, room) r = rw (f.widen r.number y i, i) refl in
        ap (λ (o : Option Coming). elim o [
          | None ↦ false
          | Some c ↦ all_come (is_canonical_message depth) c rs
        ]) same ∙ h

    by_records : (rs : List FieldRecord) → bytes ≡ record_list_bytes rs → list_all encodable rs ≡ true → all_come
        (is_canonical_message depth) (next.rows, total_size rs) rs ≡ true → Records depth left bytes
    by_records [] i c h = record { rs = []; is = i; encodes = c; comes = refl }
    by_records (r ∷ rs) i c h = record {
      rs = r ∷ rs;
      is = i;
      encodes = c;
      comes = by_next r rs (total_size (r ∷ rs)) (next_field next.rows r.number) refl h;
    }

-- ---- what entries give

module _ (bytes : List ℕ) (e : FieldEntry) where
  pub record IsNumber (k : Kind) (v : ℕ) : Type 0 where
    pub short : ltb v 18446744073709551616 ≡ true
    pub written : is_written_number k v ≡ true

  number_is : (k : Kind) (v : ℕ) → number_given k e ≡ Ok (Number v) → IsNumber k v
  number_is k v = by_test (ltb e.value 18446744073709551616 && is_written_number k e.value) refl
    where
      by_test : (b : Bool) → (ltb e.value 18446744073709551616 && is_written_number k e.value) ≡ b → cond b
          (Ok (Number e.value)) (Err OutOfRange) ≡ Ok (Number v) → IsNumber k v
      by_test true i w =
          let same : e.value ≡ v = cc in
          let both = and_split _ _ i in
          subst (IsNumber k) same (record { short = both.0; written = both.1 })
      by_test false i w = absurd cc

  no_text : (r : Result (List ℕ) Reason) (v : ℕ) → text_given r ≡ Ok (Number v) → ⊥
  no_text (Err x) v w = cc
  no_text (Ok bs) v w = by_test (is_utf8 bs) w
    where
      by_test : (b : Bool) → cond b (Ok (Content bs)) (Err NotUtf8) ≡ Ok (Number v) → ⊥
      by_test true u = cc
      by_test false u = cc

  no_bytes : (r : Result (List ℕ) Reason) (v : ℕ) → bytes_given r ≡ Ok (Number v) → ⊥
  no_bytes (Err x) v w = cc
  no_bytes (Ok bs) v w = cc

  no_message : (b : Bool) (s v : ℕ) → cond b (Ok (Opens s)) (Err WrongKind) ≡ Ok (Number v) → ⊥
  no_message true s v w = cc
  no_message false s v w = cc

  value_number : (k : Kind) (v : ℕ) → value_given bytes k e ≡ Ok (Number v) → IsNumber k v
  value_number U32 v w = number_is U32 v w
  value_number U64 v w = number_is U64 v w
  value_number Boolean v w = number_is Boolean v w
  value_number Enumeration v w = number_is Enumeration v w
  value_number Text v w = absurd (no_text (content bytes e) v w)
  value_number ByteString v w = absurd (no_bytes (content bytes e) v w)
  value_number (Message s) v w = absurd (no_message (eqb e.value s) s v w)

  pub of_kind : (k : Kind) (g : Given) → given bytes k e ≡ Ok g → value_given bytes k e ≡ Ok g
  of_kind k g = by_test (eqb e.kind (kind_number k))
    where
      by_test : (b : Bool) → cond b (value_given bytes k e) (Err WrongKind) ≡ Ok g → value_given bytes k e ≡ Ok g
      by_test true w = w
      by_test false w = absurd cc

  pub number_of : (k : Kind) (v : ℕ) → given bytes k e ≡ Ok (Number v) → IsNumber k v
  number_of k v w = value_number k v (of_kind k (Number v) w)

  number_content : (k : Kind) (c : List ℕ) → number_given k e ≡ Ok (Content c) → ⊥
  number_content k c = by_test (ltb e.value 18446744073709551616 && is_written_number k e.value)
    where
      by_test : (b : Bool) → cond b (Ok (Number e.value)) (Err OutOfRange) ≡ Ok (Content c) → ⊥
      by_test true w = cc
      by_test false w = cc

  text_content : (r : Result (List ℕ) Reason) (c : List ℕ) → text_given r ≡ Ok (Content c) → is_utf8 c ≡ true
  text_content (Err x) c w = absurd cc
  text_content (Ok bs) c w = by_test (is_utf8 bs) refl w
    where
      by_test : (b : Bool) → is_utf8 bs ≡ b → cond b (Ok (Content bs)) (Err NotUtf8) ≡ Ok (Content c) → is_utf8 c ≡ true
      by_test true i u = let same : bs ≡ c = cc in ap is_utf8 (sym same) ∙ i
      by_test false i u = absurd cc

  message_content : (b : Bool) (s : ℕ) (c : List ℕ) → cond b (Ok (Opens s)) (Err WrongKind) ≡ Ok (Content c) → ⊥
  message_content true s c w = cc
  message_content false s c w = cc

  value_content : (nested : NestedAcceptance) (k : Kind) (c : List ℕ) → value_given bytes k e ≡ Ok (Content c) →
      accepts_bytes
      nested k c ≡ true
  value_content nested U32 c w = absurd (number_content U32 c w)
  value_content nested U64 c w = absurd (number_content U64 c w)
  value_content nested Boolean c w = absurd (number_content Boolean c w)
  value_content nested Enumeration c w = absurd (number_content Enumeration c w)
  value_content nested Text c w = text_content (content bytes e) c w
  value_content nested ByteString c w = refl
  value_content nested (Message s) c w = absurd (message_content (eqb e.value s) s c w)

  pub content_of : (nested : NestedAcceptance) (k : Kind) (c : List ℕ) → given bytes k e ≡ Ok (Content c) →
      accepts_bytes nested
      k c ≡ true
  content_of nested k c w = value_content nested k c (of_kind k (Content c) w)

  number_opens : (k : Kind) (t : ℕ) → number_given k e ≡ Ok (Opens t) → ⊥
  number_opens k t = by_test (ltb e.value 18446744073709551616 && is_written_number k e.value)
    where
      by_test : (b : Bool) → cond b (Ok (Number e.value)) (Err OutOfRange) ≡ Ok (Opens t) → ⊥
      by_test true w = cc
      by_test false w = cc

  text_opens : (r : Result (List ℕ) Reason) (t : ℕ) → text_given r ≡ Ok (Opens t) → ⊥
  text_opens (Err x) t w = cc
  text_opens (Ok bs) t w = by_test (is_utf8 bs) w
    where
      by_test : (b : Bool) → cond b (Ok (Content bs)) (Err NotUtf8) ≡ Ok (Opens t) → ⊥
      by_test true u = cc
      by_test false u = cc

  bytes_opens : (r : Result (List ℕ) Reason) (t : ℕ) → bytes_given r ≡ Ok (Opens t) → ⊥
  bytes_opens (Err x) t w = cc
  bytes_opens (Ok bs) t w = cc

  message_opens : (b : Bool) (s t : ℕ) → cond b (Ok (Opens s)) (Err WrongKind) ≡ Ok (Opens t) → s ≡ t
  message_opens true s t w = cc
  message_opens false s t w = absurd cc

  value_opens : (k : Kind) (t : ℕ) → value_given bytes k e ≡ Ok (Opens t) → k ≡ Message t
  value_opens U32 t w = absurd (number_opens U32 t w)
  value_opens U64 t w = absurd (number_opens U64 t w)
  value_opens Boolean t w = absurd (number_opens Boolean t w)
  value_opens Enumeration t w = absurd (number_opens Enumeration t w)
  value_opens Text t w = absurd (text_opens (content bytes e) t w)
  value_opens ByteString t w = absurd (bytes_opens (content bytes e) t w)
  value_opens (Message s) t w = ap Message (message_opens (eqb e.value s) s t w)

  pub opens_of : (k : Kind) (t : ℕ) → given bytes k e ≡ Ok (Opens t) → k ≡ Message t
  opens_of k t w = value_opens k t (of_kind k (Opens t) w)

  value_written : (k : Kind) (g : Given) → number_given k e ≡ Ok g → IsNumber k e.value
  value_written k g = by_test (ltb e.value 18446744073709551616 && is_written_number k e.value) refl
    where
      by_test : (b : Bool) → (ltb e.value 18446744073709551616 && is_written_number k e.value) ≡ b → cond b (Ok (Number
          e.value)) (Err OutOfRange) ≡ Ok g → IsNumber k e.value
      by_test true i u = let both = and_split _ _ i in record { short = both.0; written = both.1 }
      by_test false i u = absurd cc

  pub written_of : (k : Kind) (g : Given) → accepts_number k ≡ true → given bytes k e ≡ Ok g → IsNumber k e.value
  written_of U32 g a w = value_written U32 g (of_kind U32 g w)
  written_of U64 g a w = value_written U64 g (of_kind U64 g w)
  written_of Boolean g a w = value_written Boolean g (of_kind Boolean g w)
  written_of Enumeration g a w = value_written Enumeration g (of_kind Enumeration g w)
  written_of Text g a w = absurd cc
  written_of ByteString g a w = absurd cc
  written_of (Message s) g a w = absurd cc

-- ---- fields that are written

field_written : (nested : NestedAcceptance) (plain : Bool) (f : Kind × Bool) (w : RecordValue) → is_packed f ≡ false →
    is_written_value nested f.0 w ≡ true → (plain && is_default_value w) ≡ false → is_written_field nested plain f w ≡
    true
field_written nested plain (k, false) w p h d = and_join _ _ h (ap not d)
field_written nested plain (U32, true) w p h d = absurd cc
field_written nested plain (U64, true) w p h d = absurd cc
field_written nested plain (Boolean, true) w p h d = absurd cc
field_written nested plain (Enumeration, true) w p h d = absurd cc
field_written nested plain (Text, true) w p h d = h
field_written nested plain (ByteString, true) w p h d = h
field_written nested plain (Message s, true) w p h d = h

pub not_packed : (nested : NestedAcceptance) (f : Kind × Bool) (c : List ℕ) → accepts_bytes nested f.0 c ≡ true →
    is_packed f ≡
    false
not_packed nested (U32, r) c h = absurd cc
not_packed nested (U64, r) c h = absurd cc
not_packed nested (Boolean, r) c h = absurd cc
not_packed nested (Enumeration, r) c h = absurd cc
not_packed nested (Text, r) c h = refl
not_packed nested (ByteString, r) c h = refl
not_packed nested (Message s, r) c h = refl

pub packed_parts : (f : Kind × Bool) → is_packed f ≡ true → (accepts_number f.0 ≡ true) × (f.1 ≡ true)
packed_parts f p = and_split (accepts_number f.0) f.1 p

run_written : (nested : NestedAcceptance) (plain : Bool) (f : Kind × Bool) (run : List ℕ) → is_packed f ≡ true →
    is_written_run f.0 run ≡ true → is_written_field nested plain f (Length run) ≡ true
run_written nested plain (k, true) run p h = rw (packed_parts (k, true) p).0 h
run_written nested plain (k, false) run p h = absurd (let no = (packed_parts (k, false) p).1 in cc)

-- ---- runs

written_varint : (k : Kind) (v : ℕ) → v < 2 ^ 64 → is_written_number k v ≡ true → IsWritten k (shortest_varint v) v
written_varint k v h w = record { is = shortest_is v h; tight = omega arith; written = w }

pub run_written_each : (bytes : List ℕ) (s : ℕ) (left : List Row) (n level depth : ℕ) (k : Kind) (es : List FieldEntry)
    (out : List ℕ) → accepts_number k ≡ true → walk bytes s left (Some n) (Numbers k) level depth es ≡ Ok out →
    IsSequence (IsWritten k) (varints (run_numbers level n es)) (run_numbers level n es)
run_written_each bytes s left n level depth k [] out a w = refl
run_written_each bytes s left n level depth k (e ∷ es) out a w =
    by_test (run_written_each bytes s left n level depth k es out a) (eqb e.level level && eqb e.number n) refl
  where
    by_given : (walk bytes s left (Some n) (Numbers k) level depth es ≡ Ok out → IsSequence (IsWritten k) (varints
        (run_numbers level n es)) (run_numbers level n es)) → (eqb e.level level && eqb e.number n) ≡ true
        → (r : Result Given Reason) → given bytes k e ≡ r → IsSequence (IsWritten k)
        (varints (e.value ∷ run_numbers level n es)) (e.value ∷ run_numbers level n es)
    by_given later i (Err x) g = absurd
        (let bad = sym (no_number bytes s left n level depth k e es x i g) ∙ w in cc)
    by_given later i (Ok y) g =
        let is = written_of bytes e k y a g in (
          shortest_varint e.value,
          varints (run_numbers level n es),
          refl,
          written_varint k e.value (ltb-true _ _ is.short) is.written,
          later (sym (past_number bytes s left n level depth k e es y i g) ∙ w),
        )

    by_test : (walk bytes s left (Some n) (Numbers k) level depth es ≡ Ok out → IsSequence (IsWritten k) (varints
        (run_numbers level n es)) (run_numbers level n es)) → (b : Bool) → (eqb e.level level && eqb e.number n) ≡ b
        → IsSequence (IsWritten k) (varints (cond b (e.value ∷ run_numbers level n es) []))
        (cond b (e.value ∷ run_numbers level n es) [])
    by_test later false i = refl
    by_test later true i = by_given later i (given bytes k e) refl

pub run_is_written : (k : Kind) (v : ℕ) (ns : List ℕ) → v < 2 ^ 64 → is_written_number k v ≡ true → IsSequence
    (IsWritten k) (varints ns) ns → is_written_run k (varints (v ∷ ns)) ≡ true
run_is_written k v ns h i q =
    let some = varint_pos (shortest_varint v) v (shortest_is v h) in
    let long : length (varints (v ∷ ns)) ≡ length (shortest_varint v) + length (varints ns) = length-append
    (shortest_varint v) (varints ns) in
    let full : eqb (length (varints (v ∷ ns))) 0 ≡ false = ne_eqb _ _ (λ x. omega (arith, x, long, some)) in
    let read : sequence_past (written_varint_at k) 0 (varints (v ∷ ns)) ≡ Some (v ∷ ns) = all_again (IsWritten k)
    (written_varint_at k) (reader_written k) (v ∷ ns) (varints (v ∷ ns))
    (shortest_varint v, varints ns, refl, written_varint k v h i, q) in
    rw (full, read) refl

-- ---- one entry and those after it

pub onto_split : (a : List ℕ) (w : Walked) (out : List ℕ) → onto a w ≡ Ok out → (rest : List ℕ) × (w ≡ Ok rest) × (out ≡
    a ++
    rest)
onto_split a (Ok more) out e = (more, refl, let same : a ++ more ≡ out = cc in sym same)
onto_split a (Err x) out e = absurd cc

pub nested_canonical : (below t : ℕ) (content : List ℕ) → Records below (table t) content → is_canonical_message (suc
    below) t
    content ≡ true
unfolding is_canonical_message_in
nested_canonical below t content x =
    let read : record_list 0 content ≡ Some x.rs = ap (record_list 0) x.is ∙ records_encoded 0 x.rs x.encodes in
    let size : length content ≡ total_size x.rs = ap length x.is ∙ sym (total_is x.rs x.encodes) in
    ap (some_passes (all_come (is_canonical_message below) (table t, length content))) read
    ∙ ap (λ (n : ℕ). all_come (is_canonical_message below) (table t, n) x.rs) size ∙ x.comes

module _ (bytes : List ℕ) (left : List Row) (depth : ℕ) (e : FieldEntry) (out : List ℕ) (z : length out < 2 ^ 64)
    (g : Good left) (inward : Inward) (onward : Onward) (n count : ℕ) (run : List ℕ)
    (later : (rows : List Row) (more : More) (rest : List ℕ) → onward rows (Some n) more ≡ Ok rest → length rest < 2 ^
    64 →
    Good rows → Records depth rows rest)
    (within : (t below : ℕ) (rest : List ℕ) → inward t below ≡ Ok rest → length rest < 2 ^ 64 → Records below (table t)
    rest)
    (each : (k : Kind) (rows : List Row) (rest : List ℕ) → accepts_number k ≡ true → onward rows (Some n) (Numbers k) ≡
    Ok rest → IsSequence (IsWritten k) (varints run) run)
    (next : Next) (found : next_field left n ≡ Some next) where
  one_more : (w : RecordValue) (more : More) (rest : List ℕ) → is_written_field (is_canonical_message depth)
      next.is_plain
      next.field w ≡ true → encodable_value w ≡ true → onward next.rows (Some n) more ≡ Ok rest → out ≡ record_bytes
      (record {
        number = n;
        value = w;
      }) ++ rest → Records depth left out
  one_more w more rest h c v o =
      let f = step left n next g found in
      let size : length rest < 2 ^ 64 = omega (
        arith,
        z,
        ap length o,
        length-append
            (record_bytes (record { number = n; value = w })) rest,
      ) in
      subst (Records depth left) (sym o) (before depth left next n w rest found h (and_join _ _ f.own c)
      (later next.rows more rest v size f.good))

  no_more : (more : More) (rest : List ℕ) → onward next.rows (Some n) more ≡ Ok rest → out ≡ rest → Records depth left
      out
  no_more more rest v o =
      let f = step left n next g found in
      let size : length rest < 2 ^ 64 = omega (arith, z, ap length o) in
      subst (Records depth left) (sym o) (widen depth left n next rest f (later next.rows more rest v size f.good))

  -- bytes of a record are fewer than 2 ^ 64
  fits : (content rest : List ℕ) → out ≡ length_record n content ++ rest → ltb (length content) (2 ^ 64) ≡ true
  fits content rest o = lt-ltb _ _ (omega (
    arith,
    z,
    ap length o,
    length-append (length_record n content) rest,
    length-append (key_bytes n 2) (shortest_varint (length content) ++ content),
    length-append (shortest_varint (length content)) content,
  ))

  by_default : (v : ℕ) → IsNumber bytes e next.field.0 v → is_packed next.field ≡ false → (b : Bool) → (next.is_plain &&
      eqb v
      0) ≡ b → onto (cond b [] (varint_record n v)) (onward next.rows (Some n) Nothing) ≡ Ok out → Records depth left
      out
  by_default v k p true i w =
      let x = onto_split [] (onward next.rows (Some n) Nothing) out w in
      no_more Nothing x.0 x.1 x.2
  by_default v k p false i w =
      let x = onto_split (varint_record n v) (onward next.rows (Some n) Nothing) out w in
      one_more (Varint v) Nothing x.0 (field_written (is_canonical_message depth) next.is_plain next.field (Varint v) p
      k.written i) k.short x.1 x.2

  by_packed : (v : ℕ) → IsNumber bytes e next.field.0 v → (b : Bool) → is_packed next.field ≡ b → number_walk onward
      next n v
      run b ≡ Ok out → Records depth left out
  by_packed v k true p w =
      let number = (packed_parts next.field p).0 in
      let x = onto_split (length_record n (varints (v ∷ run))) (onward next.rows (Some n) (Numbers next.field.0)) out w
      in
      one_more (Length (varints (v ∷ run))) (Numbers next.field.0) x.0 (run_written (is_canonical_message depth)
      next.is_plain next.field (varints (v ∷ run)) p (run_is_written next.field.0 v run (ltb-true _ _ k.short) k.written
      (each next.field.0 next.rows x.0 number x.1))) (fits (varints (v ∷ run)) x.0 x.2) x.1 x.2
  by_packed v k false p w = by_default v k p (next.is_plain && eqb v 0) refl w

  by_content : (c : List ℕ) → given bytes next.field.0 e ≡ Ok (Content c) → (b : Bool) → (next.is_plain && eqb (length
      c) 0) ≡
      b → onto (cond b [] (length_record n c)) (onward next.rows (Some n) Nothing) ≡ Ok out → Records depth left out
  by_content c k true i w =
      let x = onto_split [] (onward next.rows (Some n) Nothing) out w in
      no_more Nothing x.0 x.1 x.2
  by_content c k false i w =
      let x = onto_split (length_record n c) (onward next.rows (Some n) Nothing) out w in
      let h = content_of bytes e (is_canonical_message depth) next.field.0 c k in
      one_more (Length c) Nothing x.0 (field_written (is_canonical_message depth) next.is_plain next.field (Length c)
      (not_packed (is_canonical_message depth) next.field c h) h i) (fits c x.0 x.2) x.1 x.2

  by_nested : (t below : ℕ) → depth ≡ suc below → given bytes next.field.0 e ≡ Ok (Opens t) → (inner : Walked) → inward
      t below
      ≡ inner → nested_onto n inner (onward next.rows (Some n) Within) ≡ Ok out → Records depth left out
  by_nested t below d k (Err x) j w = absurd cc
  by_nested t below d k (Ok content) j w =
      let f = step left n next g found in
      let x = onto_split (length_record n content) (onward next.rows (Some n) Within) out w in
      let kind = opens_of bytes e next.field.0 t k in
      let short = fits content x.0 x.2 in
      let inner = nested_canonical below t content (within t below content j (ltb-true _ _ short)) in
      let canonical : is_canonical_message depth t content ≡ true = ap (λ (m : ℕ). is_canonical_message m t content) d ∙
      inner
      in
      let h : accepts_bytes (is_canonical_message depth) next.field.0 content ≡ true = ap
      (λ (j : Kind). accepts_bytes (is_canonical_message depth) j content) kind ∙ canonical in
      let plain : (next.is_plain && is_default_value (Length content)) ≡ false = ap
      (λ (b : Bool). b && is_default_value (Length content)) (f.single t kind) in
      one_more (Length content) Within x.0 (field_written (is_canonical_message depth) next.is_plain next.field
      (Length content) (not_packed (is_canonical_message depth) next.field content h) h plain) short x.1 x.2

  by_message : (t d : ℕ) → depth ≡ d → given bytes next.field.0 e ≡ Ok (Opens t) → message_walk inward onward next n
      count t d
      ≡ Ok out → Records depth left out
  by_message t zero d k w = absurd cc
  by_message t (suc below) d k w = by_nested t below d k (inward t below) refl w

  by_value : (v : Result Given Reason) → given bytes next.field.0 e ≡ v → value_walk inward onward next depth n count
      run v ≡
      Ok out → Records depth left out
  by_value (Err x) k w = absurd cc
  by_value (Ok (Number v)) k w = by_packed v (number_of bytes e next.field.0 v k) (is_packed next.field) refl w
  by_value (Ok (Content c)) k w = by_content c k (next.is_plain && eqb (length c) 0) refl w
  by_value (Ok (Opens t)) k w = by_message t depth refl k w

pub found_is : (all left : List Row) (last : Option ℕ) (n : ℕ) (next : Next) → field_next all left last n ≡ Ok next →
    next_field
    left n ≡ Some next
found_is all left last n next = by_short (ltb n 4294967296)
  where
    by_found : (o : Option Next) → found_next all last n o ≡ Ok next → o ≡ Some next
    by_found None w = absurd cc
    by_found (Some x) w = let same : x ≡ next = cc in ap (λ (y : Next). Some y) same

    by_short : (b : Bool) → cond b (found_next all last n (next_field left n)) (Err UnknownField) ≡ Ok next → next_field
        left n ≡
        Some next
    by_short true w = by_found (next_field left n) w
    by_short false w = absurd cc

module _ (bytes : List ℕ) (s : ℕ) (left : List Row) (last : Option ℕ) (level depth : ℕ) (e : FieldEntry)
    (es : List FieldEntry) (out : List ℕ) (z : length out < 2 ^ 64) (g : Good left)
    (later : (rows : List Row) (m : Option ℕ) (more : More) (rest : List ℕ) → walk bytes s rows m more level depth es ≡
    Ok rest
    → length rest < 2 ^ 64 → Good rows → Records depth rows rest)
    (within : (t below : ℕ) (rest : List ℕ) → walk bytes t (table t) None Nothing (suc level) below es ≡ Ok rest →
    length rest
    < 2 ^ 64 → Records below (table t) rest) where
  abbrev inward : Inward
  inward = λ t below. walk bytes t (table t) None Nothing (suc level) below es

  abbrev onward : Onward
  onward = λ rows n more. walk bytes s rows n more level depth es

  by_next : (r : Result Next Reason) → field_next (table s) left last e.number ≡ r → field_walk bytes inward onward
      level depth
      e es r ≡ Ok out → Records depth left out
  by_next (Err x) i w = absurd cc
  by_next (Ok next) i w = by_value bytes left depth e out z g inward onward e.number (length (e ∷ es))
      (run_numbers level e.number es) (λ rows more rest. later rows (Some e.number) more rest) within
      (λ k rows rest a v. run_written_each bytes s rows e.number level depth k es rest a v) next
      (found_is (table s) left last e.number next i) (given bytes next.field.0 e) refl w

  by_given : (more : More) (r : Result Given Reason) → more_walk (length (e ∷ es)) (walk bytes s left last more level
      depth es)
      r ≡ Ok out → Records depth left out
  by_given more (Err x) w = absurd cc
  by_given more (Ok y) w = later left last more out w z g

  by_more : (more : More) (b : Bool) → cond b (more_walk (length (e ∷ es)) (walk bytes s left last more level depth es)
      (given bytes (run_kind more) e)) (field_walk bytes inward onward level depth e es (field_next (table s) left last
      e.number)) ≡
      Ok out
      → Records depth left out
  by_more more true w = by_given more (given bytes (run_kind more) e) w
  by_more more false w = by_next (field_next (table s) left last e.number) refl w

  by_within : (more : More) (b : Bool) → cond b (walk bytes s left last more level depth es) (Err (
    WrongLevel,
    length (e
        ∷ es),
  ))
      ≡ Ok out → Records depth left out
  by_within more true w = later left last more out w z g
  by_within more false w = absurd cc

  by_deeper : (more : More) (b : Bool) → cond b (cond (is_within more) (walk bytes s left last more level depth es) (Err
      (WrongLevel, length (e ∷ es)))) (cond (is_more more last e.number) (more_walk (length (e ∷ es)) (walk bytes s left
      last
      more level depth es) (given bytes (run_kind more) e)) (field_walk bytes inward onward level depth e es (field_next
      (table s)
      left last
      e.number))) ≡ Ok out → Records depth left out
  by_deeper more true w = by_within more (is_within more) w
  by_deeper more false w = by_more more (is_more more last e.number) w

  by_below : (more : More) (b : Bool) → cond b (Ok []) (cond (ltb level e.level) (cond (is_within more) (walk bytes s
      left last
      more level depth es) (Err (WrongLevel, length (e ∷ es)))) (cond (is_more more last e.number) (more_walk (length (e
      ∷ es))
      (walk bytes s left last more level depth es) (given bytes (run_kind more) e)) (field_walk bytes inward onward
      level depth e es
      (field_next (table s) left last e.number)))) ≡ Ok out → Records depth left out
  by_below more true w = let same : [] ≡ out = cc in subst (Records depth left) same (none depth left)
  by_below more false w = by_deeper more (ltb level e.level) w

pub records_of : (bytes : List ℕ) (s : ℕ) (left : List Row) (last : Option ℕ) (more : More) (level depth : ℕ)
    (es : List FieldEntry) (out : List ℕ) → walk bytes s left last more level depth es ≡ Ok out → length out < 2 ^ 64 →
    Good
    left → Records depth left out
unfolding walk
records_of bytes s left last more level depth [] out w z g =
    let same : [] ≡ out = cc in subst (Records depth left) same (none depth left)
records_of bytes s left last more level depth (e ∷ es) out w z g =
    by_below bytes s left last level depth e es out z g
    (λ rows m more rest v y h. records_of bytes s rows m more level depth es rest v y h)
    (λ t below rest v y. records_of bytes t (table t) None Nothing (suc level) below es rest v y (all_good t))
    more (ltb e.level level) w

-- ---- whole tables

pub record Short (w : Walked) (out : List ℕ) : Type 0 where
  pub is : w ≡ Ok out
  pub short : length out < 4294967296

pub short_is : (w : Walked) (out : List ℕ) → short_enough w ≡ Ok out → Short w out
short_is (Err x) out e = absurd cc
short_is (Ok bs) out e = by_test (ltb (length bs) 4294967296) refl e
  where
    by_test : (b : Bool) → ltb (length bs) 4294967296 ≡ b → cond {A = Walked} b (Ok bs) (Err (TooLong, 0)) ≡ Ok out →
        Short
        (Ok bs) out
    by_test false i u = absurd cc
    by_test true i u =
        let same : bs ≡ out = cc in
        record { is = u; short = subst (λ (xs : List ℕ). length xs < 4294967296) same (ltb-true _ _ i) }

pub all_bytes : (xs : List ℕ) → ((i d : ℕ) → i < length xs → get_or xs i d < 256) → (i : ℕ) → get_or xs i 0 < 256
all_bytes [] h i = omega arith
all_bytes (x ∷ xs) h zero = h 0 0 (omega arith)
all_bytes (x ∷ xs) h (suc i) = all_bytes xs (λ j d l. h (suc j) d (omega (arith, l))) i

pub payload_is_canonical : (s : ℕ) (es : List FieldEntry) (bytes out : List ℕ) → entries_payload s es bytes ≡ Ok out →
    ((i d : ℕ) → i < length out → get_or out i d < 256) → IsCanonical s out
unfolding entries_payload
payload_is_canonical s es bytes out e b =
    let w = short_is (walk bytes s (table s) None Nothing 0 100 es) out e in
    let x = records_of bytes s (table s) None Nothing 0 100 es out w.is (omega (arith, w.short)) (all_good s) in
    let read : record_list 0 out ≡ Some x.rs = ap (record_list 0) x.is ∙ records_encoded 0 x.rs x.encodes in
    let size : length out ≡ total_size x.rs = ap length x.is ∙ sym (total_is x.rs x.encodes) in
    sound s out (all_bytes out b) (omega (arith, w.short)) (ap (some_passes (all_come (is_canonical_message 100)
    (table s, length out))) read ∙ ap (λ (n : ℕ). all_come (is_canonical_message 100) (table s, n) x.rs) size ∙ x.comes)
