-- Payloads record by record, and runs number by number.
use Rattle.std.proofs.Common.{◌≡◌, ℕ, zero, suc, ◌+◌, ◌-◌, ◌<◌, List, [], ◌∷◌, ◌++◌, length, drop, Bool, true}
use Rattle.std.proofs.Common.{false, ◌&&◌, Option, Some, None, refl, sym, ap, subst, ◌∙◌, arith}
use Rattle.std.specs.Prelude.{decimal}
use Rattle.std.specs.List.{list_all}
use Rattle.std.proofs.lemmas.List.{length-append}
use Rattle.shared_core_wire.specs.Acceptance.{some_passes, accepts_record, accepts_message, accepts_payload}
use Rattle.shared_core_wire.specs.Grammar.{FieldRecord, IsRecordWithin, IsVarint}
use Rattle.shared_core_wire.specs.Reader.{◌>>=◌, record_at, record_list, varint_at}
use Rattle.shared_core_wire.proofs.Groups.{beyond, front_taken}
use Rattle.shared_core_wire.proofs.RecordLists.{reader, records_empty}
use Rattle.shared_core_wire.proofs.Sequences.{IsReader, all_more, all_stop, reader_varint}
use Rattle.shared_core_codec.specs.Table.{table}
use Rattle.explain_lines.specs.declared.piece.FieldAt.{FieldAt}
use Rattle.explain_lines.specs.declared.reason.Reason.TheVariants.{TooDeep}
use Rattle.explain_lines.specs.Explanation.{NestedExplanation, explained, fault, followed_by, nested_explained}
use Rattle.explain_lines.specs.Explanation.{no_record}
use Rattle.explain_lines.specs.Explanation.{nothing, numbers_past, one_line, raw, record_explained, records_past, taken}
use Rattle.explain_lines.specs.Reasons.{reason_text, varint_reason}

-- The bytes of what was read, and of what is after it.
pub record Front {A : Type 0} (R : List ℕ → A → Type 0) (bytes : List ℕ) (x : A) (rest : List ℕ) : Type 0 where
  pub parts : bytes ≡ taken bytes rest ++ rest
  pub is : R (taken bytes rest) x
  pub shorter : length rest < length bytes

pub front_read : {A : Type 0} (R : List ℕ → A → Type 0) (one : List ℕ → Option (A × List ℕ)) → IsReader R one →
    (bytes : List ℕ) (x : A) (rest : List ℕ) → one bytes ≡ Some (x, rest) → Front R bytes x rest
front_read R one reader bytes x rest e =
    let f = reader.reads bytes (x, rest) e in
    let long = reader.long f.text x f.is in
    let same = front_taken bytes f.text rest f.parts in
    record {
      parts = subst (λ (b : List ℕ). bytes ≡ b ++ rest) (sym same) f.parts;
      is = subst (λ (b : List ℕ). R b x) (sym same) f.is;
      shorter = omega (arith, ap length f.parts, length-append f.text rest);
    }

-- ---- records

module _ (nested : NestedExplanation) (left : ℕ) (path : List FieldAt) (s : ℕ) where
  records_over : (past : ℕ) (bytes : List ℕ) → records_past nested left path s past bytes
      ≡ records_past nested left path s 0 (drop past bytes)
  unfolding records_past
  records_over zero bytes = refl
  records_over (suc past) [] = refl
  records_over (suc past) (b ∷ bs) = records_over past bs

  pub records_nil : (bytes : List ℕ) → bytes ≡ [] → records_past nested left path s 0 bytes ≡ nothing
  unfolding records_past
  records_nil bytes e = rw e refl

  pub records_stop : (bytes : List ℕ) → 0 < length bytes → record_at left bytes ≡ None →
      records_past nested left path s 0 bytes ≡ no_record left path s bytes
  unfolding records_past
  records_stop [] h e = absurd (omega arith)
  records_stop (b ∷ bs) h e = rw e refl

  pub records_turn : (bytes : List ℕ) (r : FieldRecord) (rest : List ℕ) → record_at left bytes ≡ Some (r, rest) →
      records_past nested left path s 0 bytes ≡ followed_by
      (record_explained nested left path s r (taken bytes rest))
      (records_past nested left path s 0 rest)
  unfolding records_past
  records_turn [] r rest e = absurd (omega (arith, (front_read _ (record_at left) (reader left) [] r rest e).shorter))
  records_turn (b ∷ bs) r rest e =
      let f = (reader left).reads (b ∷ bs) (r, rest) e in
      rw e (ap (λ next. followed_by
      (record_explained nested left path s r (taken (b ∷ bs) rest)) next)
      (records_over (length bs - length rest) bs ∙ ap (records_past nested left path s 0)
      (beyond b bs f.text rest f.parts ((reader left).long f.text r f.is))))

pub record_front : (left : ℕ) (bytes : List ℕ) (r : FieldRecord) (rest : List ℕ) → record_at left bytes
    ≡ Some (r, rest) → Front (IsRecordWithin left) bytes r rest
record_front left bytes r rest e = front_read (IsRecordWithin left) (record_at left) (reader left) bytes r rest e

-- ---- numbers

module _ (path : List FieldAt) where
  numbers_over : (past : ℕ) (bytes : List ℕ) → numbers_past path past bytes ≡ numbers_past path 0 (drop past bytes)
  unfolding numbers_past
  numbers_over zero bytes = refl
  numbers_over (suc past) [] = refl
  numbers_over (suc past) (b ∷ bs) = numbers_over past bs

  pub numbers_nil : (bytes : List ℕ) → bytes ≡ [] → numbers_past path 0 bytes ≡ nothing
  unfolding numbers_past
  numbers_nil bytes e = rw e refl

  pub numbers_stop : (bytes : List ℕ) → 0 < length bytes → varint_at bytes ≡ None → numbers_past path 0 bytes
      ≡ fault path (reason_text (varint_reason bytes))
  unfolding numbers_past
  numbers_stop [] h e = absurd (omega arith)
  numbers_stop (b ∷ bs) h e = rw e refl

  pub numbers_turn : (bytes : List ℕ) (n : ℕ) (rest : List ℕ) → varint_at bytes ≡ Some (n, rest) →
      numbers_past path 0 bytes ≡ followed_by
      (one_line path (taken bytes rest) (decimal n)) (numbers_past path 0 rest)
  unfolding numbers_past
  numbers_turn [] n rest e = absurd (omega (arith, (front_read _ varint_at reader_varint [] n rest e).shorter))
  numbers_turn (b ∷ bs) n rest e =
      let f = reader_varint.reads (b ∷ bs) (n, rest) e in
      rw e (ap (λ next. followed_by
      (one_line path (taken (b ∷ bs) rest) (decimal n)) next)
      (numbers_over (length bs - length rest) bs ∙ ap (numbers_past path 0)
      (beyond b bs f.text rest f.parts (reader_varint.long f.text n f.is))))

pub number_front : (bytes : List ℕ) (n : ℕ) (rest : List ℕ) → varint_at bytes ≡ Some (n, rest) → Front IsVarint bytes n
    rest
number_front bytes n rest e = front_read IsVarint varint_at reader_varint bytes n rest e

-- ---- what is accepted

passes_more : (test : FieldRecord → Bool) (r : FieldRecord) (o : Option (List FieldRecord)) →
    some_passes (list_all test)
    (o >>= λ xs. Some (r ∷ xs)) ≡ (test r && some_passes (list_all test) o)
passes_more test r None = by_test (test r)
  where
    by_test : (b : Bool) → false ≡ (b && false)
    by_test true = refl
    by_test false = refl
passes_more test r (Some rs) = refl

pub accepts_turn : (left s : ℕ) (bytes : List ℕ) (r : FieldRecord) (rest : List ℕ) → record_at left bytes
    ≡ Some (r, rest) → accepts_payload table left s bytes
    ≡ (accepts_record (accepts_message table left) (table s) r && accepts_payload table left s rest)
unfolding record_list
accepts_turn left s bytes r rest e =
    let f = (reader left).reads bytes (r, rest) e in
    let long = (reader left).long f.text r f.is in
    ap (some_passes (list_all (accepts_record (accepts_message table left) (table s))))
    (all_more (record_at left) bytes f.text rest r e f.parts long)
    ∙ passes_more (accepts_record (accepts_message table left) (table s)) r (record_list left rest)

pub accepts_stop : (left s : ℕ) (bytes : List ℕ) → 0 < length bytes → record_at left bytes ≡ None →
    accepts_payload table left s bytes ≡ false
unfolding record_list
accepts_stop left s bytes some e = rw (all_stop (record_at left) bytes some e) refl

pub accepts_nothing : (left s : ℕ) (bytes : List ℕ) → bytes ≡ [] → accepts_payload table left s bytes ≡ true
accepts_nothing left s bytes e = rw (e, records_empty left) refl

pub raw_rows : table raw ≡ []
raw_rows = refl

pub raw_turn : (left : ℕ) (bytes : List ℕ) (r : FieldRecord) (rest : List ℕ) → record_at left bytes ≡ Some (r, rest) →
    accepts_payload table left raw bytes ≡ accepts_payload table left raw rest
raw_turn left bytes r rest e = accepts_turn left raw bytes r rest e ∙ rw raw_rows refl

-- ---- nested messages

pub nested_zero : (path : List FieldAt) (s : ℕ) (bytes : List ℕ) → nested_explained 0 path s bytes
    ≡ fault path (reason_text TooDeep)
unfolding nested_explained
nested_zero path s bytes = refl

pub nested_below : (below left : ℕ) (path : List FieldAt) (s : ℕ) (bytes : List ℕ) → below + 1 ≡ left →
    nested_explained left path s bytes ≡ explained below path s bytes
unfolding nested_explained
nested_below below zero path s bytes h = absurd (omega (arith, h))
nested_below below (suc left) path s bytes h =
    let same : left ≡ below = omega (arith, h) in
    ap (λ (n : ℕ). records_past (nested_explained n) n path s 0 bytes) same
