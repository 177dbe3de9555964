-- The table of a value gives its canonical payload.
use Rattle.std.proofs.Common.{◌≡◌, ℕ, zero, suc, ◌+◌, ◌-◌, ◌<◌, ◌≤◌, ◌^◌, List, [], ◌∷◌, ◌++◌, map, Bool, true}
use Rattle.std.proofs.Common.{false, cond, ◌&&◌, Option, Some, None, Ok, refl, sym, ap, ◌∙◌, arith, subst}
use Rattle.std.proofs.Common.{append-nil, append_assoc, eqb, ltb, take, drop}
use Rattle.std.proofs.lemmas.Bool.{lt-ltb, le-ltb, ltb-false, le-leb, eq-eqb, eqb-true, ne_eqb}
use Rattle.std.proofs.lemmas.List.Concat.{flat_map-append}
use Rattle.std.proofs.Math.Bool.{and-false, and-true}
use Rattle.std.specs.Prelude.{flat_map}
use Rattle.shared_core_wire.specs.Grammar.{RecordValue, Varint, Length}
use Rattle.shared_core_wire.specs.Encoding.{shortest_varint, record_bytes, record_list_bytes}
use Rattle.shared_core_wire.specs.Schema.{Kind, Row, U32, U64, Boolean, Enumeration, Text, ByteString, Message}
use Rattle.shared_core_wire.specs.Value.{Part, Parts, Absent, Number, Bytes, Nested, Elements, Member, nil, cons}
use Rattle.shared_core_wire.specs.Canonical.{written_number, number_bytes, part_values, element_values}
use Rattle.shared_core_wire.specs.Canonical.{canonical_payload, levels}
use Rattle.shared_core_wire.specs.Fitting.{NumberFits, BytesFit, PartFits, ElementsFit, Fits}
use Rattle.shared_core_wire.specs.Acceptance.{accepts_number}
use Rattle.shared_core_wire.proofs.Numbers.{no_bytes, no_message}
use Rattle.shared_core_wire.proofs.Runs.{and_join}
use Rattle.shared_core_codec.specs.Table.{table}
use Rattle.shared_core_codec.specs.RowEncoding.{varint_record, length_record}
use Rattle.shared_core_codec.specs.Canonicity.{Next, next_field, is_written_number, is_packed}
use Rattle.shared_core_fields.specs.Fields.{FieldPart, message_fields, field_values, field_records, fields_payload}
use Rattle.shared_core_fields.specs.Entries.{field_entries}
use Rattle.shared_core_fields.specs.Rows.{TableRow, kind_number, number_row, bytes_row, run_rows}
use Rattle.shared_core_fields.specs.Rows.{level_rows, fields_rows, entry_row, IsPlaced}
use Rattle.shared_core_fields.specs.declared.table.FieldEntry.{FieldEntry}
use Rattle.shared_core_fields.proofs.Back.{payload_back}
use Rattle.shared_core_fields.proofs.Written.{rows_more}
use Rattle.shared_core_fields_writer.specs.Given.{Number as GivenNumber, Content, Opens, given, value_given}
use Rattle.shared_core_fields_writer.specs.Given.{number_given, text_given, bytes_given, content, field_next}
use Rattle.shared_core_fields_writer.specs.Walk.{Walked, onto, nested_onto}
use Rattle.shared_core_fields_writer.specs.Walk.{Nothing, Within, Numbers, run_numbers, varints, walk}
use Rattle.shared_core_fields_writer.proofs.Walking.{stops, of_number, of_run, of_content, of_message, past_within}
use Rattle.shared_core_fields_writer.proofs.Walking.{past_number, after_numbers, no_numbers}
use Rattle.shared_core_fields_writer.proofs.Canonical.{packed_parts}
use Rattle.shared_core_fields_writer.proofs.FieldsCome.{Holds, Turn, Comes, message_comes}
use Rattle.shared_core_fields_writer.proofs.Tables.{Are, split, Above, past_deep, fields_deep}

-- ---- what the entry of a row gives

same_kind : (bytes : List ℕ) (k : Kind) (e : FieldEntry) → e.kind ≡ kind_number k → given bytes k e ≡ value_given bytes
    k e
same_kind bytes k e h = rw (eq-eqb _ _ h) refl

record WrittenAs (k : Kind) (m w : ℕ) : Type 0 where
  short : ltb w 18446744073709551616 ≡ true
  written : is_written_number k w ≡ true
  zeros : eqb w 0 ≡ eqb m 0

enum_written : (m : ℕ) → m < 2 ^ 32 → (b : Bool) → ltb m 2147483648 ≡ b → WrittenAs Enumeration m
    (cond b m (m + (2 ^ 64 - 2 ^ 32)))
enum_written m h true e = record { short = lt-ltb _ _ (omega (arith, h)); written = rw e refl; zeros = refl }
enum_written m h false e =
    let low = ltb-false m 2147483648 e in
    record {
      short = lt-ltb _ _ (omega (arith, h));
      written = rw (
        le-ltb (m + 18446744069414584320) 2147483648 (omega arith),
        lt-ltb 18446744071562067967 (m + 18446744069414584320) (omega (arith, low)),
      ) refl;
      zeros = ne_eqb _ _ (λ z. omega (arith, z)) ∙ sym (ne_eqb m 0 (λ z. omega (arith, low, z)));
    }

number_written : (k : Kind) (m : ℕ) → NumberFits k m → WrittenAs k m (written_number k m)
number_written U32 m h = record {
  short = lt-ltb _ _ (omega (arith, h));
  written = lt-ltb _ _ (omega (arith, h));
  zeros = refl;
}
number_written U64 m h = record { short = lt-ltb _ _ (omega (arith, h)); written = refl; zeros = refl }
number_written Boolean m h = record {
  short = lt-ltb _ _ (omega (arith, h));
  written = lt-ltb _ _ (omega (arith, h));
  zeros = refl;
}
number_written Enumeration m h = enum_written m h (ltb m 2147483648) refl
number_written k m h = absurd h

number_taken : (k : Kind) (e : FieldEntry) → ltb e.value 18446744073709551616 ≡ true → is_written_number k e.value ≡
    true → number_given k e ≡ Ok (GivenNumber e.value)
number_taken k e h w = rw (h, w) refl

number_gives : (bytes : List ℕ) (k : Kind) (m : ℕ) (e : FieldEntry) → NumberFits k m → e.kind ≡ kind_number k → e.value
    ≡ written_number k m → given bytes k e ≡ Ok (GivenNumber e.value)
number_gives bytes k m e h i v = same_kind bytes k e i ∙ by_kind k h
    (ap (λ (w : ℕ). ltb w 18446744073709551616) v ∙ (number_written k m h).short)
    (ap (is_written_number k) v ∙ (number_written k m h).written)
  where
    by_kind : (j : Kind) → NumberFits j m → ltb e.value 18446744073709551616 ≡ true → is_written_number j e.value ≡ true
        → value_given bytes j e ≡ Ok (GivenNumber e.value)
    by_kind U32 f a b = number_taken U32 e a b
    by_kind U64 f a b = number_taken U64 e a b
    by_kind Boolean f a b = number_taken Boolean e a b
    by_kind Enumeration f a b = number_taken Enumeration e a b
    by_kind j f a b = absurd f

content_there : (bytes : List ℕ) (e : FieldEntry) → IsPlaced bytes e → content bytes e ≡ Ok
    (take e.length (drop e.offset bytes))
content_there bytes e p = rw (le-leb _ _ p.0) refl

bytes_give : (bytes : List ℕ) (k : Kind) (xs : List ℕ) (e : FieldEntry) → BytesFit k xs → e.kind ≡ kind_number k →
    IsPlaced bytes e → take e.length (drop e.offset bytes) ≡ xs → given bytes k e ≡ Ok (Content xs)
bytes_give bytes Text xs e h i p b = same_kind bytes Text e i ∙ ap text_given (content_there bytes e p ∙ ap
    (λ (ys : List ℕ). Ok ys) b) ∙ rw h refl
bytes_give bytes ByteString xs e h i p b = same_kind bytes ByteString e i ∙ ap bytes_given (content_there bytes e p ∙ ap
    (λ (ys : List ℕ). Ok ys) b)
bytes_give bytes k xs e h i p b = absurd h

message_opens : (bytes : List ℕ) (t : ℕ) (e : FieldEntry) → e.kind ≡ kind_number (Message t) → e.value ≡ t → given bytes
    (Message t) e ≡ Ok (Opens t)
message_opens bytes t e i v = same_kind bytes (Message t) e i ∙ rw (eq-eqb _ _ v) refl

-- ---- the bytes of a field

unpacked_values : (f : Kind × Bool) (p : Part) → is_packed f ≡ false → field_values f p ≡ part_values table p f.0
unpacked_values (k, false) p u = refl
unpacked_values (k, true) p u = rw (sym (and-true (accepts_number k)) ∙ u) refl

-- The bytes of a field.
abbrev written_field : ℕ → Kind × Bool → Part → List ℕ
written_field n f p = record_list_bytes (field_records (n, f, p))

one_value : (n : ℕ) (f : Kind × Bool) (p : Part) (w : RecordValue) → field_values f p ≡ w ∷ [] → written_field n f p ≡
    record_bytes (record { number = n; value = w })
one_value n f p w h = ap (λ (ws : List RecordValue). record_list_bytes (map (λ (x : RecordValue). record {
  number = n;
  value = x;
}) ws)) h ∙ append-nil _

number_field : (n : ℕ) (f : Kind × Bool) (m : ℕ) → is_packed f ≡ false → written_field n f (Number m) ≡ varint_record n
    (written_number f.0 m)
unfolding part_values
number_field n f m u = one_value n f (Number m) (Varint (written_number f.0 m)) (unpacked_values f (Number m) u)

bytes_field : (n : ℕ) (f : Kind × Bool) (xs : List ℕ) → BytesFit f.0 xs → written_field n f (Bytes xs) ≡ length_record n
    xs
unfolding part_values
bytes_field n (Text, r) xs h = one_value n (Text, r) (Bytes xs) (Length xs) (unpacked_values (Text, r) (Bytes xs) refl)
bytes_field n (ByteString, r) xs h = one_value n (ByteString, r) (Bytes xs) (Length xs)
    (unpacked_values (ByteString, r) (Bytes xs) refl)
bytes_field n (k, r) xs h = absurd h

message_field : (n t : ℕ) (r : Bool) (ps : Parts) → written_field n (Message t, r) (Nested ps) ≡ length_record n
    (canonical_payload table t ps)
unfolding part_values
message_field n t r ps = one_value n (Message t, r) (Nested ps) (Length (canonical_payload table t ps))
    (unpacked_values (Message t, r) (Nested ps) refl)

run_field : (n m : ℕ) (k : Kind) (ps : Parts) → accepts_number k ≡ true → written_field n (k, true)
    (Elements (cons (Number m) ps)) ≡ length_record n
    (flat_map number_bytes (element_values table (cons (Number m) ps) k))
unfolding part_values
run_field n m k ps a = one_value n (k, true) (Elements (cons (Number m) ps))
    (Length (flat_map number_bytes (element_values table (cons (Number m) ps) k))) (rw a refl)

-- ---- the rows of a field

pub number_rows : (depth level n : ℕ) (f : Kind × Bool) (m : ℕ) → level_rows (field_entries depth level (
  n,
  f,
  Number
      m,
)) ≡ number_row level n f.0 m ∷ []
unfolding field_entries
number_rows zero level n f m = refl
number_rows (suc depth) level n f m = refl

pub bytes_rows : (depth level n : ℕ) (f : Kind × Bool) (xs : List ℕ) → level_rows (field_entries depth level
    (n, f, Bytes xs)) ≡ bytes_row level n f.0 0 xs ∷ []
unfolding field_entries
bytes_rows zero level n f xs = refl
bytes_rows (suc depth) level n f xs = refl

pub runs_rows : (depth level n : ℕ) (f : Kind × Bool) (ps : Parts) → level_rows (field_entries depth level
    (n, f, Elements ps)) ≡ run_rows level n f.0 ps
unfolding field_entries
runs_rows zero level n f ps = append-nil _
runs_rows (suc depth) level n f ps = append-nil _

next_level : (level : ℕ) → level + 1 ≡ suc level
next_level level = omega arith

pub message_rows : (below level n t : ℕ) (r : Bool) (ps : Parts) → level_rows (field_entries (suc below) level
    (n, (Message t, r), Nested ps)) ≡ bytes_row level n (Message t) t (canonical_payload table t ps) ∷ fields_rows below
    (suc level) (message_fields (table t) ps)
unfolding field_entries
message_rows below level n t r ps = ap (λ (l : ℕ). bytes_row level n (Message t) t (canonical_payload table t ps) ∷
    fields_rows below l (message_fields (table t) ps)) (next_level level)

-- ---- one field and those after it

-- The first entry, if there is one, is not deeper than a level, and no further number of a packed field there.
abbrev Follows : ℕ → Kind × Bool → ℕ → List FieldEntry → Type 0
Follows level f n [] = Unit {0}
Follows level f n (e ∷ es) = (e.level ≤ level) × (is_packed f ≡ true → (eqb e.level level && eqb e.number n) ≡ false)

above_next : (level : ℕ) (f : Kind × Bool) (n : ℕ) (t : List FieldEntry) → Follows level f n t → Above (suc level) t
above_next level f n [] h = tt
above_next level f n (e ∷ es) h = omega (arith, h.0)

module _ (bytes : List ℕ) (depth s : ℕ) (left : List Row) (last : Option ℕ) (level n : ℕ) (f : Kind × Bool)
    (next : Next) (t : List FieldEntry) where
  -- The entries are those of the field, and the others come after it.
  abbrev Walks : Part → List FieldEntry → Type 0
  Walks p es = walk bytes s left last Nothing level depth (es ++ t) ≡ onto (written_field n f p)
      (walk bytes s next.rows (Some n) Nothing level depth t)

  found : (p : Part) (m : ℕ) → Turn depth left (n, f, p) next → m ≡ n → field_next (table s) left last m ≡ Ok next
  found p m x i = ap (field_next (table s) left last) i ∙ rw (lt-ltb _ _ x.low, x.is) refl

  number_walks : (m : ℕ) (e : FieldEntry) → Turn depth left (n, f, Number m) next → entry_row bytes e ≡ number_row level
      n f.0 m → Walks (Number m) (e ∷ [])
  number_walks m e x r =
      let l : e.level ≡ level = ap (λ (y : TableRow). y.level) r in
      let i : e.number ≡ n = ap (λ (y : TableRow). y.number) r in
      let k : e.kind ≡ kind_number f.0 = ap (λ (y : TableRow). y.kind) r in
      let v : e.value ≡ written_number f.0 m = ap (λ (y : TableRow). y.value) r in
      let z : (next.is_plain && eqb e.value 0) ≡ false = ap (λ b. next.is_plain && b)
      (ap (λ (w : ℕ). eqb w 0) v ∙ (number_written f.0 m x.holds.0).zeros) ∙ x.full in
      of_number bytes s left last level depth e t l next e.value (found (Number m) e.number x i)
      (ap (λ (g : Kind × Bool). given bytes g.0 e) x.field ∙ number_gives bytes f.0 m e x.holds.0 k v)
      (ap is_packed x.field ∙ x.holds.1)
      ∙ ap (λ (w : List ℕ). onto w (walk bytes s next.rows (Some e.number) Nothing level depth t))
      (rw z refl ∙ ap (varint_record e.number) v)
      ∙ ap (λ (j : ℕ). onto (varint_record j (written_number f.0 m)) (walk bytes s next.rows (Some j) Nothing level
      depth t)) i
      ∙ ap (λ (w : List ℕ). onto w (walk bytes s next.rows (Some n) Nothing level depth t))
      (sym (number_field n f m x.holds.1))

  bytes_walk : (xs : List ℕ) (e : FieldEntry) → Turn depth left (n, f, Bytes xs) next → IsPlaced bytes e → entry_row
      bytes e ≡ bytes_row level n f.0 0 xs → Walks (Bytes xs) (e ∷ [])
  bytes_walk xs e x p r =
      let l : e.level ≡ level = ap (λ (y : TableRow). y.level) r in
      let i : e.number ≡ n = ap (λ (y : TableRow). y.number) r in
      let k : e.kind ≡ kind_number f.0 = ap (λ (y : TableRow). y.kind) r in
      let b : take e.length (drop e.offset bytes) ≡ xs = ap (λ (y : TableRow). y.bytes) r in
      of_content bytes s left last level depth e t l next xs (found (Bytes xs) e.number x i)
      (ap (λ (g : Kind × Bool). given bytes g.0 e) x.field ∙ bytes_give bytes f.0 xs e x.holds k p b)
      ∙ ap (λ (w : List ℕ). onto w (walk bytes s next.rows (Some e.number) Nothing level depth t)) (rw x.full refl)
      ∙ ap (λ (j : ℕ). onto (length_record j xs) (walk bytes s next.rows (Some j) Nothing level depth t)) i
      ∙ ap (λ (w : List ℕ). onto w (walk bytes s next.rows (Some n) Nothing level depth t))
      (sym (bytes_field n f xs x.holds))

-- Messages nested `depth` deep are walked over, and give their canonical payloads.
abbrev pub Inner : List ℕ → ℕ → Type 0
Inner bytes depth = (level t : ℕ) (ps : Parts) (es rest : List FieldEntry) → Fits table ps (table t) → levels ps ≤ depth
    → Are bytes es (fields_rows depth level (message_fields (table t) ps)) → Above level rest → walk bytes t (table t)
    None Nothing level depth (es ++ rest) ≡ Ok (canonical_payload table t ps)

message_walks : (bytes : List ℕ) (below s : ℕ) (left : List Row) (last : Option ℕ) (level n t : ℕ) (r : Bool)
    (next : Next) (rest : List FieldEntry) → Inner bytes below → (ps : Parts) (e : FieldEntry) (es : List FieldEntry) →
    Turn (suc below) left (n, (Message t, r), Nested ps) next → entry_row bytes e ≡ bytes_row level n (Message t) t
    (canonical_payload table t ps) → Are bytes es (fields_rows below (suc level) (message_fields (table t) ps)) → Above
    (suc level) rest → Walks bytes (suc below) s left last level n (Message t, r) next rest (Nested ps) (e ∷ es)
unfolding PartFits
message_walks bytes below s left last level n t r next rest inner ps e es x row a b =
    let l : e.level ≡ level = ap (λ (y : TableRow). y.level) row in
    let i : e.number ≡ n = ap (λ (y : TableRow). y.number) row in
    let k : e.kind ≡ 7 = ap (λ (y : TableRow). y.kind) row in
    let v : e.value ≡ t = ap (λ (y : TableRow). y.value) row in
    let content = canonical_payload table t ps in
    let low : levels ps ≤ below = omega (arith, x.holds.1) in
    let deep = fields_deep below (suc level) (message_fields (table t) ps) in
    of_message bytes s left last level below e (es ++ rest) l next t
    (found bytes (suc below) s left last level n (Message t, r) next rest (Nested ps) e.number x i)
    (ap (λ (g : Kind × Bool). given bytes g.0 e) x.field ∙ message_opens bytes t e k v)
    ∙ ap (λ (w : Walked). nested_onto e.number w
    (walk bytes s next.rows (Some e.number) Within level (suc below) (es ++ rest)))
    (inner (suc level) t ps es rest x.holds.0 low a b)
    ∙ ap (onto (length_record e.number content))
    (past_within bytes s next.rows (Some e.number) level (suc below) (es ++ rest)
    ∙ ap (walk bytes s next.rows (Some e.number) Nothing level (suc below))
    (past_deep bytes (suc level) es rest (fields_rows below (suc level) (message_fields (table t) ps)) a deep b))
    ∙ ap (λ (j : ℕ). onto (length_record j content) (walk bytes s next.rows (Some j) Nothing level (suc below) rest)) i
    ∙ ap (λ (w : List ℕ). onto w (walk bytes s next.rows (Some n) Nothing level (suc below) rest))
    (sym (message_field n t r ps))

-- ---- runs

no_number_left : (level n : ℕ) (k : Kind) (t : List FieldEntry) → accepts_number k ≡ true → Follows level (k, true) n t
    → run_numbers level n t ≡ []
no_number_left level n k [] a h = refl
no_number_left level n k (e ∷ es) a h = rw (h.1 (and_join _ _ a refl)) refl

numbers_done : (bytes : List ℕ) (s : ℕ) (rows : List Row) (level n depth : ℕ) (k : Kind) (t : List FieldEntry) →
    accepts_number k ≡ true → Follows level (k, true) n t → walk bytes s rows (Some n) (Numbers k) level depth t ≡ walk
    bytes s rows (Some n) Nothing level depth t
numbers_done bytes s rows level n depth k [] a h = no_numbers bytes s rows n level depth k
numbers_done bytes s rows level n depth k (e ∷ es) a h = after_numbers bytes s rows n level depth k e es
    (h.1 (and_join _ _ a refl))

module _ (bytes : List ℕ) (s : ℕ) (rows : List Row) (level n depth : ℕ) (k : Kind) (number : accepts_number k ≡ true)
    (t : List FieldEntry) (h : Follows level (k, true) n t) where
  record Run (es : List FieldEntry) (ps : Parts) : Type 0 where
    written : varints (run_numbers level n (es ++ t)) ≡ flat_map number_bytes (element_values table ps k)
    walked : walk bytes s rows (Some n) (Numbers k) level depth (es ++ t) ≡ walk bytes s rows (Some n) Nothing level
        depth t

  run : (ps : Parts) → ElementsFit table ps k → (es : List FieldEntry) → Are bytes es (run_rows level n k ps) → Run es
      ps
  unfolding part_values PartFits
  run nil f [] a = record {
    written = ap varints (no_number_left level n k t number h);
    walked = numbers_done bytes s rows level n depth k t number h;
  }
  run nil f (e ∷ es) a = absurd a
  run (cons (Number m) ps) f [] a = absurd a
  run (cons (Number m) ps) f (e ∷ es) a =
      let later = run ps f.2 es a.2 in
      let l : e.level ≡ level = ap (λ (y : TableRow). y.level) a.0 in
      let i : e.number ≡ n = ap (λ (y : TableRow). y.number) a.0 in
      let kind : e.kind ≡ kind_number k = ap (λ (y : TableRow). y.kind) a.0 in
      let v : e.value ≡ written_number k m = ap (λ (y : TableRow). y.value) a.0 in
      let here : (eqb e.level level && eqb e.number n) ≡ true = rw (eq-eqb _ _ l, eq-eqb _ _ i) refl in
      record {
        written =
            ap (λ b. varints (cond b (e.value ∷ run_numbers level n (es ++ t)) [])) here
            ∙ ap (λ (w : ℕ). shortest_varint w ++ varints (run_numbers level n (es ++ t))) v
            ∙ ap (λ (bs : List ℕ). shortest_varint (written_number k m) ++ bs) later.written;
        walked =
            past_number bytes s rows n level depth k e (es ++ t) (GivenNumber e.value) here
            (number_gives bytes k m e f.1 kind v)
            ∙ later.walked;
      }
  run (cons Absent ps) f es a = absurd (cc f.0)
  run (cons (Elements qs) ps) f es a = absurd (cc f.0)
  run (cons (Member m p) ps) f es a = absurd (cc f.0)
  run (cons (Bytes xs) ps) f es a = absurd (no_bytes k xs number f.1)
  run (cons (Nested qs) ps) f es a = absurd (no_message table k qs number f.1)

run_walks : (bytes : List ℕ) (depth s : ℕ) (left : List Row) (last : Option ℕ) (level n : ℕ) (k : Kind) → accepts_number
    k ≡ true → (next : Next) (t : List FieldEntry) → Follows level (k, true) n t → (m : ℕ) (ps : Parts) (e : FieldEntry)
    (es : List FieldEntry) → Turn depth left (n, (k, true), Elements (cons (Number m) ps)) next → Are bytes (e ∷ es)
    (run_rows level n k (cons (Number m) ps)) → Walks bytes depth s left last level n (k, true) next t
    (Elements (cons (Number m) ps)) (e ∷ es)
unfolding part_values PartFits
run_walks bytes depth s left last level n k number next t h m ps e es x a =
    let l : e.level ≡ level = ap (λ (y : TableRow). y.level) a.0 in
    let i : e.number ≡ n = ap (λ (y : TableRow). y.number) a.0 in
    let kind : e.kind ≡ kind_number k = ap (λ (y : TableRow). y.kind) a.0 in
    let v : e.value ≡ written_number k m = ap (λ (y : TableRow). y.value) a.0 in
    let fits : ElementsFit table (cons (Number m) ps) k = x.holds.1 in
    let r = run bytes s next.rows level n depth k number t h ps fits.2 es a.2 in
    of_run bytes s left last level depth e (es ++ t) l next e.value
    (found bytes depth s left last level n (k, true) next t (Elements (cons (Number m) ps)) e.number x i)
    (ap (λ (g : Kind × Bool). given bytes g.0 e) x.field ∙ number_gives bytes k m e fits.1 kind v)
    (ap is_packed x.field ∙ x.holds.0)
    ∙ ap (λ (g : Kind × Bool). onto (length_record e.number (varints (e.value ∷ run_numbers level e.number (es ++ t))))
    (walk bytes s next.rows (Some e.number) (Numbers g.0) level depth (es ++ t))) x.field
    ∙ ap (λ (j : ℕ). onto (length_record j (varints (e.value ∷ run_numbers level j (es ++ t))))
    (walk bytes s next.rows (Some j) (Numbers k) level depth (es ++ t))) i
    ∙ ap (onto (length_record n (varints (e.value ∷ run_numbers level n (es ++ t))))) r.walked
    ∙ ap (λ (w : ℕ). onto (length_record n (shortest_varint w ++ varints (run_numbers level n (es ++ t))))
    (walk bytes s next.rows (Some n) Nothing level depth t)) v
    ∙ ap (λ (bs : List ℕ). onto (length_record n (shortest_varint (written_number k m) ++ bs))
    (walk bytes s next.rows (Some n) Nothing level depth t)) r.written
    ∙ ap (λ (w : List ℕ). onto w (walk bytes s next.rows (Some n) Nothing level depth t))
    (sym (run_field n m k ps number))

-- ---- any field

record One (bytes : List ℕ) (es : List FieldEntry) (r : TableRow) : Type 0 where
  e : FieldEntry
  is : es ≡ e ∷ []
  row : entry_row bytes e ≡ r
  placed : IsPlaced bytes e

one : (bytes : List ℕ) (es : List FieldEntry) (r : TableRow) → Are bytes es (r ∷ []) → One bytes es r
one bytes [] r a = absurd a
one bytes (e ∷ []) r a = record { e = e; is = refl; row = a.0; placed = a.1 }
one bytes (e ∷ x ∷ es) r a = absurd a.2

-- Messages nested in fields where messages may be nested this deep are walked over.
abbrev Below : List ℕ → ℕ → Type 0
Below bytes zero = Unit {0}
Below bytes (suc below) = Inner bytes below

field_walks : (bytes : List ℕ) (depth s : ℕ) (left : List Row) (last : Option ℕ) (level n : ℕ) (f : Kind × Bool)
    (next : Next) (t : List FieldEntry) → Below bytes depth → Follows level f n t → (p : Part) → Turn depth left
    (n, f, p) next → (es : List FieldEntry) → Are bytes es (level_rows (field_entries depth level (n, f, p))) → Walks
    bytes depth s left last level n f next t p es
unfolding PartFits
field_walks bytes depth s left last level n f next t inner h (Number m) x es a =
    let o = one bytes es (number_row level n f.0 m) (subst (Are bytes es) (number_rows depth level n f m) a) in
    subst (Walks bytes depth s left last level n f next t (Number m)) (sym o.is)
    (number_walks bytes depth s left last level n f next t m o.e x o.row)
field_walks bytes depth s left last level n f next t inner h (Bytes xs) x es a =
    let o = one bytes es (bytes_row level n f.0 0 xs) (subst (Are bytes es) (bytes_rows depth level n f xs) a) in
    subst (Walks bytes depth s left last level n f next t (Bytes xs)) (sym o.is)
    (bytes_walk bytes depth s left last level n f next t xs o.e x o.placed o.row)
field_walks bytes zero s left last level n f next t inner h (Nested ps) x es a = absurd (omega (arith, x.holds.1))
field_walks bytes (suc below) s left last level n (Message u, r) next t inner h (Nested ps) x es a = by_first es
    (subst (Are bytes es) (message_rows below level n u r ps) a)
  where
    by_first : (es : List FieldEntry) → Are bytes es (bytes_row level n (Message u) u (canonical_payload table u ps) ∷
        fields_rows below (suc level) (message_fields (table u) ps)) → Walks bytes (suc below) s left last level n
        (Message u, r) next t (Nested ps) es
    by_first [] b = absurd b
    by_first (e ∷ es) b = message_walks bytes below s left last level n u r next t inner ps e es x b.0 b.2
        (above_next level (Message u, r) n t h)
field_walks bytes (suc below) s left last level n (U32, r) next t inner h (Nested ps) x es a = absurd x.holds.0
field_walks bytes (suc below) s left last level n (U64, r) next t inner h (Nested ps) x es a = absurd x.holds.0
field_walks bytes (suc below) s left last level n (Boolean, r) next t inner h (Nested ps) x es a = absurd x.holds.0
field_walks bytes (suc below) s left last level n (Enumeration, r) next t inner h (Nested ps) x es a = absurd x.holds.0
field_walks bytes (suc below) s left last level n (Text, r) next t inner h (Nested ps) x es a = absurd x.holds.0
field_walks bytes (suc below) s left last level n (ByteString, r) next t inner h (Nested ps) x es a = absurd x.holds.0
field_walks bytes depth s left last level n f next t inner h (Elements nil) x es a = absurd x.holds
field_walks bytes depth s left last level n (k, true) next t inner h (Elements (cons (Number m) ps)) x es a =
    by_first es (subst (Are bytes es) (runs_rows depth level n (k, true) (cons (Number m) ps)) a)
  where
    by_first : (es : List FieldEntry) → Are bytes es (run_rows level n k (cons (Number m) ps)) → Walks bytes depth s
        left last level n (k, true) next t (Elements (cons (Number m) ps)) es
    by_first [] b = absurd b
    by_first (e ∷ es) b = run_walks bytes depth s left last level n k (packed_parts (k, true) x.holds.0).0 next t h m ps
        e es x b
field_walks bytes depth s left last level n (k, false) next t inner h (Elements (cons (Number m) ps)) x es a = absurd
    (let no = (packed_parts (k, false) x.holds.0).1 in cc)
field_walks bytes depth s left last level n f next t inner h (Elements (cons Absent ps)) x es a = absurd
    (cc x.holds.1.0)
field_walks bytes depth s left last level n f next t inner h (Elements (cons (Elements qs) ps)) x es a = absurd
    (cc x.holds.1.0)
field_walks bytes depth s left last level n f next t inner h (Elements (cons (Member m p) ps)) x es a = absurd
    (cc x.holds.1.0)
field_walks bytes depth s left last level n f next t inner h (Elements (cons (Bytes xs) ps)) x es a = absurd
    (no_bytes f.0 xs (packed_parts f x.holds.0).0 x.holds.1.1)
field_walks bytes depth s left last level n f next t inner h (Elements (cons (Nested qs) ps)) x es a = absurd
    (no_message table f.0 qs (packed_parts f x.holds.0).0 x.holds.1.1)
field_walks bytes depth s left last level n f next t inner h Absent x es a = absurd x.holds
field_walks bytes depth s left last level n f next t inner h (Member m p) x es a = absurd x.holds

-- ---- what follows a field

record First (depth level n : ℕ) (f : Kind × Bool) (p : Part) : Type 0 where
  x : TableRow
  xs : List TableRow
  is : level_rows (field_entries depth level (n, f, p)) ≡ x ∷ xs
  here : x.level ≡ level
  number : x.number ≡ n

first : (depth level n : ℕ) (f : Kind × Bool) (p : Part) → Holds depth f p → First depth level n f p
unfolding PartFits
first depth level n f (Number m) h = record {
  x = number_row level n f.0 m;
  xs = [];
  is = number_rows depth level n f m;
  here = refl;
  number = refl;
}
first depth level n f (Bytes xs) h = record {
  x = bytes_row level n f.0 0 xs;
  xs = [];
  is = bytes_rows depth level n f xs;
  here = refl;
  number = refl;
}
first zero level n f (Nested ps) h = absurd (omega (arith, h.1))
first (suc below) level n (Message t, r) (Nested ps) h = record {
  x = bytes_row level n (Message t) t (canonical_payload table t ps);
  xs = fields_rows below (suc level) (message_fields (table t) ps);
  is = message_rows below level n t r ps;
  here = refl;
  number = refl;
}
first (suc below) level n (U32, r) (Nested ps) h = absurd h.0
first (suc below) level n (U64, r) (Nested ps) h = absurd h.0
first (suc below) level n (Boolean, r) (Nested ps) h = absurd h.0
first (suc below) level n (Enumeration, r) (Nested ps) h = absurd h.0
first (suc below) level n (Text, r) (Nested ps) h = absurd h.0
first (suc below) level n (ByteString, r) (Nested ps) h = absurd h.0
first depth level n f (Elements nil) h = absurd h
first depth level n f (Elements (cons (Number m) ps)) h = record {
  x = number_row level n f.0 m;
  xs = run_rows level n f.0 ps;
  is = runs_rows depth level n f (cons (Number m) ps);
  here = refl;
  number = refl;
}
first depth level n f (Elements (cons Absent ps)) h = absurd (cc h.1.0)
first depth level n f (Elements (cons (Elements qs) ps)) h = absurd (cc h.1.0)
first depth level n f (Elements (cons (Member m p) ps)) h = absurd (cc h.1.0)
first depth level n f (Elements (cons (Bytes xs) ps)) h = absurd (no_bytes f.0 xs (packed_parts f h.0).0 h.1.1)
first depth level n f (Elements (cons (Nested qs) ps)) h = absurd
    (no_message table f.0 qs (packed_parts f h.0).0 h.1.1)
first depth level n f Absent h = absurd h
first depth level n f (Member m p) h = absurd h

other_level : (level n m l : ℕ) → l < level → (eqb l level && eqb m n) ≡ false
other_level level n m l h = rw (ne_eqb l level (λ z. omega (arith, z, h))) refl

other_number : (rows : List Row) (level n m l : ℕ) (x : Next) → next_field rows m ≡ Some x → next_field rows n ≡ None →
    (eqb l level && eqb m n) ≡ false
other_number rows level n m l x a b = by_test (eqb m n) refl
  where
    by_test : (t : Bool) → eqb m n ≡ t → (eqb l level && t) ≡ false
    by_test false e = and-false (eqb l level)
    by_test true e = absurd (let same : next_field rows m ≡ None = ap (next_field rows) (eqb-true m n e) ∙ b in cc)

follows_end : (level : ℕ) (f : Kind × Bool) (n : ℕ) (t : List FieldEntry) → Above level t → Follows level f n t
follows_end level f n [] h = tt
follows_end level f n (e ∷ es) h = (omega (arith, h), λ u. other_level level n e.number e.level h)

follows : (bytes : List ℕ) (depth level : ℕ) (f : Kind × Bool) (n : ℕ) (rows : List Row) (fs : List FieldPart)
    (es t : List FieldEntry) → (is_packed f ≡ true → next_field rows n ≡ None) → Comes depth rows fs → Are bytes es
    (fields_rows depth level fs) → Above level t → Follows level f n (es ++ t)
follows bytes depth level f n rows [] [] t o c a h = follows_end level f n t h
follows bytes depth level f n rows [] (e ∷ es) t o c a h = absurd a
follows bytes depth level f n rows (g ∷ fs) es t o c a h =
    let x = first depth level g.0 g.1 g.2 c.1.holds in
    by_first x.x x.here x.number (x.xs ++ fields_rows depth level fs) es
    (subst (Are bytes es) (rows_more depth level g fs ∙ ap
    (λ (rs : List TableRow). rs ++ fields_rows depth level fs) x.is) a)
  where
    by_first : (x : TableRow) → x.level ≡ level → x.number ≡ g.0 → (xs : List TableRow) (es : List FieldEntry) → Are
        bytes es (x ∷ xs) → Follows level f n (es ++ t)
    by_first x l i xs [] b = absurd b
    by_first x l i xs (e ∷ es) b =
        let same : e.level ≡ level = ap (λ (y : TableRow). y.level) b.0 ∙ l in
        let number : e.number ≡ g.0 = ap (λ (y : TableRow). y.number) b.0 ∙ i in (
          omega (arith, same),
          λ u. other_number rows level n e.number e.level c.0 (ap (next_field rows) number ∙ c.1.is) (o u),
        )

-- ---- all fields of a message

ends : (bytes : List ℕ) (s : ℕ) (left : List Row) (last : Option ℕ) (level depth : ℕ) (t : List FieldEntry) → Above
    level t → walk bytes s left last Nothing level depth t ≡ Ok []
unfolding walk
ends bytes s left last level depth [] h = refl
ends bytes s left last level depth (e ∷ es) h = stops bytes s left last Nothing level depth e es h

fields_walk : (bytes : List ℕ) (depth s level : ℕ) (t : List FieldEntry) → Below bytes depth → Above level t →
    (fs : List FieldPart) (left : List Row) (last : Option ℕ) → Comes depth left fs → (es : List FieldEntry) → Are bytes
    es (fields_rows depth level fs) → walk bytes s left last Nothing level depth (es ++ t) ≡ Ok (fields_payload fs)
fields_walk bytes depth s level t inner h [] left last c [] a = ends bytes s left last level depth t h
fields_walk bytes depth s level t inner h [] left last c (e ∷ es) a = absurd a
fields_walk bytes depth s level t inner h (f ∷ fs) left last c es a =
    let p = split bytes es (level_rows (field_entries depth level f)) (fields_rows depth level fs)
    (subst (Are bytes es) (rows_more depth level f fs) a) in
    let later = fields_walk bytes depth s level t inner h fs c.0.rows (Some f.0) c.2 p.back p.behind in
    let next = follows bytes depth level f.1 f.0 c.0.rows fs p.back t c.1.once c.2 p.behind h in
    ap (λ (xs : List FieldEntry). walk bytes s left last Nothing level depth (xs ++ t)) p.is
    ∙ ap (walk bytes s left last Nothing level depth) (append_assoc p.front p.back t)
    ∙ field_walks bytes depth s left last level f.0 f.1 c.0 (p.back ++ t) inner next f.2 c.1 p.front p.ahead
    ∙ ap (onto (written_field f.0 f.1 f.2)) later
    ∙ ap (λ (bs : List ℕ). Ok bs) (sym (flat_map-append record_bytes (field_records f) (flat_map field_records fs)))

message_walk : (bytes : List ℕ) (depth : ℕ) → Below bytes depth → Inner bytes depth
message_walk bytes depth inner = λ level t ps es rest f l a b.
    fields_walk bytes depth t level rest inner b (message_fields (table t) ps) (table t) None
    (message_comes depth t ps f l) es a
    ∙ ap (λ (bs : List ℕ). Ok bs) (payload_back t ps f)

pub messages_walk : (bytes : List ℕ) (depth : ℕ) → Inner bytes depth
messages_walk bytes zero = message_walk bytes zero tt
messages_walk bytes (suc below) = message_walk bytes (suc below) (messages_walk bytes below)
