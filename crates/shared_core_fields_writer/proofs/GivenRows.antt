-- The rows that a table gives are those of what its payload means.
use Rattle.std.proofs.Common.{◌≡◌, length, ℕ, zero, suc, ◌+◌, ◌%◌, ◌^◌, ◌<◌, ◌≤◌, List, [], ◌∷◌, ◌++◌, map, Bool}
use Rattle.std.proofs.Common.{true, false, cond, ◌&&◌, ◌||◌, Option, Some, None, Result, Ok, Err, refl, sym, ap}
use Rattle.std.proofs.Common.{◌∙◌, length-append, eqb, ltb, get_or, arith, take, drop}
use Rattle.std.proofs.lemmas.Bool.{lt-ltb, le-ltb, ltb-true, ltb-false, eqb-true, eq-eqb, ne_eqb}
use Rattle.std.proofs.lemmas.List.{map-append}
use Rattle.std.proofs.lemmas.List.Folds.{list_all-append}
use Rattle.std.proofs.Math.Bool.{and-false}
use Rattle.std.specs.List.{list_all}
use Rattle.std.specs.Str.{is_utf8}
use Rattle.shared_core_wire.specs.Grammar.{RecordValue, Varint, Length, FieldRecord, IsSequence}
use Rattle.shared_core_wire.specs.Reader.{record_list}
use Rattle.shared_core_wire.specs.Encoding.{shortest_varint, key_bytes, record_bytes, record_list_bytes}
use Rattle.shared_core_wire.specs.Schema.{Kind, Row, U32, U64, Boolean, Enumeration, Text, ByteString, Message, Plain}
use Rattle.shared_core_wire.specs.Schema.{Optional, Repeated, OneOf}
use Rattle.shared_core_wire.specs.Value.{Part, Parts, Nested, Elements, cons}
use Rattle.shared_core_wire.specs.Canonical.{written_number, message_records, canonical_payload, levels}
use Rattle.shared_core_wire.specs.Fitting.{Fits}
use Rattle.shared_core_wire.specs.Acceptance.{accepts_number, accepts_bytes}
use Rattle.shared_core_wire.specs.Overlay.{meaning, number_parts}
use Rattle.shared_core_wire.proofs.Runs.{and_split, and_join}
use Rattle.shared_core_wire.proofs.Readers.{some_is}
use Rattle.shared_core_wire.proofs.ReadBackLevels.{canonical_back}
use Rattle.shared_core_wire.proofs.EncodingLaws.{encodable, encodable_value, varints_encoded}
use Rattle.shared_core_codec.specs.Table.{table}
use Rattle.shared_core_codec.specs.RowEncoding.{varint_record, length_record}
use Rattle.shared_core_codec.specs.Payloads.{payload_meaning}
use Rattle.shared_core_codec.specs.ProgramRows.{field_in_row, field_numbered}
use Rattle.shared_core_codec.specs.Canonicity.{Next, next_field, is_written_number}
use Rattle.shared_core_codec.specs.Canonicity.{found_or, is_plain, is_packed}
use Rattle.shared_core_codec.proofs.Tables.{are_schemas, is_table}
use Rattle.shared_core_codec.proofs.Canonicity.{are_bytes, are_bytes_of, IsWritten, payload_sound}
use Rattle.shared_core_codec.proofs.Canonicity.{canonical_below}
use Rattle.shared_core_codec.proofs.CanonicityExact.{records_encoded, records_encode}
use Rattle.shared_core_codec.proofs.NextFields.{AreLeft, all_left, next_left}
use Rattle.shared_core_fields.specs.Fields.{FieldPart, message_fields, record_part}
use Rattle.shared_core_fields.specs.Runs.{numbers_or_none}
use Rattle.shared_core_fields.specs.Entries.{field_entries}
use Rattle.shared_core_fields.specs.Rows.{TableRow, kind_number, number_row, run_rows, level_rows}
use Rattle.shared_core_fields.specs.Rows.{fields_rows, table_rows, entry_row}
use Rattle.shared_core_fields.specs.declared.table.FieldEntry.{FieldEntry}
use Rattle.shared_core_fields.proofs.ByValue.{found_field, record_field, fields_by_value}
use Rattle.shared_core_fields.proofs.FewRows.{whole_rows}
use Rattle.shared_core_fields.proofs.NumberParts.{written_part, number_field_part}
use Rattle.shared_core_fields.proofs.ValueParts.{run_part}
use Rattle.shared_core_fields.proofs.Written.{rows_more}
use Rattle.shared_core_fields_writer.specs.declared.error.Reason.{Reason}
use Rattle.shared_core_fields_writer.specs.declared.error.Reason.TheVariants.{WrongKind, NotUtf8, OutOfRange}
use Rattle.shared_core_fields_writer.specs.declared.error.Reason.TheVariants.{WrongLevel}
use Rattle.shared_core_fields_writer.specs.declared.error.Reason.TheVariants.{OutOfBounds}
use Rattle.shared_core_fields_writer.specs.Given.{Given, Number as GivenNumber, Content, Opens, given, value_given}
use Rattle.shared_core_fields_writer.specs.Given.{number_given, text_given, bytes_given, content, field_next}
use Rattle.shared_core_fields_writer.specs.Walk.{Walked, onto, nested_onto, message_walk, number_walk, value_walk}
use Rattle.shared_core_fields_writer.specs.Walk.{field_walk, more_walk, is_within, is_more, run_kind, entries_payload}
use Rattle.shared_core_fields_writer.specs.Walk.{More, Nothing, Within, Numbers, run_numbers, varints, walk}
use Rattle.shared_core_fields_writer.specs.Tables.{has_bytes, given_row, gives_default, gives_nothing, given_rows}
use Rattle.shared_core_fields_writer.proofs.Canonical.{Good, all_good, step, records_of}
use Rattle.shared_core_fields_writer.proofs.Canonical.{nested_canonical, onto_split, run_written_each, found_is}
use Rattle.shared_core_fields_writer.proofs.Canonical.{number_of, content_of, opens_of, of_kind, written_of}
use Rattle.shared_core_fields_writer.proofs.Canonical.{packed_parts}
use Rattle.shared_core_fields_writer.proofs.Canonical.{short_is, all_bytes}
use Rattle.shared_core_fields_writer.proofs.Canonical.{payload_is_canonical}
use Rattle.shared_core_fields_writer.proofs.TableBack.{number_rows, bytes_rows, runs_rows, message_rows}

-- ---- what the entries of a message give, by the first of them

module _ (bytes : List ℕ) (s level : ℕ) (e : FieldEntry) (es : List FieldEntry) where
  gives_end : e.level < level → given_rows bytes s level (e ∷ es) ≡ []
  unfolding given_rows
  gives_end h = rw (lt-ltb _ _ h) refl

  gives_deeper : level < e.level → given_rows bytes s level (e ∷ es) ≡ given_rows bytes s level es
  unfolding given_rows
  gives_deeper h = rw (le-ltb e.level level (omega (arith, h)), lt-ltb _ _ h) refl

  module _ (h : e.level ≡ level) where
    gives_none : gives_nothing (next_field (table s) e.number) (entry_row bytes e) ≡ true → given_rows bytes s level
        (e ∷ es) ≡ given_rows bytes s level es
    unfolding given_rows
    gives_none n = rw (le-ltb e.level level (omega (arith, h)), le-ltb level e.level (omega (arith, h)), n) refl

    gives_own : gives_nothing (next_field (table s) e.number) (entry_row bytes e) ≡ false → eqb e.kind 7 ≡ false →
        given_rows bytes s level (e ∷ es) ≡ given_row (entry_row bytes e) ∷ given_rows bytes s level es
    unfolding given_rows
    gives_own n k = rw (
      le-ltb e.level level (omega (arith, h)),
      le-ltb level e.level (omega (arith, h)),
      n,
      k,
    ) refl

    gives_message : gives_nothing (next_field (table s) e.number) (entry_row bytes e) ≡ false → e.kind ≡ 7 → given_rows
        bytes s level (e ∷ es) ≡ given_row (entry_row bytes e) ∷ (given_rows bytes e.value (suc level) es ++ given_rows
        bytes s level es)
    unfolding given_rows
    gives_message n k = rw (
      le-ltb e.level level (omega (arith, h)),
      le-ltb level e.level (omega (arith, h)),
      n,
      eq-eqb _ _ k,
    ) refl

-- ---- what an entry gives

-- A row that gives a number.
abbrev plain_row : ℕ → ℕ → ℕ → ℕ → TableRow
plain_row level n kind value = record { level = level; number = n; kind = kind; value = value; bytes = [] }

-- A row that gives bytes.
abbrev content_row : ℕ → ℕ → ℕ → List ℕ → TableRow
content_row level n kind bytes = record { level = level; number = n; kind = kind; value = 0; bytes = bytes }

module _ (bytes : List ℕ) (e : FieldEntry) where
  kind_is : (k : Kind) (g : Given) → given bytes k e ≡ Ok g → e.kind ≡ kind_number k
  kind_is k g = by_test (eqb e.kind (kind_number k)) refl
    where
      by_test : (b : Bool) → eqb e.kind (kind_number k) ≡ b → cond b (value_given bytes k e) (Err WrongKind) ≡ Ok g →
          e.kind ≡ kind_number k
      by_test true i w = eqb-true _ _ i
      by_test false i w = absurd cc

  number_same : (k : Kind) (v : ℕ) → number_given k e ≡ Ok (GivenNumber v) → e.value ≡ v
  number_same k v = by_test (ltb e.value 18446744073709551616 && is_written_number k e.value)
    where
      by_test : (b : Bool) → cond b (Ok (GivenNumber e.value)) (Err OutOfRange) ≡ Ok (GivenNumber v) → e.value ≡ v
      by_test true w = cc
      by_test false w = absurd cc

  number_row_given : (k : Kind) (v : ℕ) → is_written_number k v ≡ true → given bytes k e ≡ Ok (GivenNumber v) →
      (given_row (entry_row bytes e) ≡ plain_row e.level e.number (kind_number k) v) × (gives_default
      (entry_row bytes e) ≡ eqb v 0) × (eqb e.kind 7 ≡ false)
  number_row_given k v h w = by_kind k h (kind_is k (GivenNumber v) w) (of_kind bytes e k (GivenNumber v) w)
    where
      by_value : (j : ℕ) → has_bytes j ≡ false → eqb j 7 ≡ false → e.kind ≡ j → e.value ≡ v →
          (given_row (entry_row bytes e) ≡ plain_row e.level e.number j v) × (gives_default (entry_row bytes e) ≡ eqb v
          0) × (eqb e.kind 7 ≡ false)
      by_value j a b i x =
          let other : has_bytes e.kind ≡ false = ap has_bytes i ∙ a in (
            rw other (ap (λ (m : ℕ). plain_row e.level e.number m e.value) i ∙ ap (plain_row e.level e.number j) x),
            rw other (ap (λ (m : ℕ). eqb m 0) x),
            ap (λ (m : ℕ). eqb m 7) i ∙ b,
          )

      by_kind : (j : Kind) → is_written_number j v ≡ true → e.kind ≡ kind_number j → value_given bytes j e ≡ Ok
          (GivenNumber v) → (given_row (entry_row bytes e) ≡ plain_row e.level e.number (kind_number j) v) ×
          (gives_default (entry_row bytes e) ≡ eqb v 0) × (eqb e.kind 7 ≡ false)
      by_kind U32 a i x = by_value 1 refl refl i (number_same U32 v x)
      by_kind U64 a i x = by_value 2 refl refl i (number_same U64 v x)
      by_kind Boolean a i x = by_value 3 refl refl i (number_same Boolean v x)
      by_kind Enumeration a i x = by_value 4 refl refl i (number_same Enumeration v x)
      by_kind j a i x = absurd cc

  content_same : (c : List ℕ) → bytes_given (content bytes e) ≡ Ok (Content c) → take e.length (drop e.offset bytes) ≡ c
  content_same c = by_content (content bytes e) refl
    where
      there : (b : Bool) (xs : List ℕ) → cond b (Ok (take e.length (drop e.offset bytes))) (Err OutOfBounds) ≡ Ok xs →
          take e.length (drop e.offset bytes) ≡ xs
      there true xs w = cc
      there false xs w = absurd cc

      by_content : (r : Result (List ℕ) Reason) → content bytes e ≡ r → bytes_given r ≡ Ok (Content c) → take e.length
          (drop e.offset bytes) ≡ c
      by_content (Err x) i w = absurd cc
      by_content (Ok xs) i w = let same : xs ≡ c = cc in there _ xs i ∙ same

  text_same : (c : List ℕ) → text_given (content bytes e) ≡ Ok (Content c) → bytes_given (content bytes e) ≡ Ok
      (Content c)
  text_same c = by_content (content bytes e)
    where
      by_text : (b : Bool) (xs : List ℕ) → cond b (Ok (Content xs)) (Err NotUtf8) ≡ Ok (Content c) → bytes_given (Ok xs)
          ≡ Ok (Content c)
      by_text true xs w = w
      by_text false xs w = absurd cc

      by_content : (r : Result (List ℕ) Reason) → text_given r ≡ Ok (Content c) → bytes_given r ≡ Ok (Content c)
      by_content (Err x) w = absurd cc
      by_content (Ok xs) w = by_text (is_utf8 xs) xs w

  content_row_given : (k : Kind) (c : List ℕ) → given bytes k e ≡ Ok (Content c) →
      (given_row (entry_row bytes e) ≡ content_row e.level e.number (kind_number k) c) × (gives_default
      (entry_row bytes e) ≡ eqb (length c) 0) × (eqb e.kind 7 ≡ false)
  content_row_given k c w = by_kind k (content_of bytes e (λ t b. false) k c w) (kind_is k (Content c) w)
      (of_kind bytes e k (Content c) w)
    where
      by_bytes : (j : ℕ) → has_bytes j ≡ true → eqb j 7 ≡ false → e.kind ≡ j → take e.length (drop e.offset bytes) ≡ c →
          (given_row (entry_row bytes e) ≡ content_row e.level e.number j c) × (gives_default (entry_row bytes e) ≡ eqb
          (length c) 0) × (eqb e.kind 7 ≡ false)
      by_bytes j a b i x =
          let other : has_bytes e.kind ≡ true = ap has_bytes i ∙ a in (
            rw other (ap (λ (m : ℕ). content_row e.level e.number m (take e.length (drop e.offset bytes))) i ∙ ap
                (content_row e.level e.number j) x),
            rw other (ap (λ (xs : List ℕ). eqb (length xs) 0) x),
            ap (λ (m : ℕ). eqb m 7) i ∙ b,
          )

      by_kind : (j : Kind) → accepts_bytes (λ t b. false) j c ≡ true → e.kind ≡ kind_number j → value_given bytes j e ≡
          Ok (Content c) → (given_row (entry_row bytes e) ≡ content_row e.level e.number (kind_number j) c) ×
          (gives_default (entry_row bytes e) ≡ eqb (length c) 0) × (eqb e.kind 7 ≡ false)
      by_kind Text a i x = by_bytes 5 refl refl i (content_same c (text_same c x))
      by_kind ByteString a i x = by_bytes 6 refl refl i (content_same c x)
      by_kind U32 a i x = absurd cc
      by_kind U64 a i x = absurd cc
      by_kind Boolean a i x = absurd cc
      by_kind Enumeration a i x = absurd cc
      by_kind (Message s) a i x = absurd cc

  message_is : (t : ℕ) → given bytes (Message t) e ≡ Ok (Opens t) → (e.kind ≡ 7) × (e.value ≡ t)
  message_is t w = (
    kind_is (Message t) (Opens t) w,
    by_test (eqb e.value t) refl
        (of_kind bytes e (Message t) (Opens t) w),
  )
    where
      by_test : (b : Bool) → eqb e.value t ≡ b → cond b (Ok (Opens t)) (Err WrongKind) ≡ Ok (Opens t) → e.value ≡ t
      by_test true i x = eqb-true _ _ i
      by_test false i x = absurd cc

-- ---- the rows of the field of a record

-- What the rows of fields give.
abbrev given_of : ℕ → ℕ → List FieldPart → List TableRow
given_of depth level fs = map given_row (fields_rows depth level fs)

-- The same of a field and those within it.
abbrev given_one : ℕ → ℕ → FieldPart → List TableRow
given_one depth level f = map given_row (level_rows (field_entries depth level f))

given_more : (depth level : ℕ) (f : FieldPart) (fs : List FieldPart) → given_of depth level (f ∷ fs) ≡ given_one depth
    level f ++ given_of depth level fs
given_more depth level f fs = ap (map given_row) (rows_more depth level f fs) ∙ map-append given_row
    (level_rows (field_entries depth level f)) (fields_rows depth level fs)

given_number : (level n : ℕ) (k : Kind) (m v : ℕ) → is_written_number k v ≡ true → given_row (number_row level n k m) ≡
    plain_row level n (kind_number k) (written_number k m)
given_number level n U32 m v h = refl
given_number level n U64 m v h = refl
given_number level n Boolean m v h = refl
given_number level n Enumeration m v h = refl
given_number level n k m v h = absurd cc

number_given_one : (depth level n : ℕ) (f : Kind × Bool) (v : ℕ) → v < 18446744073709551616 → is_written_number f.0 v ≡
    true → given_one depth level (n, f, record_part f (Varint v)) ≡ plain_row level n (kind_number f.0) v ∷ []
number_given_one depth level n (k, r) v z h =
    let p = written_part k v h z in
    ap (λ (q : Part). given_one depth level (n, (k, r), q)) (number_field_part k r v ∙ p.1)
    ∙ ap (map given_row) (number_rows depth level n (k, r) p.0)
    ∙ ap (λ (row : TableRow). row ∷ []) (given_number level n k p.0 v h)
    ∙ ap (λ (m : ℕ). plain_row level n (kind_number k) m ∷ []) p.2

content_given_one : (depth level n : ℕ) (f : Kind × Bool) (c : List ℕ) → accepts_bytes (λ t b. false) f.0 c ≡ true →
    given_one depth level (n, f, record_part f (Length c)) ≡ content_row level n (kind_number f.0) c ∷ []
content_given_one depth level n (Text, r) c h = ap (map given_row) (bytes_rows depth level n (Text, r) c)
content_given_one depth level n (ByteString, r) c h = ap (map given_row) (bytes_rows depth level n (ByteString, r) c)
content_given_one depth level n (U32, r) c h = absurd cc
content_given_one depth level n (U64, r) c h = absurd cc
content_given_one depth level n (Boolean, r) c h = absurd cc
content_given_one depth level n (Enumeration, r) c h = absurd cc
content_given_one depth level n (Message s, r) c h = absurd cc

-- Whether a number is written for a kind, and fits 64 bits, as each of a run does.
abbrev is_one : Kind → ℕ → Bool
is_one k m = is_written_number k m && ltb m (2 ^ 64)

each_is : (k : Kind) (text ns : List ℕ) → IsSequence (IsWritten k) text ns → list_all (is_one k) ns ≡ true
each_is k text [] q = refl
each_is k text (n ∷ ns) q = and_join _ _ (and_join _ _ q.3.written (lt-ltb _ _ q.3.is.fits)) (each_is k q.1 ns q.4)

each_fits : (k : Kind) (ns : List ℕ) → list_all (is_one k) ns ≡ true → list_all (λ (m : ℕ). ltb m (2 ^ 64)) ns ≡ true
each_fits k [] h = refl
each_fits k (n ∷ ns) h =
    let e = and_split _ _ h in
    and_join _ _ (and_split (is_written_number k n) _ e.0).1 (each_fits k ns e.1)

-- The rows of the numbers of a run of a kind.
abbrev number_rows_of : Kind → ℕ → ℕ → List ℕ → List TableRow
number_rows_of k level n ns = map (plain_row level n (kind_number k)) ns

run_given : (level n : ℕ) (k : Kind) (ns : List ℕ) → list_all (is_one k) ns ≡ true → map given_row
    (run_rows level n k (number_parts k ns)) ≡ number_rows_of k level n ns
run_given level n k [] h = refl
run_given level n k (m ∷ ns) h =
    let e = and_split _ _ h in
    let one = and_split (is_written_number k m) _ e.0 in
    let p = written_part k m one.0 (ltb-true _ _ one.1) in
    ap (λ (q : Part). map given_row (run_rows level n k (cons q (number_parts k ns)))) p.1
    ∙ ap (λ (row : TableRow). row ∷ map given_row (run_rows level n k (number_parts k ns)))
    (given_number level n k p.0 m one.0)
    ∙ ap (λ (x : ℕ). plain_row level n (kind_number k) x ∷ map given_row (run_rows level n k (number_parts k ns))) p.2
    ∙ ap (λ (rs : List TableRow). plain_row level n (kind_number k) m ∷ rs) (run_given level n k ns e.1)

run_given_one : (depth level n : ℕ) (f : Kind × Bool) (ns : List ℕ) → is_packed f ≡ true → list_all (is_one f.0) ns ≡
    true → given_one depth level (n, f, record_part f (Length (varints ns))) ≡ number_rows_of f.0 level n ns
run_given_one depth level n f ns p h =
    ap (λ (q : Part). given_one depth level (n, f, q))
    (run_part table f.0 f.1 (varints ns) (packed_parts f p).0
    ∙ ap (λ (o : Option (List ℕ)). Elements (number_parts f.0 (numbers_or_none o)))
    (varints_encoded ns (each_fits f.0 ns h)))
    ∙ ap (map given_row) (runs_rows depth level n f (number_parts f.0 ns))
    ∙ run_given level n f.0 ns h

-- ---- records and what they mean

-- The fields of records, by the rows of a schema.
abbrev fields_of : ℕ → List FieldRecord → List FieldPart
fields_of s rs = map (record_field table (table s)) rs

known_fields : (depth s : ℕ) (content : List ℕ) (rs : List FieldRecord) (v : Parts) → depth ≤ 100 → content ≡
    record_list_bytes rs → list_all encodable rs ≡ true → Fits table v (table s) → levels v ≤ depth → content ≡
    canonical_payload table s v → length content < 2 ^ 64 → fields_of s rs ≡ message_fields (table s) v
known_fields depth s content rs v d i c f l k z =
    let low : levels v ≤ 100 = omega (arith, l, d) in
    let short : length (canonical_payload table s v) < 2 ^ 64 = omega (arith, ap length k, z) in
    let encodes = records_encode 100 s v f low short in
    let same : rs ≡ message_records table v (table s) = some_is _ _ (sym (records_encoded 0 rs c) ∙ ap (record_list 0)
    (sym i ∙ k) ∙ records_encoded 0 (message_records table v (table s)) encodes) in
    ap (fields_of s) same ∙ fields_by_value table is_table (table s) v (table s) (all_left s) f low encodes

bytes_split : (a b : List ℕ) → are_bytes (a ++ b) ≡ true → (are_bytes a ≡ true) × (are_bytes b ≡ true)
bytes_split a b h = and_split _ _ (sym (list_all-append (λ (x : ℕ). ltb x 256) a b) ∙ h)

-- ---- what a walk gives

-- The rows that may come are rows of the schema.
record Here (s : ℕ) (left : List Row) : Type 0 where
  good : Good left
  of : AreLeft (table s) left
  covers : (m : ℕ) (x : Next) → next_field left m ≡ Some x → next_field (table s) m ≡ Some x

-- A run that may have further numbers is of a packed field.
record IsRun (s n : ℕ) (k : Kind) : Type 0 where
  next : Next
  found : next_field (table s) n ≡ Some next
  plain : next.is_plain ≡ false
  number : accepts_number k ≡ true

abbrev InRun : ℕ → More → Option ℕ → Type 0
InRun s (Numbers k) (Some n) = IsRun s n k
InRun s more last = Unit {0}

-- The rows of the further numbers of the last field's run.
abbrev pending : More → Option ℕ → ℕ → List FieldEntry → List TableRow
pending (Numbers k) (Some n) level es = number_rows_of k level n (run_numbers level n es)
pending more last level es = []

pending_end : (more : More) (last : Option ℕ) (level : ℕ) → pending more last level [] ≡ []
pending_end (Numbers k) (Some n) level = refl
pending_end (Numbers k) None level = refl
pending_end Nothing last level = refl
pending_end Within last level = refl

pending_other : (more : More) (last : Option ℕ) (level : ℕ) (e : FieldEntry) (es : List FieldEntry) →
    (eqb e.level level && is_more more last e.number) ≡ false → pending more last level (e ∷ es) ≡ []
pending_other (Numbers k) (Some n) level e es h = rw h refl
pending_other (Numbers k) None level e es h = refl
pending_other Nothing last level e es h = refl
pending_other Within last level e es h = refl

-- Records whose fields have the rows that the entries give.
record Gives (bytes : List ℕ) (s : ℕ) (last : Option ℕ) (more : More) (level depth : ℕ) (es : List FieldEntry)
    (out : List ℕ) : Type 0 where
  rs : List FieldRecord
  is : out ≡ record_list_bytes rs
  encodes : list_all encodable rs ≡ true
  rows : given_rows bytes s level es ≡ pending more last level es ++ given_of depth level (fields_of s rs)

packed_not_plain : (left : List Row) (n : ℕ) (next : Next) → next_field left n ≡ Some next → is_packed next.field ≡ true
    → next.is_plain ≡ false
packed_not_plain [] n next e p = absurd cc
packed_not_plain (row ∷ left) n next e p = by_row (λ g. packed_not_plain left n next g p) row (field_in_row row n) refl
    e
  where
    plain_found : (b : Bool) (k : Kind) (f : Kind × Bool) → cond b (Some (k, false)) None ≡ Some f → f.1 ≡ false
    plain_found true k f e = sym (ap (λ (x : Kind × Bool). x.1) (some_is _ _ e))
    plain_found false k f e = absurd cc

    by_plain : (row : Row) (f : Kind × Bool) → field_in_row row n ≡ Some f → is_packed f ≡ true → is_plain row ≡ false
    by_plain (Plain m k) f i q = absurd (let no : true ≡ false = sym (packed_parts f q).1 ∙ plain_found (eqb n m) k f i
        in
        cc)
    by_plain (Optional m k) f i q = refl
    by_plain (Repeated m k) f i q = refl
    by_plain (OneOf members) f i q = refl

    by_row : (next_field left n ≡ Some next → next.is_plain ≡ false) → (row : Row) (o : Option (Kind × Bool)) →
        field_in_row row n ≡ o → found_or row left (next_field left n) o ≡ Some next → next.is_plain ≡ false
    by_row later row None i g = later g
    by_row later row (Some f) i g =
        let same = some_is _ next g in
        ap (λ (x : Next). x.is_plain) (sym same) ∙ by_plain row f i (ap (λ (x : Next). is_packed x.field) same ∙ p)

-- ---- the entry of a field, and those after it

module _ (bytes : List ℕ) (s : ℕ) (left : List Row) (last : Option ℕ) (more : More) (level depth : ℕ) (e : FieldEntry)
    (es : List FieldEntry) (out : List ℕ) (z : length out < 2 ^ 64) (y : are_bytes out ≡ true) (d : depth ≤ 100)
    (g : Here s left) (h : e.level ≡ level) (other : pending more last level (e ∷ es) ≡ [])
    (later : (rows : List Row) (m : Option ℕ) (mores : More) (rest : List ℕ) → walk bytes s rows m mores level depth es
    ≡ Ok rest → length rest < 2 ^ 64 → are_bytes rest ≡ true → Here s rows → InRun s mores m → Gives bytes s m mores
    level depth es rest)
    (within : (t below : ℕ) (rest : List ℕ) → walk bytes t (table t) None Nothing (suc level) below es ≡ Ok rest →
    length rest < 2 ^ 64 → are_bytes rest ≡ true → below ≤ 100 → Gives bytes t None Nothing (suc level) below es rest)
    (next : Next) (found : next_field left e.number ≡ Some next) where
  abbrev inward : ℕ → ℕ → Walked
  inward = λ t below. walk bytes t (table t) None Nothing (suc level) below es

  abbrev onward : List Row → Option ℕ → More → Walked
  onward = λ rows n mores. walk bytes s rows n mores level depth es

  here : Here s next.rows
  here =
      let f = step left e.number next g.good found in
      record {
        good = f.good;
        of = (next_left (table s) left e.number next g.of found).1;
        covers = λ m x k. g.covers m x (f.widen m x k);
      }

  owned : next_field (table s) e.number ≡ Some next
  owned = g.covers e.number next found

  numbered : field_numbered (table s) e.number ≡ Some next.field
  numbered = (next_left (table s) left e.number next g.of found).0

  nothing_is : (b : Bool) → (next.is_plain && gives_default (entry_row bytes e)) ≡ b → gives_nothing
      (next_field (table s) e.number) (entry_row bytes e) ≡ b
  nothing_is b i = ap (λ (o : Option Next). gives_nothing o (entry_row bytes e)) owned ∙ i

  -- the rest is short, and made of bytes
  shorter : (front rest : List ℕ) → out ≡ front ++ rest → length rest < 2 ^ 64
  shorter front rest o = omega (arith, z, ap length o, length-append front rest)

  bytes_after : (front rest : List ℕ) → out ≡ front ++ rest → are_bytes rest ≡ true
  bytes_after front rest o = (bytes_split front rest (ap are_bytes (sym o) ∙ y)).1

  -- the content of a record is short too
  fits : (c rest : List ℕ) → out ≡ length_record e.number c ++ rest → ltb (length c) (2 ^ 64) ≡ true
  fits c rest o = lt-ltb _ _ (omega (
    arith,
    z,
    ap length o,
    length-append (length_record e.number c) rest,
    length-append (key_bytes e.number 2) (shortest_varint (length c) ++ c),
    length-append (shortest_varint (length c)) c,
  ))

  -- one more record
  one_more : (w : RecordValue) (front : List TableRow) (rest : List ℕ) (rs : List FieldRecord) → out ≡ record_bytes
      (record { number = e.number; value = w }) ++ rest → rest ≡ record_list_bytes rs → list_all encodable rs ≡ true →
      encodable_value w ≡ true → given_one depth level (e.number, next.field, record_part next.field w) ≡ front →
      given_rows bytes s level (e ∷ es) ≡ front ++ given_of depth level (fields_of s rs) → Gives bytes s last more level
      depth (e ∷ es) out
  one_more w front rest rs o i c v k r =
      let own = step left e.number next g.good found in
      let first : FieldRecord = record { number = e.number; value = w } in
      let field : record_field table (table s) first ≡ (e.number, next.field, record_part next.field w) = ap
      (found_field table e.number w) numbered in
      record {
        rs = first ∷ rs;
        is = o ∙ ap (λ (bs : List ℕ). record_bytes first ++ bs) i;
        encodes = and_join _ _ (and_join _ _ own.own v) c;
        rows =
            r ∙ ap (λ (xs : List TableRow). xs ++ given_of depth level (fields_of s rs))
            (sym (ap (given_one depth level) field ∙ k))
            ∙ sym (given_more depth level (record_field table (table s) first) (fields_of s rs))
            ∙ ap (λ (xs : List TableRow). xs ++ given_of depth level (fields_of s (first ∷ rs))) (sym other);
      }

  no_more : (rest : List ℕ) → out ≡ rest → gives_nothing (next_field (table s) e.number) (entry_row bytes e) ≡ true →
      Gives bytes s (Some e.number) Nothing level depth es rest → Gives bytes s last more level depth (e ∷ es) out
  no_more rest o n x = record {
    rs = x.rs;
    is = o ∙ x.is;
    encodes = x.encodes;
    rows =
        gives_none bytes s level e es h n ∙ x.rows ∙ ap
        (λ (xs : List TableRow). xs ++ given_of depth level (fields_of s x.rs)) (sym other);
  }

  by_default : (v : ℕ) → is_written_number next.field.0 v ≡ true → ltb v 18446744073709551616 ≡ true → given bytes
      next.field.0 e ≡ Ok (GivenNumber v) → (b : Bool) → (next.is_plain && eqb v 0) ≡ b → onto
      (cond b [] (varint_record e.number v)) (onward next.rows (Some e.number) Nothing) ≡ Ok out → Gives bytes s last
      more level depth (e ∷ es) out
  by_default v a short k true i w =
      let x = onto_split [] (onward next.rows (Some e.number) Nothing) out w in
      let row = number_row_given bytes e next.field.0 v a k in
      no_more x.0 x.2 (nothing_is true (ap (λ b. next.is_plain && b) row.1 ∙ i))
      (later next.rows (Some e.number) Nothing x.0 x.1 (shorter [] x.0 x.2) (bytes_after [] x.0 x.2) here tt)
  by_default v a short k false i w =
      let front = varint_record e.number v in
      let x = onto_split front (onward next.rows (Some e.number) Nothing) out w in
      let row = number_row_given bytes e next.field.0 v a k in
      let rest = later next.rows (Some e.number) Nothing x.0 x.1 (shorter front x.0 x.2) (bytes_after front x.0 x.2)
      here tt in
      one_more (Varint v) (plain_row level e.number (kind_number next.field.0) v ∷ []) x.0 rest.rs x.2 rest.is
      rest.encodes short (number_given_one depth level e.number next.field v (ltb-true _ _ short) a)
      (gives_own bytes s level e es h (nothing_is false (ap (λ b. next.is_plain && b) row.1 ∙ i)) row.2
      ∙ ap (λ (r : TableRow). r ∷ given_rows bytes s level es) row.0
      ∙ ap (λ (l : ℕ). plain_row l e.number (kind_number next.field.0) v ∷ given_rows bytes s level es) h
      ∙ ap (λ (rs : List TableRow). plain_row level e.number (kind_number next.field.0) v ∷ rs) rest.rows)

  by_packed : (v : ℕ) → is_written_number next.field.0 v ≡ true → ltb v 18446744073709551616 ≡ true → given bytes
      next.field.0 e ≡ Ok (GivenNumber v) → (b : Bool) → is_packed next.field ≡ b → number_walk onward next e.number v
      (run_numbers level e.number es) b ≡ Ok out → Gives bytes s last more level depth (e ∷ es) out
  by_packed v a short k false p w = by_default v a short k (next.is_plain && eqb v 0) refl w
  by_packed v a short k true p w =
      let run = run_numbers level e.number es in
      let front = length_record e.number (varints (v ∷ run)) in
      let x = onto_split front (onward next.rows (Some e.number) (Numbers next.field.0)) out w in
      let number = (packed_parts next.field p).0 in
      let first : is_one next.field.0 v ≡ true = and_join _ _ a short in
      let all : list_all (is_one next.field.0) (v ∷ run) ≡ true = and_join _ _ first
      (each_is next.field.0 (varints run) run (run_written_each bytes s next.rows e.number level depth next.field.0 es
      x.0 number x.1)) in
      let plain = packed_not_plain left e.number next found p in
      let rest = later next.rows (Some e.number) (Numbers next.field.0) x.0 x.1 (shorter front x.0 x.2)
      (bytes_after front x.0 x.2) here (record { next = next; found = owned; plain = plain; number = number }) in
      let row = number_row_given bytes e next.field.0 v a k in
      one_more (Length (varints (v ∷ run))) (number_rows_of next.field.0 level e.number (v ∷ run)) x.0 rest.rs x.2
      rest.is rest.encodes (fits (varints (v ∷ run)) x.0 x.2)
      (run_given_one depth level e.number next.field (v ∷ run) p all)
      (gives_own bytes s level e es h (nothing_is false (ap (λ b. b && gives_default (entry_row bytes e)) plain)) row.2
      ∙ ap (λ (r : TableRow). r ∷ given_rows bytes s level es) row.0
      ∙ ap (λ (l : ℕ). plain_row l e.number (kind_number next.field.0) v ∷ given_rows bytes s level es) h
      ∙ ap (λ (rs : List TableRow). plain_row level e.number (kind_number next.field.0) v ∷ rs) rest.rows)

  by_content : (c : List ℕ) → given bytes next.field.0 e ≡ Ok (Content c) → (b : Bool) → (next.is_plain && eqb (length
      c) 0) ≡ b → onto (cond b [] (length_record e.number c)) (onward next.rows (Some e.number) Nothing) ≡ Ok out →
      Gives bytes s last more level depth (e ∷ es) out
  by_content c k true i w =
      let x = onto_split [] (onward next.rows (Some e.number) Nothing) out w in
      let row = content_row_given bytes e next.field.0 c k in
      no_more x.0 x.2 (nothing_is true (ap (λ b. next.is_plain && b) row.1 ∙ i))
      (later next.rows (Some e.number) Nothing x.0 x.1 (shorter [] x.0 x.2) (bytes_after [] x.0 x.2) here tt)
  by_content c k false i w =
      let front = length_record e.number c in
      let x = onto_split front (onward next.rows (Some e.number) Nothing) out w in
      let row = content_row_given bytes e next.field.0 c k in
      let rest = later next.rows (Some e.number) Nothing x.0 x.1 (shorter front x.0 x.2) (bytes_after front x.0 x.2)
      here tt in
      one_more (Length c) (content_row level e.number (kind_number next.field.0) c ∷ []) x.0 rest.rs x.2 rest.is
      rest.encodes (fits c x.0 x.2)
      (content_given_one depth level e.number next.field c (content_of bytes e (λ t b. false) next.field.0 c k))
      (gives_own bytes s level e es h (nothing_is false (ap (λ b. next.is_plain && b) row.1 ∙ i)) row.2
      ∙ ap (λ (r : TableRow). r ∷ given_rows bytes s level es) row.0
      ∙ ap (λ (l : ℕ). content_row l e.number (kind_number next.field.0) c ∷ given_rows bytes s level es) h
      ∙ ap (λ (rs : List TableRow). content_row level e.number (kind_number next.field.0) c ∷ rs) rest.rows)

  by_nested : (t below : ℕ) → depth ≡ suc below → given bytes next.field.0 e ≡ Ok (Opens t) → (inner : Walked) → inward
      t below ≡ inner → nested_onto e.number inner (onward next.rows (Some e.number) Within) ≡ Ok out → Gives bytes s
      last more level depth (e ∷ es) out
  by_nested t below q k (Err x) j w = absurd cc
  by_nested t below q k (Ok c) j w =
      let own = step left e.number next g.good found in
      let front = length_record e.number c in
      let x = onto_split front (onward next.rows (Some e.number) Within) out w in
      let kind : next.field.0 ≡ Message t = opens_of bytes e next.field.0 t k in
      let field : next.field ≡ (Message t, next.field.1) = ap (λ (i : Kind). (i, next.field.1)) kind in
      let plain : next.is_plain ≡ false = own.single t kind in
      let entry = message_is bytes e t (ap (λ (i : Kind). given bytes i e) (sym kind) ∙ k) in
      let short = fits c x.0 x.2 in
      let size : length c < 2 ^ 64 = ltb-true _ _ short in
      let content_bytes : are_bytes c ≡ true = (bytes_split (shortest_varint (length c)) c (bytes_split
      (key_bytes e.number 2) (shortest_varint (length c) ++ c) (bytes_split front x.0 (ap are_bytes (sym x.2) ∙
      y)).0).1).1 in
      let low : below ≤ 100 = omega (arith, q, d) in
      let inner = within t below c j size content_bytes low in
      let checked = nested_canonical below t c (records_of bytes t (table t) None Nothing (suc level) below es c j size
      (all_good t)) in
      let up : below + 1 ≡ suc below = omega arith in
      let canon = payload_sound below t c content_bytes (sym (canonical_below below (suc below) t c up) ∙ checked) in
      let fields = known_fields below t c inner.rs canon.v low inner.is inner.encodes canon.fits canon.low canon.is size
      in
      let means : payload_meaning t c ≡ canon.v = ap (meaning table 100 t) canon.is ∙ (canonical_back table are_schemas
      100 t canon.v canon.fits (omega (arith, canon.low, low)) (omega (arith, ap length canon.is, size))).1 in
      let rest = later next.rows (Some e.number) Within x.0 x.1 (shorter front x.0 x.2) (bytes_after front x.0 x.2) here
      tt in
      let inside = given_of below (suc level) (message_fields (table t) canon.v) in
      let row = plain_row level e.number 7 t in
      let mine : given_row (entry_row bytes e) ≡ row = rw (
        ap has_bytes entry.0,
        entry.0,
        entry.1,
        h,
      ) refl in
      one_more (Length c) (row ∷ inside) x.0 rest.rs x.2 rest.is rest.encodes short
      (ap (λ (f : Kind × Bool). given_one depth level (e.number, f, record_part f (Length c))) field
      ∙ ap (λ (ps : Parts). given_one depth level (e.number, (Message t, next.field.1), Nested ps)) means
      ∙ ap (λ (m : ℕ). given_one m level (e.number, (Message t, next.field.1), Nested canon.v)) q
      ∙ ap (map given_row) (message_rows below level e.number t next.field.1 canon.v))
      (gives_message bytes s level e es h (nothing_is false (ap (λ b. b && gives_default (entry_row bytes e)) plain))
      entry.0
      ∙ ap (λ (r : TableRow). r ∷ (given_rows bytes e.value (suc level) es ++ given_rows bytes s level es)) mine
      ∙ ap (λ (m : ℕ). row ∷ (given_rows bytes m (suc level) es ++ given_rows bytes s level es)) entry.1
      ∙ ap (λ (rs : List TableRow). row ∷ (rs ++ given_rows bytes s level es))
      (inner.rows ∙ ap (given_of below (suc level)) fields)
      ∙ ap (λ (rs : List TableRow). row ∷ (inside ++ rs)) rest.rows)

  by_message : (t m : ℕ) → depth ≡ m → given bytes next.field.0 e ≡ Ok (Opens t) → message_walk inward onward next
      e.number (length (e ∷ es)) t m ≡ Ok out → Gives bytes s last more level depth (e ∷ es) out
  by_message t zero q k w = absurd cc
  by_message t (suc below) q k w = by_nested t below q k (inward t below) refl w

  by_value : (v : Result Given Reason) → given bytes next.field.0 e ≡ v → value_walk inward onward next depth e.number
      (length (e ∷ es)) (run_numbers level e.number es) v ≡ Ok out → Gives bytes s last more level depth (e ∷ es) out
  by_value (Err x) k w = absurd cc
  by_value (Ok (GivenNumber v)) k w =
      let n = number_of bytes e next.field.0 v k in
      by_packed v n.written n.short k (is_packed next.field) refl w
  by_value (Ok (Content c)) k w = by_content c k (next.is_plain && eqb (length c) 0) refl w
  by_value (Ok (Opens t)) k w = by_message t depth refl k w

-- ---- entries that give no record of their own

more_given : (bytes : List ℕ) (k : Kind) (e : FieldEntry) (x : Given) → accepts_number k ≡ true → given bytes k e ≡ Ok
    x → given bytes k e ≡ Ok (GivenNumber e.value)
more_given bytes k e x a w = w ∙ by_test (ltb e.value 18446744073709551616 && is_written_number k e.value)
    (by_kind k a (of_kind bytes e k x w))
  where
    by_kind : (j : Kind) → accepts_number j ≡ true → value_given bytes j e ≡ Ok x → number_given j e ≡ Ok x
    by_kind U32 b v = v
    by_kind U64 b v = v
    by_kind Boolean b v = v
    by_kind Enumeration b v = v
    by_kind Text b v = absurd cc
    by_kind ByteString b v = absurd cc
    by_kind (Message s) b v = absurd cc

    by_test : (b : Bool) → cond b (Ok (GivenNumber e.value)) (Err OutOfRange) ≡ Ok x → ◌≡◌ {A = Result Given Reason}
        (Ok x) (Ok (GivenNumber e.value))
    by_test true v = sym v
    by_test false v = absurd cc

-- one more number of a run
more_gives : (bytes : List ℕ) (s : ℕ) (last : Option ℕ) (more : More) (level depth : ℕ) (e : FieldEntry)
    (es : List FieldEntry) (out : List ℕ) → InRun s more last → e.level ≡ level → is_more more last e.number ≡ true →
    (x : Given) → given bytes (run_kind more) e ≡ Ok x → Gives bytes s last more level depth es out → Gives bytes s last
    more level depth (e ∷ es) out
more_gives bytes s (Some n) (Numbers kind) level depth e es out r l m x i later =
    let number : e.number ≡ n = eqb-true _ _ m in
    let is = written_of bytes e kind x r.number i in
    let row = number_row_given bytes e kind e.value is.written (more_given bytes kind e x r.number i) in
    let found : next_field (table s) e.number ≡ Some r.next = ap (next_field (table s)) number ∙ r.found in
    let kept : gives_nothing (next_field (table s) e.number) (entry_row bytes e) ≡ false = ap
    (λ (o : Option Next). gives_nothing o (entry_row bytes e)) found ∙ ap
    (λ b. b && gives_default (entry_row bytes e)) r.plain in
    let here : (eqb e.level level && eqb e.number n) ≡ true = rw (eq-eqb _ _ l, m) refl in
    record {
      rs = later.rs;
      is = later.is;
      encodes = later.encodes;
      rows =
          gives_own bytes s level e es l kept row.2
          ∙ ap (λ (t : TableRow). t ∷ given_rows bytes s level es) row.0
          ∙ ap (λ (k : ℕ). plain_row k e.number (kind_number kind) e.value ∷ given_rows bytes s level es) l
          ∙ ap (λ (k : ℕ). plain_row level k (kind_number kind) e.value ∷ given_rows bytes s level es) number
          ∙ ap (λ (ts : List TableRow). plain_row level n (kind_number kind) e.value ∷ ts) later.rows
          ∙ ap (λ b. number_rows_of kind level n (cond b (e.value ∷ run_numbers level n es) []) ++ given_of depth level
          (fields_of s later.rs)) (sym here);
    }
more_gives bytes s None (Numbers kind) level depth e es out r l m x i later = absurd cc
more_gives bytes s last Nothing level depth e es out r l m x i later = absurd cc
more_gives bytes s last Within level depth e es out r l m x i later = absurd cc

-- an entry within the last field, which gave it
deeper_gives : (bytes : List ℕ) (s : ℕ) (last : Option ℕ) (more : More) (level depth : ℕ) (e : FieldEntry)
    (es : List FieldEntry) (out : List ℕ) → level < e.level → is_within more ≡ true → Gives bytes s last more level
    depth es out → Gives bytes s last more level depth (e ∷ es) out
deeper_gives bytes s last Within level depth e es out l m later = record {
  rs = later.rs;
  is = later.is;
  encodes = later.encodes;
  rows = gives_deeper bytes s level e es l ∙ later.rows;
}
deeper_gives bytes s last Nothing level depth e es out l m later = absurd cc
deeper_gives bytes s last (Numbers k) level depth e es out l m later = absurd cc

-- ---- any entry, and those after it

module _ (bytes : List ℕ) (s : ℕ) (left : List Row) (last : Option ℕ) (more : More) (level depth : ℕ) (e : FieldEntry)
    (es : List FieldEntry) (out : List ℕ) (z : length out < 2 ^ 64) (y : are_bytes out ≡ true) (d : depth ≤ 100)
    (g : Here s left) (r : InRun s more last)
    (later : (rows : List Row) (m : Option ℕ) (mores : More) (rest : List ℕ) → walk bytes s rows m mores level depth es
    ≡ Ok rest → length rest < 2 ^ 64 → are_bytes rest ≡ true → Here s rows → InRun s mores m → Gives bytes s m mores
    level depth es rest)
    (within : (t below : ℕ) (rest : List ℕ) → walk bytes t (table t) None Nothing (suc level) below es ≡ Ok rest →
    length rest < 2 ^ 64 → are_bytes rest ≡ true → below ≤ 100 → Gives bytes t None Nothing (suc level) below es rest)
  where
    none_given : e.level < level → ◌≡◌ {A = Walked} (Ok []) (Ok out) → Gives bytes s last more level depth (e ∷ es) out
    none_given l w =
        let same : [] ≡ out = cc in
        record {
          rs = [];
          is = sym same;
          encodes = refl;
          rows =
              gives_end bytes s level e es l ∙ ap (λ (xs : List TableRow). xs ++ [])
              (sym (pending_other more last level e es (rw (ne_eqb e.level level (λ x. omega (arith, x, l))) refl)));
        }

    by_next : e.level ≡ level → is_more more last e.number ≡ false → (o : Result Next Reason) → field_next (table s)
        left last e.number ≡ o → field_walk bytes (λ t below. walk bytes t (table t) None Nothing (suc level) below es)
        (λ rows n mores. walk bytes s rows n mores level depth es) level depth e es o ≡ Ok out → Gives bytes s last more
        level depth (e ∷ es) out
    by_next l m (Err x) i w = absurd cc
    by_next l m (Ok next) i w =
        by_value bytes s left last more level depth e es out z y d g l
        (pending_other more last level e es (ap (λ b. eqb e.level level && b) m ∙ and-false (eqb e.level level))) later
        within next (found_is (table s) left last e.number next i) (given bytes next.field.0 e) refl w

    by_given : e.level ≡ level → is_more more last e.number ≡ true → (o : Result Given Reason) → given bytes (run_kind
        more) e ≡ o →
        more_walk (length (e ∷ es)) (walk bytes s left last more level depth es) o ≡ Ok out → Gives bytes s last more
        level depth (e ∷ es) out
    by_given l m (Err x) i w = absurd cc
    by_given l m (Ok x) i w = more_gives bytes s last more level depth e es out r l m x i
        (later left last more out w z y g r)

    by_more : e.level ≡ level → (b : Bool) → is_more more last e.number ≡ b → cond b (more_walk (length (e ∷ es))
        (walk bytes s left last more level depth es) (given bytes (run_kind more) e)) (field_walk bytes
        (λ t below. walk bytes t (table t) None Nothing (suc level) below es)
        (λ rows n mores. walk bytes s rows n mores level depth es) level depth e es (field_next (table s) left last
        e.number)) ≡ Ok out → Gives bytes s last more level depth (e ∷ es) out
    by_more l true m w = by_given l m (given bytes (run_kind more) e) refl w
    by_more l false m w = by_next l m (field_next (table s) left last e.number) refl w

    by_within : level < e.level → (b : Bool) → is_within more ≡ b → cond b (walk bytes s left last more level depth es)
        (Err (WrongLevel, length (e ∷ es))) ≡ Ok out → Gives bytes s last more level depth (e ∷ es) out
    by_within l true m w = deeper_gives bytes s last more level depth e es out l m (later left last more out w z y g r)
    by_within l false m w = absurd cc

    by_deeper : level ≤ e.level → (b : Bool) → ltb level e.level ≡ b → cond b (cond (is_within more)
        (walk bytes s left last more level depth es) (Err (WrongLevel, length (e ∷ es)))) (cond (is_more more last
        e.number) (more_walk (length (e ∷ es)) (walk bytes s left last more level depth es) (given bytes (run_kind more)
        e))
        (field_walk bytes (λ t below. walk bytes t (table t) None Nothing (suc level) below es)
        (λ rows n mores. walk bytes s rows n mores level depth es) level depth e es (field_next (table s) left last
        e.number))) ≡ Ok out → Gives bytes s last more level depth (e ∷ es) out
    by_deeper l true i w = by_within (ltb-true _ _ i) (is_within more) refl w
    by_deeper l false i w =
        let top = ltb-false _ _ i in
        by_more (omega (arith, l, top)) (is_more more last e.number) refl w

    by_below : (b : Bool) → ltb e.level level ≡ b → cond b (Ok []) (cond (ltb level e.level) (cond (is_within more)
        (walk bytes s left last more level depth es) (Err (WrongLevel, length (e ∷ es)))) (cond (is_more more last
        e.number) (more_walk (length (e ∷ es)) (walk bytes s left last more level depth es) (given bytes (run_kind more)
        e))
        (field_walk bytes (λ t below. walk bytes t (table t) None Nothing (suc level) below es)
        (λ rows n mores. walk bytes s rows n mores level depth es) level depth e es (field_next (table s) left last
        e.number)))) ≡ Ok out → Gives bytes s last more level depth (e ∷ es) out
    by_below true i w = none_given (ltb-true _ _ i) w
    by_below false i w = by_deeper (ltb-false _ _ i) (ltb level e.level) refl w

gives_nil : (bytes : List ℕ) (s level : ℕ) → given_rows bytes s level [] ≡ []
unfolding given_rows
gives_nil bytes s level = refl

all_here : (s : ℕ) → Here s (table s)
all_here s = record { good = all_good s; of = all_left s; covers = λ m x k. k }

gives_of : (bytes : List ℕ) (s : ℕ) (left : List Row) (last : Option ℕ) (more : More) (level depth : ℕ)
    (es : List FieldEntry) (out : List ℕ) → walk bytes s left last more level depth es ≡ Ok out → length out < 2 ^ 64 →
    are_bytes out ≡ true → depth ≤ 100 → Here s left → InRun s more last → Gives bytes s last more level depth es out
unfolding walk
gives_of bytes s left last more level depth [] out w z y d g r =
    let same : [] ≡ out = cc in
    record {
      rs = [];
      is = sym same;
      encodes = refl;
      rows = gives_nil bytes s level ∙ ap (λ (xs : List TableRow). xs ++ []) (sym (pending_end more last level));
    }
gives_of bytes s left last more level depth (e ∷ es) out w z y d g r =
    by_below bytes s left last more level depth e es out z y d g r
    (λ rows m mores rest v a b h i. gives_of bytes s rows m mores level depth es rest v a b d h i)
    (λ t below rest v a b c. gives_of bytes t (table t) None Nothing (suc level) below es rest v a b c (all_here t) tt)
    (ltb e.level level) refl w

pub means_given : (s : ℕ) (es : List FieldEntry) (bytes out : List ℕ) → entries_payload s es bytes ≡ Ok out →
    ((i d : ℕ) → i < length out → get_or out i d < 256) → given_rows bytes s 0 es ≡ map given_row
    (table_rows s (payload_meaning s out))
unfolding entries_payload
means_given s es bytes out e b =
    let w = short_is (walk bytes s (table s) None Nothing 0 100 es) out e in
    let c = payload_is_canonical s es bytes out e b in
    let short : length out < 2 ^ 64 = omega (arith, w.short) in
    let x = gives_of bytes s (table s) None Nothing 0 100 es out w.is short (are_bytes_of out (all_bytes out b))
    (omega arith) (all_here s) tt in
    x.rows
    ∙ ap (given_of 100 0) (known_fields 100 s out x.rs (payload_meaning s out) (omega arith) x.is x.encodes c.fits c.low
    c.canonical short)
    ∙ ap (map given_row) (whole_rows s out c).0
