-- The records of a canonical payload: each is one that may come next, with a typed value.
use Rattle.std.proofs.Common.{◌≡◌, ℕ, ◌-◌, ◌^◌, ◌<◌, List, [], ◌∷◌, length, map, Bool, true, false, cond, ◌&&◌, Option}
use Rattle.std.proofs.Common.{Some, None, Result, Ok, Err, refl, sym, ap, ◌∙◌, arith, ltb, take, drop}
use Rattle.std.proofs.lemmas.Bool.{lt-ltb}
use Rattle.std.specs.Str.{is_utf8}
use Rattle.shared_core_wire.specs.Grammar.{RecordValue, Varint, Fixed64, Length, Group, Fixed32, FieldRecord, content}
use Rattle.shared_core_wire.specs.ReadRecords.{PlacedRecord, read_records, without_place}
use Rattle.shared_core_wire.specs.Places.{LiesBefore, EachLies}
use Rattle.shared_core_wire.specs.Encoding.{record_list_bytes}
use Rattle.shared_core_wire.specs.Schema.{Table, Kind, Row, U32, U64, Boolean, Enumeration, Text, ByteString, Message}
use Rattle.shared_core_wire.specs.Canonical.{message_records, canonical_payload}
use Rattle.shared_core_wire.specs.Overlay.{meaning}
use Rattle.shared_core_wire.specs.declared.error.WireError.{WireError}
use Rattle.shared_core_wire.proofs.Readers.{bind_some, not_stopped, passed, some_is}
use Rattle.shared_core_wire.proofs.ReadRecords.{read_only}
use Rattle.shared_core_wire.proofs.RecordLists.{records_reads}
use Rattle.shared_core_wire.proofs.Runs.{and_split, and_join}
use Rattle.shared_core_codec.specs.Tables.{IsTable}
use Rattle.shared_core_codec.specs.ProgramRows.{field_numbered}
use Rattle.shared_core_codec.specs.Canonicity.{IsCanonicalIn, Next, Coming, is_written_field, next_field}
use Rattle.shared_core_codec.specs.Canonicity.{rows_after_field, rows_after, written_size, coming_after, all_come}
use Rattle.shared_core_codec.proofs.CanonicityIn.{total_size, rows_may_be_empty}
use Rattle.shared_core_codec.proofs.CanonicityExactIn.{value_comes, records_encode, records_encoded, canonical_comes}
use Rattle.shared_core_codec.proofs.NextFields.{AreLeft, all_left_in, next_left}
use Rattle.shared_core_fields.specs.Coming.{is_nested_in, is_typed_in, is_short, are_coming_in}
use Rattle.shared_core_fields.specs.Fields.{FieldPart, record_part_in, message_fields}
use Rattle.shared_core_fields.specs.Views.{IsAt, EachIsAt, content_offset, placed_record, unplaced, item_fields_in}
use Rattle.shared_core_fields.specs.Views.{PlacedField, given, message_schemas, placed_of, IsOf, EachIsOf}
use Rattle.shared_core_fields.proofs.ByValue.{found_field, record_field, schemas, fields_by_value}

-- ---- typed values

module _ (table : Table) where
  field_typed : (plain : Bool) (f : Kind × Bool) (w : RecordValue)
      → is_written_field (is_nested_in table) plain f w ≡ true →
      is_typed_in table f w ≡ true
  field_typed plain (k, true) w e = e
  field_typed plain (k, false) w e = (and_split _ _ e).0

  text_typed : (repeated : Bool) (bytes : List ℕ) → is_typed_in table (Text, repeated) (Length bytes) ≡ true
      → is_utf8 bytes ≡ true
  text_typed true bytes e = e
  text_typed false bytes e = e

  typed_as : (k j : Kind) (repeated : Bool) (w : RecordValue) (bytes : List ℕ) → k ≡ j → w ≡ Length bytes
      → is_typed_in table
      (k, repeated) w ≡ true → is_typed_in table (j, repeated) (Length bytes) ≡ true
  typed_as k j repeated w bytes e f h = ap (λ (v : RecordValue). is_typed_in table (j, repeated) v) (sym f) ∙ ap
      (λ (i : Kind). is_typed_in table (i, repeated) w) (sym e) ∙ h

  pub typed_text : (k : Kind) (repeated : Bool) (w : RecordValue) (bytes : List ℕ) → k ≡ Text → w ≡ Length bytes →
      is_typed_in table (k, repeated) w ≡ true → is_utf8 bytes ≡ true
  typed_text k repeated w bytes e f h = text_typed repeated bytes (typed_as k Text repeated w bytes e f h)

  -- ---- one record

  -- The field that may come next; the record is an occurrence of it.
  record Turn (rows left : List Row) (r : FieldRecord) (coming : List Row) : Type 0 where
    next : Next
    is : next_field left r.number ≡ Some next
    rest : next.rows ≡ coming
    found : field_numbered rows r.number ≡ Some next.field
    typed : is_typed_in table next.field r.value ≡ true
    follow : AreLeft rows next.rows

  turn : (rows left : List Row) (room : ℕ) (r : FieldRecord) (next : Coming) → AreLeft rows left
      → coming_after (is_nested_in table)
      (left, room) r ≡ Some next → Turn rows left r next.0
  turn rows left room r next a i =
      let t = bind_some (rows_after (is_nested_in table) left r) (λ (z : List Row). cond (ltb room (written_size r))
      None
      (Some (z, room - written_size r))) next i in
      let u = not_stopped (ltb room (written_size r)) (Some (t.0, room - written_size r)) next t.2 in
      let same : (t.0, room - written_size r) ≡ next = some_is _ next u.1 in
      let q = bind_some (next_field left r.number) (rows_after_field (is_nested_in table) r.value) t.0 t.1 in
      let p = passed (is_written_field (is_nested_in table) q.0.is_plain q.0.field r.value) (Some q.0.rows) t.0 q.2 in
      let here = next_left rows left r.number q.0 a q.1 in
      record {
        next = q.0;
        is = q.1;
        rest = some_is _ t.0 p.1 ∙ ap (λ (z : Coming). z.0) same;
        found = here.0;
        typed = field_typed q.0.is_plain q.0.field r.value p.0;
        follow = here.1;
      }

  -- ---- the items

  record Comes (rows left : List Row) (items : List (Result PlacedRecord WireError)) (rs : List FieldRecord) : Type 0
    where
      coming : are_coming_in table left items ≡ true
      fields : map unplaced (item_fields_in table left items) ≡ map (record_field table rows) rs

  items_come : (rows left : List Row) (room : ℕ) (payload : List ℕ) (items : List (Result PlacedRecord WireError))
      (rs : List FieldRecord) → length payload < 4294967296
      → AreLeft rows left → all_come (is_nested_in table) (left, room) rs ≡ true
      → map without_place items ≡ map Ok rs → EachLies
      payload items → Comes rows left items rs
  items_come rows left room payload [] [] z a h e l = record { coming = refl; fields = refl }
  items_come rows left room payload [] (r ∷ rs) z a h e l = absurd cc
  items_come rows left room payload (Ok p ∷ items) [] z a h e l = absurd cc
  items_come rows left room payload (Err x ∷ items) [] z a h e l = absurd cc
  items_come rows left room payload (Err x ∷ items) (r ∷ rs) z a h e l = absurd cc
  items_come rows left room payload (Ok p ∷ items) (r ∷ rs) z a h e l =
      let head : p.field_record ≡ r = cc in
      let tail : map without_place items ≡ map Ok rs = cc in
      by_next (λ rest space b g. items_come rows rest space payload items rs z b g tail l.1) head
      (coming_after (is_nested_in table) (left, room) p.field_record) refl
      (ap (λ (x : FieldRecord). all_come (is_nested_in table) (left, room) (x ∷ rs)) head ∙ h)
    where
      by_next : ((rest : List Row) (space : ℕ) → AreLeft rows rest → all_come (is_nested_in table) (rest, space) rs ≡
          true → Comes
          rows rest items rs) → p.field_record ≡ r
          → (o : Option Coming) → coming_after (is_nested_in table) (left, room) p.field_record ≡ o →
          (elim o [ None ↦ false | Some next ↦ all_come (is_nested_in table) next rs ]) ≡ true
          → Comes rows left (Ok p ∷ items) (r ∷ rs)
      by_next come head None i g = absurd cc
      by_next come head (Some next) i g =
          let t = turn rows left room p.field_record next a i in
          let later = come t.next.rows next.1 t.follow (ap (λ (z : List Row). all_come (is_nested_in table) (z, next.1)
          rs) t.rest ∙
          g) in
          let short : is_short p.field_record.value ≡ true = lt-ltb _ _ (omega (arith, l.0.0, l.0.1, z)) in
          let rest = map (record_field table rows) rs in
          record {
            coming =
                ap (λ (o : Option Next). elim o [
                  | None ↦ false
                  | Some n ↦ (is_short p.field_record.value && is_typed_in table n.field p.field_record.value) &&
                      are_coming_in table n.rows
                      items
                ]) t.is
                ∙ and_join _ _ (and_join _ _ short t.typed) later.coming;
            fields =
                ap (λ (o : Option Next). map unplaced (elim o [
                  | None ↦ []
                  | Some n ↦ placed_record (
                    p.field_record.number,
                    n.field,
                    record_part_in table n.field
                        p.field_record.value,
                  ) p
                      ∷ item_fields_in table n.rows items
                ])) t.is
                ∙ ap (λ (fs : List FieldPart). (
                  p.field_record.number,
                  t.next.field,
                  record_part_in table t.next.field
                      p.field_record.value,
                ) ∷ fs) later.fields
                ∙ ap (λ (o : Option (Kind × Bool)). found_field table p.field_record.number p.field_record.value o ∷
                rest)
                (sym t.found)
                ∙ ap (λ (x : FieldRecord). record_field table rows x ∷ rest) head;
          }

-- ---- where the bytes are

pub content_at : (payload : List ℕ) (to : ℕ) (w : RecordValue) → LiesBefore payload to w → IsAt payload
    (content_offset w to) (content w)
content_at payload to (Length bytes) l =
    let as_many : length bytes ≡ to - (to - length bytes) = omega (arith, l.1) in
    (omega (arith, l.0, l.1), ap (λ (n : ℕ). take n (drop (to - length bytes) payload)) as_many ∙ l.2)
content_at payload to (Varint n) l = (omega arith, refl)
content_at payload to (Fixed64 bytes) l = (omega arith, refl)
content_at payload to (Group bytes) l = (omega arith, refl)
content_at payload to (Fixed32 bytes) l = (omega arith, refl)

module _ (table : Table) where
  pub each_at : (payload : List ℕ) (rows : List Row) (items : List (Result PlacedRecord WireError)) → EachLies payload
      items → EachIsAt payload (item_fields_in table rows items)
  each_at payload rows [] l = tt
  each_at payload rows (Err e ∷ items) l = tt
  each_at payload rows (Ok r ∷ items) l = by_next (λ rest. each_at payload rest items l.1) (next_field rows
      r.field_record.number)
    where
      by_next : ((rest : List Row) → EachIsAt payload (item_fields_in table rest items)) → (o : Option Next)
          → EachIsAt payload
          (elim o [
            | None ↦ []
            | Some next ↦ placed_record (
              r.field_record.number,
              next.field,
              record_part_in table next.field
                  r.field_record.value,
            ) r
                ∷ item_fields_in table next.rows items
          ])
      by_next more None = tt
      by_next more (Some next) = (content_at payload r.to r.field_record.value l.0, more next.rows)

-- ---- with tables

pub given_back : {T : Type 0} (schemas : T) (fs : List PlacedField) → map placed_of (map (given schemas) fs) ≡ fs
given_back schemas [] = refl
given_back schemas (f ∷ fs) = ap (λ (gs : List PlacedField). f ∷ gs) (given_back schemas fs)

own : {T : Type 0} (schemas : T) (k : Kind) → IsOf schemas (message_schemas schemas k)
own schemas (Message s) = refl
own schemas U32 = tt
own schemas U64 = tt
own schemas Boolean = tt
own schemas Enumeration = tt
own schemas Text = tt
own schemas ByteString = tt

pub each_of : {T : Type 0} (schemas : T) (fs : List PlacedField) → EachIsOf schemas (map (given schemas) fs)
each_of schemas [] = tt
each_of schemas (f ∷ fs) = (own schemas f.field.1.0, each_of schemas fs)

-- ---- a canonical payload

module _ (table : Table) where
  pub record Reads (s : ℕ) (bytes : List ℕ) : Type 0 where
    pub coming : are_coming_in table (table s) (read_records 0 bytes) ≡ true
    pub fields : map unplaced (item_fields_in table (table s) (read_records 0 bytes)) ≡ message_fields (table s)
        (meaning table 100 s bytes)

  pub reads : IsTable table → (s : ℕ) (bytes : List ℕ) → IsCanonicalIn table s bytes
      → EachLies bytes (read_records 0 bytes) → Reads s bytes
  unfolding read_records
  reads valid s bytes c l =
      let v = meaning table 100 s bytes in
      let rs = message_records table v (table s) in
      let same : length bytes ≡ length (canonical_payload table s v) = ap length c.canonical in
      let z : length (canonical_payload table s v) < 2 ^ 64 = omega (arith, same, c.short) in
      let encodes = records_encode table valid 100 s v c.fits c.low z in
      let items = ap (λ (bs : List ℕ). map without_place (read_records 0 bs)) c.canonical ∙ read_only 0 rs
      (length (record_list_bytes rs)) (record_list_bytes rs)
      (records_reads 0 (record_list_bytes rs) rs (records_encoded 0 rs encodes)) in
      let short : length bytes < 4294967296 = omega (arith, c.short) in
      let comes = value_comes table (is_nested_in table) 100 (λ t ps f k y. canonical_comes table valid 100 t ps f
      (omega arith) y) v (table s)
      (and_split _ _ (schemas table valid s)).1 (rows_may_be_empty table valid s) c.fits c.low encodes in
      let read = items_come table (table s) (table s) (total_size rs) bytes (read_records 0 bytes) rs short (all_left_in
      table valid s) comes
      items l in
      record {
        coming = read.coming;
        fields = read.fields ∙ fields_by_value table valid (table s) v (table s) (all_left_in table valid s) c.fits
            c.low encodes;
      }
