-- The rows of the records of a payload that is checked.
use Rattle.std.proofs.Common.{◌≡◌, ℕ, zero, suc, ◌+◌, ◌-◌, ◌*◌, ◌%◌, ◌^◌, ◌<◌, ◌≤◌, Bool, true, false, cond, ◌&&◌, ◌||◌}
use Rattle.std.proofs.Common.{List, [], ◌∷◌, ◌++◌, map, take, drop, set, length, Option, Some, None, Result, Ok}
use Rattle.std.proofs.Common.{refl, sym, ap, ◌∙◌, subst, arith, append-nil, min, ltb, eqb, inl, inr, get_or}
use Rattle.std.proofs.lemmas.Bool.{cases_lt, ltb-true, le-ltb}
use Rattle.std.proofs.lemmas.List.{length-append, length-map, length-set, take_all, drop_all, take-append-le}
use Rattle.std.specs.Prelude.{flat_map, option_map, IfSome, not}
use Rattle.shared_core_wire.specs.Grammar.{RecordValue, Varint, Length, FieldRecord, content}
use Rattle.shared_core_wire.specs.Encoding.{shortest_varint, key_bytes}
use Rattle.shared_core_wire.specs.Reader.{◌>>=◌, varint_at, sequence_past, packed_numbers}
use Rattle.shared_core_wire.specs.Schema.{Kind, Row, Text, ByteString, Message}
use Rattle.shared_core_wire.specs.Value.{Part, Parts, Number, Bytes, Nested, Elements}
use Rattle.shared_core_wire.specs.Canonical.{written_number, canonical_payload}
use Rattle.shared_core_codec.specs.FieldParts.{parts_of}
use Rattle.shared_core_wire.specs.declared.error.WireError.{WireError}
use Rattle.shared_core_wire.proofs.Runs.{and_split}
use Rattle.shared_core_wire.proofs.Shortest.{shortest_small, shortest_large}
use Rattle.shared_core_codec.specs.Table.{table}
use Rattle.shared_core_codec.specs.Payloads.{payload_meaning}
use Rattle.shared_core_wire.specs.Acceptance.{NestedAcceptance, accepts_number}
use Rattle.shared_core_wire.specs.ReadRecords.{PlacedRecord}
use Rattle.shared_core_wire.specs.Places.{LiesBefore}
use Rattle.shared_core_codec.specs.Canonicity.{IsCanonical, is_written_number, is_canonical_payload, written_size}
use Rattle.shared_core_codec.specs.Canonicity.{Next, Coming, next_field, is_written_field, rows_after_field}
use Rattle.shared_core_codec.specs.Canonicity.{coming_after, all_come_read, is_packed}
use Rattle.shared_core_codec.proofs.Canonicity.{are_bytes_of, payload_sound, sound}
use Rattle.shared_core_codec.proofs.CanonicityExact.{canonical_comes}
use Rattle.shared_core_fields.specs.Fields.{FieldPart, record_part, message_fields}
use Rattle.shared_core_fields.specs.Runs.{held_numbers, numbers_or_none, run_numbers}
use Rattle.shared_core_fields.specs.Entries.{LevelField, field_entries}
use Rattle.shared_core_fields.specs.Rows.{TableRow, entry_row, run_rows, bytes_row, number_entry, level_rows}
use Rattle.shared_core_fields.specs.Rows.{bytes_entry, fields_rows, table_rows, kind_number, IsPlaced}
use Rattle.shared_core_fields.specs.Rows.{written_at, WritesRows}
use Rattle.shared_core_fields.specs.Views.{IsAt, unplaced, item_fields, placed_record, content_offset}
use Rattle.shared_core_fields.specs.Checked.{WritesNext, WritesTo, record_rows}
use Rattle.shared_core_fields.specs.declared.table.FieldEntry.{FieldEntry}
use Rattle.shared_core_fields.proofs.FewRows.{whole_rows}
use Rattle.shared_core_fields.proofs.NumberParts.{written_part, number_field_part}
use Rattle.shared_core_fields.proofs.Reading.{content_at}
use Rattle.shared_core_fields.proofs.ValueParts.{held_part}
use Rattle.shared_core_fields.proofs.Written.{one, joined, held_length, rows_more, at_within}

-- ---- numbers

number_field : (left level n : ℕ) (k : Kind) (repeated : Bool) (m : ℕ) → field_entries left level
    (n, (k, repeated), Number m) ≡ (level, (n, (k, repeated), Number m)) ∷ []
unfolding field_entries
number_field zero level n k repeated m = refl
number_field (suc left) level n k repeated m = refl

number_row_of : (payload : List ℕ) (left n : ℕ) (k : Kind) (repeated : Bool) (j m : ℕ) → written_number k j ≡ m →
    level_rows (field_entries left (100 - left) (n, (k, repeated), Number j)) ≡ entry_row payload
    (number_entry k m n (100 - left)) ∷ []
number_row_of payload left n k repeated j m e =
    ap (λ (es : List LevelField). level_rows es) (number_field left (100 - left) n k repeated j)
    ∙ ap (λ (i : ℕ). entry_row payload (number_entry k i n (100 - left)) ∷ []) e

pub number_rows : (payload : List ℕ) (left n : ℕ) (k : Kind) (repeated : Bool) (m : ℕ) → is_written_number k m ≡ true
    → m < 2 ^ 64
    → record_rows left n (k, repeated) (Varint m) ≡ entry_row payload (number_entry k m n (100 - left)) ∷ []
number_rows payload left n k repeated m h l =
    let p = written_part k m h l in
    ap (λ (q : Part). level_rows (field_entries left (100 - left) (n, (k, repeated), q)))
    (number_field_part k repeated m ∙ p.1)
    ∙ number_row_of payload left n k repeated p.0 m p.2

pub single : (payload : List ℕ) (rows : List TableRow) (at : ℕ) (old new : List FieldEntry) (e is : FieldEntry) → rows
    ≡ entry_row payload is ∷ [] → e ≡ is → IsPlaced payload is → new ≡ set old at e → WritesTo payload rows at old new
    (at + 1)
single payload rows at old new e is own same placed written = (
  ap (λ (rs : List TableRow). at + length rs) (sym own),
  one payload rows at old new e (own ∙ ap (λ (x : FieldEntry). entry_row payload x ∷ []) (sym same))
      (subst (IsPlaced payload) (sym same) placed) written,
)

-- ---- bytes

bytes_field : (left level n : ℕ) (k : Kind) (repeated : Bool) (bytes : List ℕ) → field_entries left level
    (n, (k, repeated), Bytes bytes) ≡ (level, (n, (k, repeated), Bytes bytes)) ∷ []
unfolding field_entries
bytes_field zero level n k repeated bytes = refl
bytes_field (suc left) level n k repeated bytes = refl

bytes_row_of : (payload : List ℕ) (left n : ℕ) (k : Kind) (repeated : Bool) (offset : ℕ) (bytes : List ℕ) → IsAt payload
    offset bytes → level_rows (field_entries left (100 - left) (n, (k, repeated), Bytes bytes)) ≡ entry_row payload
    (bytes_entry k 0 (length bytes) n offset (100 - left)) ∷ []
bytes_row_of payload left n k repeated offset bytes a =
    ap (λ (es : List LevelField). level_rows es) (bytes_field left (100 - left) n k repeated bytes)
    ∙ ap (λ (bs : List ℕ). bytes_row (100 - left) n k 0 bs ∷ []) (sym a.1)

pub text_rows : (payload : List ℕ) (left n : ℕ) (k : Kind) (repeated : Bool) (offset : ℕ) (bytes : List ℕ) → k ≡ Text →
    IsAt payload offset bytes → record_rows left n (k, repeated) (Length bytes) ≡ entry_row payload
    (bytes_entry Text 0 (length bytes) n offset (100 - left)) ∷ []
text_rows payload left n k repeated offset bytes e a =
    ap (λ (j : Kind). record_rows left n (j, repeated) (Length bytes)) e
    ∙ bytes_row_of payload left n Text repeated offset bytes a

pub byte_string_rows : (payload : List ℕ) (left n : ℕ) (k : Kind) (repeated : Bool) (offset : ℕ) (bytes : List ℕ) → k ≡
    ByteString → IsAt payload offset bytes → record_rows left n (k, repeated) (Length bytes) ≡ entry_row payload
    (bytes_entry ByteString 0 (length bytes) n offset (100 - left)) ∷ []
byte_string_rows payload left n k repeated offset bytes e a =
    ap (λ (j : Kind). record_rows left n (j, repeated) (Length bytes)) e
    ∙ bytes_row_of payload left n ByteString repeated offset bytes a

pub bytes_placed : (payload : List ℕ) (k : Kind) (m n offset level : ℕ) (bytes : List ℕ) → 5 ≤ kind_number k → IsAt
    payload offset bytes → IsPlaced payload (bytes_entry k m (length bytes) n offset level)
bytes_placed payload k m n offset level bytes h a = (a.0, λ l. absurd (omega (arith, l, h)))

-- ---- packed runs

run_field_of : (left level n : ℕ) (k : Kind) (ps : Parts) → field_entries left level (n, (k, true), Elements ps) ≡
    (level, (n, (k, true), Elements ps)) ∷ []
unfolding field_entries
run_field_of zero level n k ps = refl
run_field_of (suc left) level n k ps = refl

pub packed_rows : (left n : ℕ) (k : Kind) (repeated : Bool) (run : List ℕ) → accepts_number k ≡ true → repeated ≡ true
    → record_rows left n (k, repeated) (Length run) ≡ run_rows (100 - left) n k (parts_of Number (held_numbers k run))
packed_rows left n k repeated run a r =
    ap (λ (b : Bool). record_rows left n (k, b) (Length run)) r
    ∙ ap (λ (q : Part). level_rows (field_entries left (100 - left) (n, (k, true), q))) (held_part table k true run a)
    ∙ ap (λ (es : List LevelField). level_rows es)
    (run_field_of left (100 - left) n k (parts_of Number (held_numbers k run)))
    ∙ append-nil (run_rows (100 - left) n k (parts_of Number (held_numbers k run)))

few_past : (past : ℕ) (bytes : List ℕ) → length (numbers_or_none (sequence_past varint_at past bytes)) ≤ length bytes
unfolding sequence_past
few_past past [] = omega arith
few_past (suc past) (b ∷ bs) = omega (arith, few_past past bs)
few_past zero (b ∷ bs) = by_first (λ past. few_past past bs) (varint_at (b ∷ bs))
  where
    more : (n : ℕ) (o : Option (List ℕ)) → length (numbers_or_none o) ≤ length bs → length
        (numbers_or_none (o >>= λ xs. Some (n ∷ xs))) ≤ suc (length bs)
    more n None h = omega arith
    more n (Some xs) h = omega (arith, h)

    by_first : ((past : ℕ) → length (numbers_or_none (sequence_past varint_at past bs)) ≤ length bs)
        → (o : Option (ℕ × List ℕ)) → length
        (numbers_or_none (o >>= λ x. sequence_past varint_at (length bs - length x.1) bs >>= λ xs. Some (x.0 ∷ xs))) ≤
        suc (length bs)
    by_first later None = omega arith
    by_first later (Some x) = more x.0 (sequence_past varint_at (length bs - length x.1) bs)
        (later (length bs - length x.1))

pub few_numbers : (run : List ℕ) → length (run_numbers run) ≤ length run
unfolding packed_numbers
few_numbers run = few_past 0 run

-- ---- messages

pub nested_canonical : (left s : ℕ) (bytes : List ℕ) → ((i : ℕ) → get_or bytes i 0 < 256) → length bytes < 4294967296 →
    left ≤ 100 → is_canonical_payload left s bytes ≡ true → IsCanonical s bytes
nested_canonical left s bytes b z l h =
    let x = payload_sound left s bytes (are_bytes_of bytes b) h in
    let long : length (canonical_payload table s x.v) < 2 ^ 64 = omega (arith, ap length x.is, z) in
    sound s bytes b z (ap (is_canonical_payload 100 s) x.is ∙ canonical_comes 100 s x.v x.fits (omega (arith, x.low, l))
    long)

message_field : (left level n s : ℕ) (repeated : Bool) (v : Parts) → 0 < left → field_entries left level
    (n, (Message s, repeated), Nested v)
    ≡ (level, (n, (Message s, repeated), Nested v)) ∷ flat_map (field_entries (left - 1) (level + 1))
    (message_fields (table s) v)
unfolding field_entries
message_field zero level n s repeated v h = absurd (omega arith)
message_field (suc left) level n s repeated v h =
    let below : left ≡ suc left - 1 = omega arith in
    ap (λ (l : ℕ). (level, (n, (Message s, repeated), Nested v)) ∷ flat_map (field_entries l (level + 1))
    (message_fields (table s) v)) below

pub nested_rows : (payload : List ℕ) (left n s : ℕ) (k : Kind) (repeated : Bool) (offset : ℕ) (bytes : List ℕ) → k ≡
    Message s → 0 < left → left ≤ 100 → IsAt payload offset bytes → IsCanonical s bytes
    → record_rows left n (k, repeated) (Length bytes)
    ≡ entry_row payload (bytes_entry (Message s) s (length bytes) n offset (100 - left)) ∷ fields_rows (left - 1)
    (100 - (left - 1)) (message_fields (table s) (payload_meaning s bytes))
nested_rows payload left n s k repeated offset bytes e h l a c =
    let v = payload_meaning s bytes in
    let level : 100 - left + 1 ≡ 100 - (left - 1) = omega (arith, h, l) in
    ap (λ (j : Kind). record_rows left n (j, repeated) (Length bytes)) e
    ∙ ap (λ (es : List LevelField). level_rows es) (message_field left (100 - left) n s repeated v h)
    ∙ ap (λ (bs : List ℕ). bytes_row (100 - left) n (Message s) s bs ∷ fields_rows (left - 1) (100 - left + 1)
    (message_fields (table s) v)) (sym c.canonical ∙ sym a.1)
    ∙ ap (λ (m : ℕ). entry_row payload (bytes_entry (Message s) s (length bytes) n offset (100 - left)) ∷ fields_rows
    (left - 1) m (message_fields (table s) v)) level

pub then_within : (payload : List ℕ) (rows inner : List TableRow) (at after : ℕ) (old mid new : List FieldEntry)
    (e is : FieldEntry) → rows ≡ entry_row payload is ∷ inner → e ≡ is → IsPlaced payload is → mid ≡ set old at e →
    WritesTo payload inner (at + 1) mid new after → WritesTo payload rows at old new after
then_within payload rows inner at after old mid new e is own same placed written w =
    let many = ap length own in
    let first = single payload (entry_row payload is ∷ []) at old mid e is refl same placed written in (
      omega (arith, many, w.0),
      joined payload (entry_row payload is ∷ []) inner rows at (at + 1) old mid new own (omega arith) first.1 w.1,
    )

-- ---- a record

varint_there : (n : ℕ) → 0 < length (shortest_varint n)
varint_there n =
    elim (cases_lt n 128) [
      | inl lt ↦ rw (shortest_small n lt) (omega arith)
      | inr big ↦ rw (shortest_large n big) (omega arith)
    ]

pub number_size : (n m : ℕ) (w : RecordValue) → w ≡ Varint m → 1 ≤ written_size (record { number = n; value = w })
number_size n m w e =
    let size = ap (λ (v : RecordValue). written_size (record { number = n; value = v })) e in
    omega (arith, size, varint_there (8 * n + 0), length-append (key_bytes n 0) (shortest_varint m))

pub content_size : (n : ℕ) (bytes : List ℕ) (w : RecordValue) → w ≡ Length bytes → 1 + length bytes ≤ written_size
    (record { number = n; value = w })
content_size n bytes w e =
    let size = ap (λ (v : RecordValue). written_size (record { number = n; value = v })) e in
    omega (
      arith,
      size,
      varint_there (8 * n + 2),
      length-append (key_bytes n 2)
          (shortest_varint (length bytes) ++ bytes),
      length-append (shortest_varint (length bytes)) bytes,
    )

and_true : (b : Bool) → b && true ≡ b
and_true true = refl
and_true false = refl

pub not_nested : (nested : NestedAcceptance) (plain : Bool) (k : Kind) (s : ℕ) (repeated : Bool) (bytes : List ℕ) → k ≡
    Message s → nested s bytes ≡ false → false ≡ is_written_field nested plain (k, repeated) (Length bytes)
not_nested nested plain k s true bytes e h =
    sym (ap (λ (j : Kind). is_written_field nested plain (j, true) (Length bytes)) e ∙ h)
not_nested nested plain k s false bytes e h =
    sym (ap (λ (j : Kind). is_written_field nested plain (j, false) (Length bytes)) e
    ∙ ap (λ (b : Bool). b && not (plain && eqb (length bytes) 0)) h)

pub is_nested : (nested : NestedAcceptance) (plain : Bool) (k : Kind) (s : ℕ) (repeated : Bool) (bytes : List ℕ) → k ≡
    Message s → (plain ≡ true → repeated ≡ false → eqb (length bytes) 0 ≡ false) → is_written_field nested plain
    (k, repeated) (Length bytes) ≡ nested s bytes
is_nested nested plain k s true bytes e h =
    ap (λ (j : Kind). is_written_field nested plain (j, true) (Length bytes)) e
is_nested nested false k s false bytes e h =
    ap (λ (j : Kind). is_written_field nested false (j, false) (Length bytes)) e ∙ and_true (nested s bytes)
is_nested nested true k s false bytes e h =
    ap (λ (j : Kind). is_written_field nested true (j, false) (Length bytes)) e
    ∙ ap (λ (b : Bool). nested s bytes && not b) (h refl refl) ∙ and_true (nested s bytes)

pub if_some_then : (o : Option ℕ) (P Q : ℕ → Type 0) → ((n : ℕ) → o ≡ Some n → P n → Q n) → IfSome o P → IfSome o Q
if_some_then None P Q f h = h
if_some_then (Some n) P Q f h = f n refl h

pub run_to : (payload : List ℕ) (left n : ℕ) (k : Kind) (repeated : Bool) (run : List ℕ) (at after : ℕ)
    (old new : List FieldEntry) → is_packed (k, repeated) ≡ true → after ≡ at + length (run_numbers run) → WritesRows
    payload (run_rows (100 - left) n k (parts_of Number (held_numbers k run))) at old new
    → WritesTo payload (record_rows left n (k, repeated) (Length run)) at old new after
run_to payload left n k repeated run at after old new h count w =
    let e = and_split (accepts_number k) repeated h in
    let rows = packed_rows left n k repeated run e.0 e.1 in
    let many = ap length rows ∙ held_length (100 - left) n k run in (
      omega (arith, many, count),
      subst (λ (rs : List TableRow). WritesRows payload rs at old new) (sym rows) w,
    )

-- ---- the records of a message

abbrev room_after : FieldRecord → ℕ → Option ℕ
room_after r room = cond (ltb room (written_size r)) None (Some (room - written_size r))

abbrev room_if : Bool → FieldRecord → ℕ → Option ℕ
room_if comes r room = cond comes (room_after r room) None

abbrev pub with_room : ℕ → List Row → Coming
with_room m rows = (rows, m)

some_field : (b c : Bool) (rows : List Row) (m : ℕ) → (cond b (Some rows) None >>= λ rs. cond c None
    (Some (with_room m rs))) ≡ option_map (λ x. with_room x rows) (cond b (cond c None (Some m)) None)
some_field true true rows m = refl
some_field true false rows m = refl
some_field false c rows m = refl

comes_after : (nested : NestedAcceptance) (rows : List Row) (room : ℕ) (r : FieldRecord) (next : Next) → next_field rows
    r.number ≡ Some next
    → coming_after nested (rows, room) r ≡ option_map (λ m. with_room m next.rows)
    (room_if (is_written_field nested next.is_plain next.field r.value) r room)
comes_after nested rows room r next e =
    ap (λ (o : Option Next). (o >>= rows_after_field nested r.value) >>= λ rs. cond (ltb room (written_size r)) None
    (Some (with_room (room - written_size r) rs))) e
    ∙ some_field (is_written_field nested next.is_plain next.field r.value) (ltb room (written_size r)) next.rows
    (room - written_size r)

pub comes_then : (nested : NestedAcceptance) (rows : List Row) (room size : ℕ) (r : FieldRecord) (next : Next)
    → Some next ≡ next_field rows r.number → size ≡ written_size r → size ≤ room
    → true ≡ is_written_field nested next.is_plain next.field r.value → Some (next.rows, room - size) ≡ coming_after
    nested (rows, room) r
comes_then nested rows room size r next e is most h =
    let some : ltb room (written_size r) ≡ false = le-ltb _ _ (omega (arith, is, most)) in
    let left : Some (room - size) ≡ room_after r room = ap (λ (m : ℕ). Some (room - m)) is
    ∙ sym (ap (λ (b : Bool). cond b None (Some (room - written_size r))) some) in
    ap (option_map (λ m. with_room m next.rows)) left
    ∙ ap (λ (b : Bool). option_map (λ m. with_room m next.rows) (room_if b r room)) h
    ∙ sym (comes_after nested rows room r next (sym e))

pub comes_on : (nested : NestedAcceptance) (rows : List Row) (room : ℕ) (then : Coming) (r : PlacedRecord)
    (items : List (Result PlacedRecord WireError)) → Some then ≡ coming_after nested (rows, room) r.field_record
    → all_come_read nested (rows, room) (Ok r ∷ items) ≡ all_come_read nested then items
comes_on nested rows room then r items h =
    ap (λ (o : Option Coming). elim o [ None ↦ false | Some next ↦ all_come_read nested next items ]) (sym h)

pub comes_not : (nested : NestedAcceptance) (rows : List Row) (room : ℕ) (r : PlacedRecord)
    (items : List (Result PlacedRecord WireError)) → None ≡ coming_after nested (rows, room) r.field_record
    → all_come_read nested (rows, room) (Ok r ∷ items) ≡ false
comes_not nested rows room r items h =
    ap (λ (o : Option Coming). elim o [ None ↦ false | Some next ↦ all_come_read nested next items ]) (sym h)

pub record_step : (whole : List ℕ) (left at count after : ℕ) (start old mid : List FieldEntry) (all : List TableRow)
    (rows rest : List Row) (r : PlacedRecord) (items : List (Result PlacedRecord WireError))
    → WritesNext whole left rows r.field_record count old mid after rest
    → ((new : List FieldEntry) (n : ℕ) → WritesTo whole (fields_rows left (100 - left)
    (map unplaced (item_fields rows (Ok r ∷ items)))) count old new n → WritesTo whole all at start new n)
    → (new : List FieldEntry) (n : ℕ) → WritesTo whole (fields_rows left (100 - left)
    (map unplaced (item_fields rest items))) after mid new n → WritesTo whole all at start new n
record_step whole left at count after start old mid all rows rest r items a goes new n w =
    let next = a.next in
    let f : FieldPart = (r.field_record.number, next.field, record_part next.field r.field_record.value) in
    let later = map unplaced (item_fields next.rows items) in
    let turn = ap (λ (o : Option Next). fields_rows left (100 - left) (map unplaced (elim o [
      | None ↦ []
      | Some m ↦ placed_record (r.field_record.number, m.field, record_part m.field r.field_record.value) r
          ∷ item_fields m.rows items
    ]))) a.found ∙ rows_more left (100 - left) f later in
    let many = ap length turn ∙ length-append (level_rows (field_entries left (100 - left) f))
    (fields_rows left (100 - left) later) in
    let more = subst (λ (rs : List Row). WritesTo whole (fields_rows left (100 - left)
    (map unplaced (item_fields rs items))) after mid new n) a.rest_is w in
    goes new n (
      omega (arith, many, a.written.0, more.0),
      joined whole (level_rows (field_entries left (100 - left) f)) (fields_rows left (100 - left) later) _ count after
          old mid new turn a.written.0 a.written.1 more.1,
    )

pub content_place : (whole : List ℕ) (offset : ℕ) (bytes : List ℕ) (to : ℕ) (w : RecordValue) → IsAt whole offset bytes
    → LiesBefore bytes to w → IsAt whole (offset + content_offset w to) (content w)
content_place whole offset bytes to w a l = at_within whole offset bytes (content_offset w to) (content w) a
    (content_at bytes to w l)

-- ---- entries that are kept first

none_written : (at : ℕ) (ys : List FieldEntry) → written_at [] at ys ≡ []
none_written at [] = refl
none_written at (y ∷ ys) = none_written (at + 1) ys

after_first : (x : FieldEntry) (xs : List FieldEntry) (at : ℕ) (ys : List FieldEntry) → written_at (x ∷ xs) (suc at) ys
    ≡ x ∷ written_at xs at ys
after_first x xs at [] = refl
after_first x xs at (y ∷ ys) =
    let there : suc at + 1 ≡ suc (at + 1) = omega arith in
    ap (λ (n : ℕ). written_at (x ∷ set xs at y) n ys) there ∙ after_first x (set xs at y) (at + 1) ys

front_written : (xs ys : List FieldEntry) → written_at xs 0 ys ≡ take (length xs) ys ++ drop (length ys) xs
front_written [] [] = refl
front_written (x ∷ xs) [] = refl
front_written [] (y ∷ ys) = none_written 1 ys
front_written (x ∷ xs) (y ∷ ys) =
    after_first y xs 0 ys ∙ ap (λ (zs : List FieldEntry). y ∷ zs) (front_written xs ys)

written_length : (xs : List FieldEntry) (at : ℕ) (ys : List FieldEntry) → length (written_at xs at ys) ≡ length xs
written_length xs at [] = refl
written_length xs at (y ∷ ys) = written_length (set xs at y) (at + 1) ys ∙ length-set xs at y

shown_front : (es old : List FieldEntry) (count : ℕ) → length es ≡ count → take (min count (length old)) es ++ drop
    (min count (length old)) old ≡ take (length old) es ++ drop (length es) old
shown_front es old count many =
    elim (cases_lt (length old) count) [
      | inl short ↦
          let less : min count (length old) ≡ length old = omega (arith, short) in
          let none : drop (length old) old ≡ [] = drop_all (length old) old (omega arith) in
          let none_after : drop (length es) old ≡ [] = drop_all (length es) old (omega (arith, short, many)) in
          ap (λ (n : ℕ). take n es ++ drop n old) less ∙ ap (λ (zs : List FieldEntry). take (length old) es ++ zs)
          (none ∙ sym none_after)
      | inr room ↦
          let all : min count (length old) ≡ length es = omega (arith, room, many) in
          let whole : take (length es) es ≡ es = take_all (length es) es (omega arith) in
          let whole_too : take (length old) es ≡ es = take_all (length old) es (omega (arith, room, many)) in
          ap (λ (n : ℕ). take n es ++ drop n old) all ∙ ap (λ (zs : List FieldEntry). zs ++ drop (length es) old)
          (whole ∙ sym whole_too)
    ]

pub kept_first : (payload : List ℕ) (rows : List TableRow) (start kept old front : List FieldEntry) (count : ℕ)
    → WritesTo payload rows 0 start kept count → count ≤ length kept → front ≡ take (min count (length old)) kept
    → WritesTo payload rows 0 old (front ++ drop (min count (length old)) old) count
kept_first payload rows start kept old front count w room is =
    let shown = min count (length old) in
    let es = w.1.entries in
    let as_many : length es ≡ length rows = sym (length-map es (entry_row payload)) ∙ ap length w.1.are in
    let many : length es ≡ count = omega (arith, as_many, w.0) in
    let same : length kept ≡ length start = ap length w.1.written ∙ written_length start 0 es in
    let all : take (length start) es ≡ es = take_all (length start) es (omega (arith, many, same, room)) in
    let less : shown ≤ length es = omega (arith, many) in
    let kept_is : kept ≡ es ++ drop (length es) start = w.1.written ∙ front_written start es ∙ ap
    (λ (zs : List FieldEntry). zs ++ drop (length es) start) all in
    let front_is : front ≡ take shown es = is ∙ ap (take shown) kept_is ∙ take-append-le shown es
    (drop (length es) start) less in (
      w.0,
      record {
        entries = es;
        are = w.1.are;
        placed = w.1.placed;
        written = ap (λ (zs : List FieldEntry). zs ++ drop shown old) front_is ∙ shown_front es old count many ∙ sym
            (front_written old es);
      },
    )

-- ---- a whole payload

pub whole_to : (s : ℕ) (payload : List ℕ) (old new : List FieldEntry) (n : ℕ) → IsCanonical s payload
    → WritesTo payload (fields_rows 100 0 (message_fields (table s) (payload_meaning s payload))) 0 old new n
    → WritesTo payload (table_rows s (payload_meaning s payload)) 0 old new n
whole_to s payload old new n c w =
    subst (λ (rows : List TableRow). WritesTo payload rows 0 old new n) (whole_rows s payload c).0 w
