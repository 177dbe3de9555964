-- Records whose key and length are one byte each, and messages that are one such record.
use Rattle.std.proofs.Common.{◌≡◌, ℕ, ◌+◌, ◌-◌, ◌*◌, ◌/◌, ◌%◌, ◌<◌, ◌≤◌, Bool, true, false, cond, List, [], ◌∷◌}
use Rattle.std.proofs.Common.{◌++◌, map, take, drop, set, length, Option, Some, None, Result}
use Rattle.std.proofs.Common.{refl, sym, ap, ◌∙◌, subst, arith, append-nil, eqb, eq-eqb, ne_eqb, not, get_or}
use Rattle.std.proofs.lemmas.List.{length-append, take_all}
use Rattle.shared_core_wire.specs.Grammar.{RecordValue, Length, FieldRecord, IsVarint, IsKey}
use Rattle.shared_core_wire.specs.Reader.{record_at}
use Rattle.shared_core_wire.specs.ReadRecords.{PlacedRecord, records_past, read_records}
use Rattle.shared_core_wire.specs.Encoding.{shortest_varint, key_bytes}
use Rattle.shared_core_wire.specs.Schema.{Table, Row, ByteString, Plain}
use Rattle.shared_core_wire.specs.Value.{Bytes}
use Rattle.shared_core_wire.specs.declared.error.WireError.{WireError}
use Rattle.shared_core_wire.proofs.Places.{read_lie}
use Rattle.shared_core_wire.proofs.ReadRecords.{place, step, read_again, read_nil}
use Rattle.shared_core_wire.proofs.Shortest.{shortest_small}
use Rattle.shared_core_codec.specs.Canonicity.{IsCanonical, Next, found_or, next_field, written_size}
use Rattle.shared_core_codec.specs.Canonicity.{is_canonical_message_in, is_canonical_payload_in, all_come_read}
use Rattle.shared_core_codec.specs.Payloads.{payload_meaning}
use Rattle.shared_core_codec.specs.Table.{table}
use Rattle.shared_core_codec.proofs.Tables.{is_table}
use Rattle.shared_core_codec.proofs.CanonicityIn.{all_come_is}
use Rattle.shared_core_fields.specs.Checked.{IsSingle, IsSingleOf, WritesTo}
use Rattle.shared_core_fields.specs.Fields.{FieldPart, message_fields, record_part}
use Rattle.shared_core_fields.specs.Rows.{bytes_entry, fields_rows, level_rows}
use Rattle.shared_core_fields.specs.Entries.{field_entries}
use Rattle.shared_core_fields.specs.Views.{IsAt, item_fields, placed_record, unplaced}
use Rattle.shared_core_fields.specs.declared.table.FieldEntry.{FieldEntry}
use Rattle.shared_core_fields.proofs.Checked.{byte_string_rows, bytes_placed, comes_on, comes_then, single, with_room}
use Rattle.shared_core_fields.proofs.Reading.{reads}
use Rattle.shared_core_fields.proofs.Written.{at_within, rows_more}

abbrev pub numbered : ℕ → RecordValue → FieldRecord
numbered n w = record { number = n; value = w }

-- ---- a record

pub byte_varint : (b : ℕ) → b < 128 → IsVarint (b ∷ []) b
byte_varint b h = record { encoding = (h, refl); short = omega arith; fits = omega (arith, h) }

pub byte_key : (b wire : ℕ) → 8 ≤ b → b < 128 → b % 8 ≡ wire → IsKey (b ∷ []) (b / 8) wire
byte_key b wire low high w =
    let whole : b ≡ 8 * (b / 8) + wire = omega (arith, w) in
    record {
      encoding = subst (IsVarint (b ∷ [])) whole (byte_varint b high);
      numbered = omega (arith, low);
      typed = omega (arith, w);
      fits = omega (arith, whole, high);
    }

pub byte_key_size : (b wire : ℕ) → b < 128 → b % 8 ≡ wire → length (key_bytes (b / 8) wire) ≡ 1
byte_key_size b wire high w =
    let whole : 8 * (b / 8) + wire ≡ b = omega (arith, w) in
    ap (λ (n : ℕ). length (shortest_varint n)) whole ∙ ap length (shortest_small b high)

read_content : (bytes tail more content rest : List ℕ) (b m n : ℕ) → bytes ≡ b ∷ tail → tail ≡ m ∷ more → more ≡
    content ++ rest → length content ≡ m → 8 ≤ b → b < 128 → b % 8 ≡ 2 → m < 128 → n ≡ b / 8 → record_at 0 bytes ≡ Some
    (numbered n (Length content), rest)
read_content bytes tail more content rest b m n first second third size low high w h number =
    ap (record_at 0) (first ∙ ap (λ (t : List ℕ). b ∷ t) second ∙ ap (λ (t : List ℕ). b ∷ m ∷ t) third)
    ∙ read_again 0 (numbered (b / 8) (Length content)) (b ∷ m ∷ content) rest (record {
      key = b ∷ [];
      body = m ∷ content;
      parts = refl;
      keyed = byte_key b 2 low high w;
      valued = (m ∷ [], subst (IsVarint (m ∷ [])) (sym size) (byte_varint m h), refl);
    })
    ∙ ap (λ (x : ℕ). Some (numbered x (Length content), rest)) (sym number)

count_content : (bytes tail more content rest : List ℕ) (b m n : ℕ) → length tail + 1 ≡ length bytes → length more +
    1 ≡ length tail → length rest + m ≡ length more → length content ≡ m → b < 128 → b % 8 ≡ 2 → m < 128 → n ≡ b / 8 →
    written_size (numbered n (Length content)) + length rest ≡ length bytes
count_content bytes tail more content rest b m n first second third size high w h number =
    let same = ap (λ (x : ℕ). written_size (numbered x (Length content))) number in
    omega (
      arith,
      same,
      first,
      second,
      third,
      size,
      length-append (key_bytes (b / 8) 2) (shortest_varint (length content) ++ content),
      length-append (shortest_varint (length content)) content,
      byte_key_size b 2 high w,
      ap length (shortest_small (length content) (omega (arith, size, h))),
    )

pub is_single : (all : List Row) (b m n : ℕ) (bytes tail content : List ℕ) → all ≡ Plain n ByteString ∷ [] → bytes ≡ b ∷
    tail → tail ≡ m ∷ content → 8 ≤ b → b < 128 → b ≡ 8 * n + 2 → m < 128 → length content ≡ m → 0 < length content →
    IsSingleOf n all bytes
is_single all b m n bytes tail content rows first second low high key h size some =
    let whole : content ≡ content ++ [] = sym (append-nil content) in
    let whole_is : bytes ≡ b ∷ m ∷ content = first ∙ ap (λ (t : List ℕ). b ∷ t) second in
    let many : length content + 1 + 1 ≡ length bytes = omega (arith, ap length whole_is) in
    let two : b % 8 ≡ 2 = omega (arith, key) in
    let number : n ≡ b / 8 = omega (arith, key) in
    let one = count_content bytes tail content content [] b m n (omega (arith, ap length first))
    (omega (arith, ap length second)) (omega (arith, size)) size high two h number in
    record {
      content = content;
      rows = rows;
      read = read_content bytes tail content content [] b m n first second whole size low high two h number;
      size = omega (arith, one);
      there = ap (drop 2) whole_is;
      long = omega (arith, many);
      some = some;
    }

pub single_at : (all : List Row) (b m n : ℕ) (bytes : List ℕ) → all ≡ Plain n ByteString ∷ [] → 3 ≤ length bytes →
    length bytes < 130 → b ≡ get_or bytes 0 0 → m ≡ get_or bytes 1 0 → m ≡ length bytes - 2 → 8 ≤ b → b < 128 → b ≡ 8 *
    n + 2 → IsSingleOf n all bytes
single_at all b m n [] rows long short first second size low high key = absurd (omega (arith, long))
single_at all b m n (x ∷ []) rows long short first second size low high key = absurd (omega (arith, long))
single_at all b m n (x ∷ y ∷ content) rows long short first second size low high key =
    is_single all x y n (x ∷ y ∷ content) (y ∷ content) content rows refl refl (omega (arith, first, low))
    (omega (arith, first, high)) (omega (arith, first, key)) (omega (arith, second, size, short))
    (omega (arith, second, size)) (omega (arith, long))

-- ---- the message

next_single : (n : ℕ) → next_field (Plain n ByteString ∷ []) n ≡ Some
    (record { field = (ByteString, false); is_plain = true; rows = [] })
next_single n =
    ap (λ (b : Bool). found_or (Plain n ByteString) [] None (cond b (Some (ByteString, false)) None)) (eq-eqb n n refl)

pub single_canonical : (table : Table) (left n s : ℕ) (bytes : List ℕ) → IsSingleOf n (table s) bytes →
    is_canonical_payload_in table left s bytes ≡ true
unfolding read_records
single_canonical table left n s bytes h =
    let nested = is_canonical_message_in table left in
    let r = numbered n (Length h.content) in
    let one = step 0 (length bytes) bytes r [] h.read in
    let rows = Plain n ByteString ∷ [] in
    let next : Next = record { field = (ByteString, false); is_plain = true; rows = [] } in
    let none : length bytes - written_size r ≡ 0 = omega (arith, h.size) in
    let some : true ≡ not (eqb (length h.content) 0) = sym
    (ap not (ne_eqb (length h.content) 0 (λ e. omega (arith, e, h.some)))) in
    let goes = ap (λ (m : ℕ). Some (with_room m [])) (sym none)
    ∙ comes_then nested rows (length bytes) (written_size r) r next (sym (next_single n)) refl (omega (arith, h.size))
    some in
    sym (all_come_is table left s bytes)
    ∙ ap (λ (rs : List Row). all_come_read nested (rs, length bytes) (records_past (record_at 0) (length bytes) 0
    bytes)) h.rows ∙ ap (all_come_read nested (rows, length bytes)) one.more
    ∙ comes_on nested rows (length bytes) ([], 0) (place (length bytes) bytes r [])
    (records_past (record_at 0) (length bytes) 0 []) goes
    ∙ ap (all_come_read nested ([], 0)) (read_nil (record_at 0) (length bytes))

pub single_place : (whole : List ℕ) (n s offset : ℕ) (bytes : List ℕ) (h : IsSingle n s bytes) → IsAt whole offset bytes
    → IsAt whole (offset + 2) h.content
single_place whole n s offset bytes h a =
    at_within whole offset bytes 2 h.content a (
      omega (arith, h.long),
      ap (take (length h.content)) h.there ∙ take_all (length h.content) h.content (omega arith),
    )

single_fields : (n s : ℕ) (bytes : List ℕ) → IsSingle n s bytes → IsCanonical s bytes → (c : List ℕ) → record_at 0 bytes
    ≡ Some (numbered n (Length c), []) → (n, (ByteString, false), Bytes c) ∷ [] ≡ message_fields (table s)
    (payload_meaning s bytes)
unfolding read_records
single_fields n s bytes h canonical c read =
    let r = numbered n (Length c) in
    let one = step 0 (length bytes) bytes r [] read in
    let items = records_past (record_at 0) (length bytes) 0 bytes in
    let p = place (length bytes) bytes r [] in
    let rows = Plain n ByteString ∷ [] in
    let all = reads table is_table s bytes canonical (read_lie 0 (length bytes) bytes [] bytes (omega arith) refl) in
    sym (ap (λ (rs : List Row). map unplaced (item_fields rs items)) h.rows
    ∙ ap (λ (xs : List (Result PlacedRecord WireError)). map unplaced (item_fields rows xs)) one.more
    ∙ ap (λ (o : Option Next). map unplaced (elim o [
      | None ↦ []
      | Some m ↦ placed_record (n, m.field, record_part m.field (Length c)) p ∷ item_fields m.rows
          (records_past (record_at 0) (length bytes) 0 [])
    ])) (next_single n)
    ∙ ap (λ (xs : List (Result PlacedRecord WireError)). (n, (ByteString, false), Bytes c) ∷ map unplaced (item_fields
    [] xs)) (read_nil (record_at 0) (length bytes))) ∙ all.fields

pub single_rows : (whole : List ℕ) (left n s offset at : ℕ) (bytes : List ℕ) (old new : List FieldEntry)
    (e : FieldEntry) (h : IsSingle n s bytes) → IsCanonical s bytes → IsAt whole offset bytes
    → e ≡ bytes_entry ByteString 0 (length h.content) n (offset + 2) (100 - left) → new ≡ set old at e → WritesTo whole
    (fields_rows left (100 - left) (message_fields (table s) (payload_meaning s bytes))) at old new (at + 1)
single_rows whole left n s offset at bytes old new e h canonical a is written =
    let f : FieldPart = (n, (ByteString, false), Bytes h.content) in
    let there = single_place whole n s offset bytes h a in
    let rows = ap (λ (fs : List FieldPart). fields_rows left (100 - left) fs)
    (sym (single_fields n s bytes h canonical h.content h.read))
    ∙ rows_more left (100 - left) f [] ∙ append-nil (level_rows (field_entries left (100 - left) f))
    ∙ byte_string_rows whole left n ByteString false (offset + 2) h.content refl there in
    single whole (fields_rows left (100 - left) (message_fields (table s) (payload_meaning s bytes))) at old new e
    (bytes_entry ByteString 0 (length h.content) n (offset + 2) (100 - left)) rows is
    (bytes_placed whole ByteString 0 n (offset + 2) (100 - left) h.content (omega arith) there) written
