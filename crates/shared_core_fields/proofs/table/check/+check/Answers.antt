use Rattle.std.proofs.Common.{◌≡◌, ◌<◌, ◌≤◌, ◌+◌, ◌-◌, ◌*◌, ◌^◌, ℕ, List, [], map, Result, length, true, false}
use Rattle.std.proofs.Common.{Some, None}
use Rattle.std.proofs.Common.{eqb, is_some, refl, sym, ap, ◌∙◌, subst}
use Rattle.std.proofs.Common.{arith, rules}
use Rattle.shared_core_wire.specs.Grammar.{RecordValue, content}
use Rattle.shared_core_wire.specs.View.{value_of}
use Rattle.shared_core_wire.specs.Places.{EachLies}
use Rattle.shared_core_wire.specs.ReadRecords.{PlacedRecord, read_records, records_past}
use Rattle.shared_core_wire.proofs.Places.{read_lie}
use Rattle.shared_core_wire.proofs.ReadRecords.{place, read_nil, step}
use Rattle.std.specs.Prelude.{option_map}
use Rattle.std.proofs.lemmas.List.{nil_from_length}
use Rattle.shared_core_wire.specs.Reader.{record_at}
use Rattle.shared_core_wire.specs.declared.error.WireError.{WireError}
use Rattle.shared_core_codec.specs.Payloads.{payload_meaning}
use Rattle.shared_core_codec.specs.Table.{table}
use Rattle.shared_core_codec.proofs.Tables.{is_table}
use Rattle.shared_core_codec.specs.Canonicity.{is_canonical_message, is_canonical_payload, all_come_read, next_view}
use Rattle.shared_core_codec.specs.Canonicity.{coming_after}
use Rattle.shared_core_codec.specs.ProgramRows.{kind_view, row_view}
use Rattle.shared_core_codec.proofs.Canonicity.{all_come_is, canonical_zero, canonical_below}
use Rattle.shared_core_wire.specs.Schema.{Row, Text, ByteString, Message}
use Rattle.shared_core_fields.specs.Checked.{WritesTo, record_rows}
use Rattle.shared_core_fields.specs.Rows.{TableRow, bytes_entry, fields_rows}
use Rattle.shared_core_fields.specs.Fields.{FieldPart, message_fields}
use Rattle.shared_core_fields.specs.Views.{item_fields, unplaced}
use Rattle.shared_core_fields.proofs.Reading.{reads}
use Rattle.shared_core_fields.proofs.Written.{nothing}
use Rattle.shared_core_fields.proofs.Checked.{text_rows, byte_string_rows, bytes_placed, nested_rows, nested_canonical}
use Rattle.shared_core_fields.proofs.Checked.{not_nested, is_nested, if_some_then, then_within, single, run_to}
use Rattle.shared_core_fields.proofs.Checked.{few_numbers, content_place, with_room}
use Rattle.shared_core_fields.proofs.Checked.{record_step, comes_on, comes_not}
use Rattle.shared_core_fields.proofs.WrittenRecords.{numbered, is_written, content_within, none_comes, comes_so}
use Rattle.shared_core_fields.proofs.WrittenRecords.{ends_canonical}
use Rattle.shared_core_fields.proofs.SingleBytes.{single_canonical, single_rows}
use Rattle.shared_core_fields.proofs.table.check.+check.Goals as goal
use Rattle.shared_core_fields.proofs.table.check.+check.Goals.{check_content-else-next-via-then-next+then-not-next+else-is_empty}
use Rattle.shared_core_fields.proofs.table.check.+check.Goals.{check_content-else-next-via-then-next+else-not-next}
use Rattle.shared_core_fields.proofs.table.check.+check.Goals.{check_content-else-next-via-else-next}

-- ---- bytes

pub check_content-returns-else-not-is_text-clause-rows : goal.check_content-returns-else-not-is_text-clause-rows
check_content-returns-else-not-is_text-clause-rows t c =
    let level = 100 - c.args.place.left in
    single c.args.place.whole.now _ c.args.at c.args.out.now c.put.new.out c.bytes_entry.result
    (bytes_entry Text 0 (length c.args.content.now) c.args.number c.args.place.offset level)
    (text_rows c.args.place.whole.now c.args.place.left c.args.number (kind_view c.args.next.field.kind)
    c.args.next.field.is_repeated c.args.place.offset c.args.content.now (ap kind_view c.in-Text.is) c.requires.place)
    c.bytes_entry.ensures
    (bytes_placed c.args.place.whole.now Text 0 c.args.number c.args.place.offset level c.args.content.now (omega arith)
    c.requires.place) c.put.ensures

pub check_content-returns-in-ByteString-clause-rows : goal.check_content-returns-in-ByteString-clause-rows
check_content-returns-in-ByteString-clause-rows t c =
    let level = 100 - c.args.place.left in
    single c.args.place.whole.now _ c.args.at c.args.out.now c.put-in-ByteString.new.out
    c.bytes_entry-in-ByteString.result
    (bytes_entry ByteString 0 (length c.args.content.now) c.args.number c.args.place.offset level)
    (byte_string_rows c.args.place.whole.now c.args.place.left c.args.number (kind_view c.args.next.field.kind)
    c.args.next.field.is_repeated c.args.place.offset c.args.content.now (ap kind_view c.in-ByteString.is)
    c.requires.place)
    c.bytes_entry-in-ByteString.ensures
    (bytes_placed c.args.place.whole.now ByteString 0 c.args.number c.args.place.offset level c.args.content.now
    (omega arith)
    c.requires.place) c.put-in-ByteString.ensures

-- ---- messages

pub check_content-returns-then-place-eq0-clause-canonical : goal.check_content-returns-then-place-eq0-clause-canonical
check_content-returns-then-place-eq0-clause-canonical t c =
    not_nested (is_canonical_message c.args.place.left) c.args.next.is_plain (kind_view c.args.next.field.kind)
    c.in-Message.schema c.args.next.field.is_repeated c.args.content.now (ap kind_view c.in-Message.is)
    (ap (λ (left : ℕ). is_canonical_message left c.in-Message.schema c.args.content.now) c.if-place-eq0.true ∙
    canonical_zero c.in-Message.schema c.args.content.now)

pub check_content-check_message-requires : goal.check_content-check_message-requires
check_content-check_message-requires t c =
    let less : 3 * (c.args.place.left - 1) + 2 < t = search rules in
    let low : c.args.place.left - 1 ≤ 100 = omega (arith, c.requires.levels) in
    (less, (c.requires.short, (c.requires.place, (low, c.requires.few))))

pub check_content-returns-in-Some-clause-canonical : goal.check_content-returns-in-Some-clause-canonical
check_content-returns-in-Some-clause-canonical t c =
    let nested = is_canonical_message c.args.place.left in
    let some : c.args.next.is_plain ≡ true → c.args.next.field.is_repeated ≡ false → eqb (length c.args.content.now) 0 ≡
    false = λ p r. elim c.else-next.branch [
      | check_content-else-next-via-then-next+then-not-next+else-is_empty w ↦
          sym w.is_empty.ensures ∙ w.if-is_empty.false
      | check_content-else-next-via-then-next+else-not-next w ↦ absurd (let s = w.if-not-next.false in cc)
      | check_content-else-next-via-else-next w ↦ absurd (let s = w.if-next.false in cc)
    ] in
    sym (single_canonical table (c.args.place.left - 1) c.in-Some.inner c.in-Message.schema c.args.content.now
    c.in-Some.ensures)
    ∙ sym (canonical_below (c.args.place.left - 1) c.args.place.left c.in-Message.schema c.args.content.now
    (omega (arith, c.if-place-eq0.false)))
    ∙ sym (is_nested nested c.args.next.is_plain (kind_view c.args.next.field.kind) c.in-Message.schema
    c.args.next.field.is_repeated c.args.content.now (ap kind_view c.in-Message.is) some)

pub check_content-returns-in-Some-clause-rows : goal.check_content-returns-in-Some-clause-rows
check_content-returns-in-Some-clause-rows t c =
    let s = c.in-Message.schema in
    let n = c.in-Some.inner in
    let bytes = c.args.content.now in
    let whole = c.args.place.whole.now in
    let level = 100 - c.args.place.left in
    let within = 100 - (c.args.place.left - 1) in
    let place = c.args.place.offset + 2 in
    let h = c.in-Some.ensures in
    let canonical = nested_canonical (c.args.place.left - 1) s bytes (λ i. omega (arith, c.type_inv.content i))
    c.requires.short (omega (arith, c.requires.levels)) (single_canonical table (c.args.place.left - 1) n s bytes h) in
    let deeper : level + 1 ≡ within = omega (arith, c.if-place-eq0.false, c.requires.levels) in
    let size : length bytes - 2 ≡ length h.content = omega (arith, h.long) in
    let next : c.args.at + 1 + 1 ≡ c.args.at + 2 = omega arith in
    let deep : c.bytes_entry-in-Some.result ≡ bytes_entry ByteString 0 (length bytes - 2) n place within =
    c.bytes_entry-in-Some.ensures ∙ ap (λ (l : ℕ). bytes_entry ByteString 0 (length bytes - 2) n place l) deeper in
    let entry : c.bytes_entry-in-Some.result ≡ bytes_entry ByteString 0 (length h.content) n place within = deep ∙ ap
    (λ (m : ℕ). bytes_entry ByteString 0 m n place within) size in
    let inner = single_rows whole (c.args.place.left - 1) n s c.args.place.offset (c.args.at + 1) bytes
    c.put-in-Message.new.out
    c.put-in-Some.new.out c.bytes_entry-in-Some.result h canonical c.requires.place entry c.put-in-Some.ensures in
    then_within whole _ _ c.args.at (c.args.at + 2) c.args.out.now c.put-in-Message.new.out c.put-in-Some.new.out
    c.bytes_entry-in-Message.result (bytes_entry (Message s) s (length bytes) c.args.number c.args.place.offset level)
    (nested_rows whole c.args.place.left c.args.number s (kind_view c.args.next.field.kind)
    c.args.next.field.is_repeated c.args.place.offset bytes (ap kind_view c.in-Message.is)
    (omega (arith, c.if-place-eq0.false)) c.requires.levels c.requires.place canonical)
    (c.bytes_entry-in-Message.ensures ∙ ap (λ (m : ℕ). record {
      level = level;
      number = c.args.number;
      kind = 7;
      value = m;
      offset = c.args.place.offset;
      length = length bytes;
    }) c.from.ensures)
    (bytes_placed whole (Message s) s c.args.number c.args.place.offset level bytes (omega arith) c.requires.place)
    c.put-in-Message.ensures
    (subst (λ (m : ℕ). WritesTo whole (fields_rows (c.args.place.left - 1) within (message_fields (table s)
    (payload_meaning s bytes))) (c.args.at + 1) c.put-in-Message.new.out c.put-in-Some.new.out m) next inner)

pub check_content-returns-in_default-single_bytes-clause-canonical :
    goal.check_content-returns-in_default-single_bytes-clause-canonical
check_content-returns-in_default-single_bytes-clause-canonical t c =
    let nested = is_canonical_message c.args.place.left in
    let some : c.args.next.is_plain ≡ true → c.args.next.field.is_repeated ≡ false → eqb (length c.args.content.now) 0 ≡
    false = λ p r. elim c.else-next.branch [
      | check_content-else-next-via-then-next+then-not-next+else-is_empty w ↦
          sym w.is_empty.ensures ∙ w.if-is_empty.false
      | check_content-else-next-via-then-next+else-not-next w ↦ absurd (let s = w.if-not-next.false in cc)
      | check_content-else-next-via-else-next w ↦ absurd (let s = w.if-next.false in cc)
    ] in
    c.check_message.ensures.canonical
    ∙ sym (canonical_below (c.args.place.left - 1) c.args.place.left c.in-Message.schema c.args.content.now
    (omega (arith, c.if-place-eq0.false)))
    ∙ sym (is_nested nested c.args.next.is_plain (kind_view c.args.next.field.kind) c.in-Message.schema
    c.args.next.field.is_repeated c.args.content.now (ap kind_view c.in-Message.is) some)

pub check_content-returns-in_default-single_bytes-clause-rows :
    goal.check_content-returns-in_default-single_bytes-clause-rows
check_content-returns-in_default-single_bytes-clause-rows t c =
    let s = c.in-Message.schema in
    let bytes = c.args.content.now in
    let level = 100 - c.args.place.left in
    if_some_then c.check_message.result _ _
    (λ n e w.
    let canonical = nested_canonical (c.args.place.left - 1) s bytes (λ i. omega (arith, c.type_inv.content i))
    c.requires.short (omega (arith, c.requires.levels)) (sym c.check_message.ensures.canonical ∙ ap is_some e) in
    then_within c.args.place.whole.now _ _ c.args.at n c.args.out.now c.put-in-Message.new.out c.check_message.new.out
    c.bytes_entry-in-Message.result (bytes_entry (Message s) s (length bytes) c.args.number c.args.place.offset level)
    (nested_rows c.args.place.whole.now c.args.place.left c.args.number s (kind_view c.args.next.field.kind)
    c.args.next.field.is_repeated c.args.place.offset bytes (ap kind_view c.in-Message.is)
    (omega (arith, c.if-place-eq0.false)) c.requires.levels c.requires.place canonical)
    (c.bytes_entry-in-Message.ensures ∙ ap (λ (m : ℕ). record {
      level = level;
      number = c.args.number;
      kind = 7;
      value = m;
      offset = c.args.place.offset;
      length = length bytes;
    }) c.from.ensures)
    (bytes_placed c.args.place.whole.now (Message s) s c.args.number c.args.place.offset level bytes (omega arith)
    c.requires.place) c.put-in-Message.ensures w) c.check_message.ensures.rows

-- ---- packed runs

pub check_content-write_run-requires : goal.check_content-write_run-requires
check_content-write_run-requires t c =
    record { few = omega (arith, few_numbers c.args.content.now, c.requires.few) }

pub check_content-returns-else-not-is_written_run-clause-rows :
    goal.check_content-returns-else-not-is_written_run-clause-rows
check_content-returns-else-not-is_written_run-clause-rows t c =
    run_to c.args.place.whole.now c.args.place.left c.args.number (kind_view c.args.next.field.kind)
    c.args.next.field.is_repeated c.args.content.now c.args.at c.write_run.result c.args.out.now c.write_run.new.out
    (sym c.is_packed.ensures ∙ c.if-not-is_packed.false) c.write_run.ensures.count
    (c.write_run.ensures.rows c.args.place.whole.now)

pub check_content-returns-else-not-is_written_run-clause-few :
    goal.check_content-returns-else-not-is_written_run-clause-few
check_content-returns-else-not-is_written_run-clause-few t c =
    omega (arith, few_numbers c.args.content.now, c.write_run.ensures.count)

-- ---- a record

pub check_record-returns-in_ok-count-in-Varint-clause-rows : goal.check_record-returns-in_ok-count-in-Varint-clause-rows
check_record-returns-in_ok-count-in-Varint-clause-rows t c =
    let next = next_view c.in_ok-next-in-Varint.next in
    record {
      next = next;
      found = sym c.in_ok-next-in-Varint.ensures;
      rest_is = refl;
      written = subst (λ (w : RecordValue). WritesTo c.args.place.whole.now
          (record_rows c.args.place.left c.args.found.now.number next.field w) c.args.at c.args.out.now
          c.check_number.new.out c.in_ok-count-in-Varint.count) (sym (ap value_of c.in-Varint.is))
          (c.in_ok-count-in-Varint.ensures.rows c.args.place.whole.now);
    }

-- ---- a message

pub check_message-loop-rows-init : goal.check_message-loop-rows-init
unfolding read_records
check_message-loop-rows-init t c =
    let left = c.args.place.left in
    let bytes = c.args.bytes.now in
    let items = records_past (record_at 0) (length bytes) 0 bytes in
    record {
      canonical = ap (λ (rows : List Row). all_come_read (is_canonical_message left) (rows, length bytes) items)
          c.rows_of-rows.ensures ∙ all_come_is left c.args.schema bytes;
      lies = read_lie 0 (length bytes) bytes [] bytes (omega arith) refl;
      inside = omega arith;
      few = omega arith;
      rows = λ new n w.
          subst (λ (rows : List TableRow). WritesTo c.args.place.whole.now rows c.args.at c.args.out.now new n)
          (ap (λ (rows : List Row). fields_rows left (100 - left) (map unplaced (item_fields rows items)))
          c.rows_of-rows.ensures) w;
    }

pub check_message-returns-in_err-number-clause-canonical : goal.check_message-returns-in_err-number-clause-canonical
check_message-returns-in_err-number-clause-canonical t c =
    let some : 0 < length c.loop-rows.left.now = search rules in
    let rows = map row_view c.loop-rows.rows.now in
    let nested = is_canonical_message c.args.place.left in
    ap is_some c.from_residual.ensures
    ∙ sym (none_comes nested (length c.args.bytes.now) rows c.loop-rows.left.now some c.in_err-number.ensures)
    ∙ c.loop-rows.invariant.canonical

pub check_message-overflow_sub-found : goal.check_message-overflow_sub-found
check_message-overflow_sub-found t c = omega (arith, c.loop-rows.invariant.inside)

pub check_message-overflow_sub-found-in-loop-rows : goal.check_message-overflow_sub-found-in-loop-rows
check_message-overflow_sub-found-in-loop-rows t c =
    let r = numbered c.in_ok-number.number (value_of c.in_ok-number.value) in
    let is = is_written c.loop-rows.left.now r c.in_ok-number.after.now c.in_ok-number.ensures in
    omega (arith, c.loop-rows.invariant.inside, is.shorter)

pub check_message-check_record-requires : goal.check_message-check_record-requires
check_message-check_record-requires t c =
    let bytes = c.args.bytes.now in
    let left = c.loop-rows.left.now in
    let after = c.in_ok-number.after.now in
    let n = c.in_ok-number.number in
    let w = value_of c.in_ok-number.value in
    let is = is_written left (numbered n w) after c.in_ok-number.ensures in
    let s = step 0 (length bytes) left (numbered n w) after is.read in
    let here = subst (EachLies bytes) s.more c.loop-rows.invariant.lies in
    let long = content_within left n w after is in
    let less : 3 * c.args.place.left + 1 < t = search rules in
    let short : length (content w) < 4294967296 = omega (arith, here.0.0, here.0.1, c.requires.short) in
    let at = content_place c.args.place.whole.now c.args.place.offset bytes (length bytes - length after) w
    c.requires.place here.0 in
    let few : c.loop-rows.count + 1 + length (content w) < 2 ^ 63 = omega
    (arith, long, c.loop-rows.invariant.few, c.requires.few) in
    (less, (short, (here.0.1, (at, (c.requires.levels, few)))))

pub check_message-returns-in_err-next-clause-canonical : goal.check_message-returns-in_err-next-clause-canonical
check_message-returns-in_err-next-clause-canonical t c =
    let nested = is_canonical_message c.args.place.left in
    let end = length c.args.bytes.now in
    let left = c.loop-rows.left.now in
    let after = c.in_ok-number.after.now in
    let rows = map row_view c.loop-rows.rows.now in
    let r = numbered c.in_ok-number.number (value_of c.in_ok-number.value) in
    let is = is_written left r after c.in_ok-number.ensures in
    let s = step 0 end left r after is.read in
    let none : None ≡ coming_after nested (rows, length left) r = ap (option_map (with_room (length after)))
    c.in_err-next.ensures.canonical ∙ sym (comes_so nested rows left after r is.size) in
    ap is_some c.from_residual-in_err-next.ensures
    ∙ sym (comes_not nested rows (length left) (place end left r after) (records_past (record_at 0) end 0 after) none)
    ∙ ap (all_come_read nested (rows, length left)) (sym s.more) ∙ c.loop-rows.invariant.canonical

pub check_message-loop-rows-smaller : goal.check_message-loop-rows-smaller
check_message-loop-rows-smaller t c =
    let r = numbered c.in_ok-number.number (value_of c.in_ok-number.value) in
    let is = is_written c.loop-rows.left.now r c.in_ok-number.after.now c.in_ok-number.ensures in
    omega (arith, is.shorter)

pub check_message-loop-rows-preserved : goal.check_message-loop-rows-preserved
check_message-loop-rows-preserved t c =
    let levels = c.args.place.left in
    let nested = is_canonical_message levels in
    let whole = c.args.place.whole.now in
    let bytes = c.args.bytes.now in
    let end = length bytes in
    let left = c.loop-rows.left.now in
    let after = c.in_ok-number.after.now in
    let rows = map row_view c.loop-rows.rows.now in
    let rest = map row_view c.in_ok-next.rest.now in
    let n = c.in_ok-number.number in
    let w = value_of c.in_ok-number.value in
    let r = numbered n w in
    let is = is_written left r after c.in_ok-number.ensures in
    let s = step 0 end left r after is.read in
    let found = place end left r after in
    let items = records_past (record_at 0) end 0 after in
    let here = subst (EachLies bytes) s.more c.loop-rows.invariant.lies in
    let long = content_within left n w after is in
    let comes : Some (with_room (length after) rest) ≡ coming_after nested (rows, length left) r = ap
    (option_map (with_room (length after))) c.in_ok-next.ensures.canonical ∙ sym
    (comes_so nested rows left after r is.size) in
    record {
      canonical = sym (comes_on nested rows (length left) (with_room (length after) rest) found items comes)
          ∙ ap (all_come_read nested (rows, length left)) (sym s.more) ∙ c.loop-rows.invariant.canonical;
      lies = here.1;
      inside = omega (arith, c.loop-rows.invariant.inside, is.shorter);
      few = omega (arith, c.in_ok-next.ensures.few, c.loop-rows.invariant.few, long);
      rows = record_step whole levels c.args.at c.loop-rows.count c.in_ok-next.next c.args.out.now c.loop-rows.out
          c.check_record.new.out _ rows rest found items c.in_ok-next.ensures.rows
          (λ new m e. c.loop-rows.invariant.rows new m (subst (λ (xs : List (Result PlacedRecord WireError)). WritesTo
          whole (fields_rows levels (100 - levels) (map unplaced (item_fields rows xs))) c.loop-rows.count
          c.loop-rows.out new m) (sym s.more) e));
    }

pub check_message-returns-clause-canonical : goal.check_message-returns-clause-canonical
check_message-returns-clause-canonical t c =
    let none : length c.loop-rows.left.now ≡ 0 = search rules in
    sym (ends_canonical (is_canonical_message c.args.place.left) (length c.args.bytes.now)
    (map row_view c.loop-rows.rows.now) c.loop-rows.left.now none) ∙ c.loop-rows.invariant.canonical

pub check_message-returns-clause-few : goal.check_message-returns-clause-few
check_message-returns-clause-few t c = omega (arith, c.loop-rows.invariant.few)

pub check_message-returns-clause-rows : goal.check_message-returns-clause-rows
unfolding read_records
check_message-returns-clause-rows t c =
    let levels = c.args.place.left in
    let bytes = c.args.bytes.now in
    let whole = c.args.place.whole.now in
    let rows = map row_view c.loop-rows.rows.now in
    let count = c.loop-rows.count in
    let left = c.loop-rows.left.now in
    let end = length bytes in
    let none : length left ≡ 0 = search rules in
    let ends : records_past (record_at 0) end 0 left ≡ [] = ap (records_past (record_at 0) end 0)
    (nil_from_length left none) ∙ read_nil (record_at 0) end in
    let full : is_canonical_payload levels c.args.schema bytes ≡ true = sym c.loop-rows.invariant.canonical
    ∙ ends_canonical (is_canonical_message levels) end rows left none in
    let canonical = nested_canonical levels c.args.schema bytes (λ i. omega (arith, c.type_inv.bytes i))
    c.requires.short c.requires.levels full in
    let read = reads table is_table c.args.schema bytes canonical (read_lie 0 end bytes [] bytes (omega arith) refl) in
    let last : WritesTo whole (fields_rows levels (100 - levels) (map unplaced (item_fields rows []))) count
    c.loop-rows.out c.loop-rows.out count = (omega arith, nothing whole count c.loop-rows.out) in
    subst (λ (fs : List FieldPart). WritesTo whole (fields_rows levels (100 - levels) fs) c.args.at c.args.out.now
    c.loop-rows.out count) read.fields (c.loop-rows.invariant.rows c.loop-rows.out count
    (subst (λ (xs : List (Result PlacedRecord WireError)). WritesTo whole (fields_rows levels (100 - levels)
    (map unplaced (item_fields rows xs))) count c.loop-rows.out c.loop-rows.out count) (sym ends) last))
