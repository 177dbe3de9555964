use Rattle.std.proofs.Common.{◌∙◌, ◌+◌, ◌-◌, ◌<◌, ◌≤◌, ◌⊎◌, inl, length, Some, refl, sym, ap, subst, arith}
use Rattle.std.proofs.lemmas.List.{drop_more, drop_all}
use Rattle.shared_core_codec.specs.ProgramRows.{rows_view}
use Rattle.shared_core_codec.specs.Canonicity.{next_view}
use Rattle.shared_core_codec.specs.RowEncoding.{length_record}
use Rattle.shared_core_wire.specs.Encoding.{shortest_varint, key_bytes}
use Rattle.shared_core_wire.specs.WrittenRecords.{number_record, content_record}
use Rattle.shared_core_fields_writer.proofs.Rooms.{wrote_both, less_stays}
use Rattle.shared_core_fields_writer.specs.Walk.{Walked, Goes, Nothing, walk, nested_onto, rest_of, entries_from}
use Rattle.shared_core_fields_writer.proofs.Stepping.{goes_error, field_fail, field_number, field_content, field_run}
use Rattle.shared_core_fields_writer.proofs.Stepping.{field_last, field_message, put_nested, nested_error, rest_past}
use Rattle.shared_core_fields_writer.proofs.Stepping.{rest_rest, writes_error, message_stops, message_deeper}
use Rattle.shared_core_fields_writer.proofs.Stepping.{message_unknown, message_ends}
use Rattle.shared_core_fields_writer.proofs.Stepping.{nests_over, some_bytes, few_bytes, one_or_less}
use Rattle.shared_core_fields_writer.proofs.Stepping.{message_step, rest_level}
use Rattle.shared_core_fields_writer.specs.Given.{field_next}
use Rattle.shared_core_codec.specs.Table.{table}
use Rattle.shared_core_fields_writer.proofs.walk.+message.Goals as goal
use Rattle.shared_core_fields_writer.proofs.walk.+message.Goals.{}

pub write_field-returns-in_err-value-clause-written : goal.write_field-returns-in_err-value-clause-written
write_field-returns-in_err-value-clause-written t c s rows last f =
    goes_error c.from_residual.result c.in_err-value.field-0.0 _ _ _ _ _ _ _ c.from_residual.ensures.1
    (field_fail c.args.source.now.bytes.now s rows last c.args.number c.args.entry.now.level
    (100 - c.args.entry.now.level) _ _ c.args.entry.now (next_view c.args.next) c.requires.entry refl
    c.requires.number f _ c.in_err-value.ensures)

pub write_field-returns-then-is_packed-clause-written : goal.write_field-returns-then-is_packed-clause-written
write_field-returns-then-is_packed-clause-written t c s rows last f =
    subst (λ (w : Walked). Goes c.write_run.result w (walk c.args.source.now.bytes.now s (rows_view c.args.next.rows)
    (Some c.args.number) Nothing c.args.entry.now.level (100 - c.args.entry.now.level) (entries_from c.args.source.now
    c.write_run.new.at.entry)) c.args.out.now c.args.at.now.byte c.write_run.new.out c.write_run.new.at.byte
    (entries_from c.args.source.now c.write_run.new.at.entry))
    (field_run c.args.source.now.bytes.now s rows last c.args.number c.args.entry.now.level
    (100 - c.args.entry.now.level) _ _ c.args.entry.now (next_view c.args.next) c.requires.entry refl
    c.requires.number f c.in-Number.value (rw c.in-Number.is at c.in_ok-value.ensures) c.if-is_packed.ensures)
    (c.write_run.ensures.written s (rows_view c.args.next.rows) (100 - c.args.entry.now.level))

pub write_field-returns-then-entry-ge-MOST_LEVELS-clause-written :
    goal.write_field-returns-then-entry-ge-MOST_LEVELS-clause-written
write_field-returns-then-entry-ge-MOST_LEVELS-clause-written t c s rows last f =
    field_last c.args.source.now.bytes.now s rows last c.args.number c.args.entry.now.level
    (100 - c.args.entry.now.level) _ _ c.args.entry.now (next_view c.args.next) c.requires.entry refl
    c.requires.number f c.in-Message.inner (omega (arith, c.if-entry-ge-MOST_LEVELS.true))
    (rw c.in-Message.is at c.in_ok-value.ensures)

pub write_field-returns-in_err-write_nested-in-Message-clause-written :
    goal.write_field-returns-in_err-write_nested-in-Message-clause-written
write_field-returns-in_err-write_nested-in-Message-clause-written t c s rows last f =
    goes_error c.from_residual-in_err-write_nested-in-Message.result c.in_err-write_nested-in-Message.field-0.0 _ _ _ _
    _ _ _ c.from_residual-in_err-write_nested-in-Message.ensures.1
    (field_message c.args.source.now.bytes.now s rows last c.args.number c.args.entry.now.level
    (100 - c.args.entry.now.level) _ _ _ c.args.entry.now (next_view c.args.next) c.requires.entry refl
    c.requires.number f c.in-Message.inner (omega (arith, c.if-entry-ge-MOST_LEVELS.false)) _ (omega arith)
    (rw c.in-Message.is at c.in_ok-value.ensures) refl
    ∙ nested_error c.args.number _ _ _ _ c.in_err-write_nested-in-Message.ensures.written)

pub write_field-returns-else-is_packed-clause-written : goal.write_field-returns-else-is_packed-clause-written
write_field-returns-else-is_packed-clause-written t c s rows last f = (
  number_record c.args.next.is_plain c.args.number c.in-Number.value,
  field_number c.args.source.now.bytes.now s rows last c.args.number c.args.entry.now.level
      (100 - c.args.entry.now.level) _ _ c.args.entry.now (next_view c.args.next) c.requires.entry refl
      c.requires.number f c.in-Number.value (rw c.in-Number.is at c.in_ok-value.ensures) c.if-is_packed.ensures,
  c.write_number-at.ensures,
)

pub write_field-returns-in-Content-clause-written : goal.write_field-returns-in-Content-clause-written
write_field-returns-in-Content-clause-written t c s rows last f = (
  content_record c.args.next.is_plain c.args.number c.in-Content.content.now,
  field_content c.args.source.now.bytes.now s rows last c.args.number c.args.entry.now.level
      (100 - c.args.entry.now.level) _ _ c.args.entry.now (next_view c.args.next) c.requires.entry refl
      c.requires.number f c.in-Content.content.now (rw c.in-Content.is at c.in_ok-value.ensures),
  c.write_content-at.ensures,
)

pub write_field-returns-in_ok-write_nested-in-Message-clause-written :
    goal.write_field-returns-in_ok-write_nested-in-Message-clause-written
write_field-returns-in_ok-write_nested-in-Message-clause-written t c s rows last f =
    let inner = c.in_ok-write_nested-in-Message.ensures in (
      length_record c.args.number inner.written.0,
      field_message c.args.source.now.bytes.now s rows last c.args.number c.args.entry.now.level
          (100 - c.args.entry.now.level) _ _ (entries_from c.args.source.now c.write_nested.new.at.entry)
          c.args.entry.now (next_view c.args.next) c.requires.entry refl c.requires.number f c.in-Message.inner
          (omega (arith, c.if-entry-ge-MOST_LEVELS.false)) _ (omega arith)
          (rw c.in-Message.is at c.in_ok-value.ensures) inner.rest
          ∙ ap (λ (w : Walked). nested_onto c.args.number w (walk c.args.source.now.bytes.now s (rows_view
          c.args.next.rows) (Some c.args.number) Nothing c.args.entry.now.level (100 - c.args.entry.now.level)
          (entries_from c.args.source.now c.write_nested.new.at.entry))) inner.written.1,
      wrote_both c.args.out.now c.write_key-at.new.out c.write_nested.new.out c.args.at.now.byte c.write_key-at.result
          c.write_nested.new.at.byte (key_bytes c.args.number 2) _ c.write_key-at.ensures inner.written.2,
    )

pub write_field-returns-in_ok-write_nested-in-Message-clause-rest :
    goal.write_field-returns-in_ok-write_nested-in-Message-clause-rest
write_field-returns-in_ok-write_nested-in-Message-clause-rest t c =
    ap (rest_of c.args.entry.now.level) c.in_ok-write_nested-in-Message.ensures.rest
    ∙ rest_rest c.args.entry.now.level (entries_from c.args.source.now (c.args.at.now.entry + 1))
    ∙ rest_past c.args.entry.now.level _ _ c.args.entry.now c.requires.entry refl

pub write_likely-returns-then-not-is_room-clause-written : goal.write_likely-returns-then-not-is_room-clause-written
write_likely-returns-then-not-is_room-clause-written t c =
    let v = c.write_varint-start.ensures.written in
    let m = c.in_ok-write_within.ensures.written in
    nests_over c.write_again.result _ c.args.out.now c.write_within.new.out c.write_again.new.out c.args.at.now.byte
    c.write_again.new.at.byte _ (m.2.same_length ∙ v.same_length)
    (less_stays c.args.at.now.byte c.write_varint-start.result c.write_within.new.out c.write_varint-start.new.out v.up
    m.2.before ∙ v.before) c.write_again.ensures.written

pub write_likely-write_length-at-requires-clause-room : goal.write_likely-write_length-at-requires-clause-room
write_likely-write_length-at-requires-clause-room t c = omega
    (arith, some_bytes c.args.likely, c.write_varint-start.ensures.written.count)

pub write_likely-write_length-at-requires-clause-few : goal.write_likely-write_length-at-requires-clause-few
write_likely-write_length-at-requires-clause-few t c =
    let fits : (c.args.likely < 128) ⊎ ((c.write_varint-start.result - c.args.at.now.byte ≤ length (shortest_varint
    (c.write_within.new.at.byte - c.write_varint-start.result))) × (c.write_within.new.at.byte <
    18446744073709551615)) = c.if-not-is_room.ensures refl in
    few_bytes c.args.at.now.byte c.write_varint-start.result c.write_within.new.at.byte c.args.likely
    c.write_varint-start.ensures.written.up c.write_varint-start.ensures.written.count fits

pub write_likely-returns-clause-written : goal.write_likely-returns-clause-written
write_likely-returns-clause-written t c =
    let v = c.write_varint-start.ensures.written in
    let m = c.in_ok-write_within.ensures.written in
    let fits : (c.args.likely < 128) ⊎ ((c.write_varint-start.result - c.args.at.now.byte ≤ length (shortest_varint
    (c.write_within.new.at.byte - c.write_varint-start.result))) × (c.write_within.new.at.byte <
    18446744073709551615)) = c.if-not-is_room.ensures refl in (
      m.0,
      m.1,
      put_nested c.args.out.now c.write_varint-start.new.out c.write_within.new.out c.write_length-at.new.out
          c.args.at.now.byte c.write_varint-start.result c.write_within.new.at.byte c.write_length-at.result
          (shortest_varint c.args.likely) m.0 v m.2 c.write_length-at.ensures
          (few_bytes c.args.at.now.byte c.write_varint-start.result c.write_within.new.at.byte c.args.likely v.up
          v.count fits) (some_bytes c.args.likely)
          (one_or_less c.args.at.now.byte c.write_varint-start.result c.write_within.new.at.byte c.args.likely fits)
          (omega arith),
    )

pub write_again-write_length-at-requires-clause-room : goal.write_again-write_length-at-requires-clause-room
write_again-write_length-at-requires-clause-room t c = omega
    (arith, some_bytes 0, c.write_varint-start.ensures.written.count)

pub write_again-write_length-at-requires-clause-few : goal.write_again-write_length-at-requires-clause-few
write_again-write_length-at-requires-clause-few t c =
    few_bytes c.args.at.now.byte c.write_varint-start.result c.write_message.new.at.byte 0
    c.write_varint-start.ensures.written.up c.write_varint-start.ensures.written.count (inl (omega arith))

pub write_again-returns-clause-written : goal.write_again-returns-clause-written
write_again-returns-clause-written t c =
    let v = c.write_varint-start.ensures.written in
    let m = c.in_ok-write_message.ensures.written in (
      m.0,
      m.1,
      put_nested c.args.out.now c.write_varint-start.new.out c.write_message.new.out c.write_length-at.new.out
          c.args.at.now.byte c.write_varint-start.result c.write_message.new.at.byte c.write_length-at.result
          (shortest_varint 0) m.0 v m.2 c.write_length-at.ensures
          (few_bytes c.args.at.now.byte c.write_varint-start.result c.write_message.new.at.byte 0 v.up v.count
          (inl (omega arith))) (some_bytes 0)
          (one_or_less c.args.at.now.byte c.write_varint-start.result c.write_message.new.at.byte 0
          (inl (omega arith))) (omega arith),
    )

pub write_message-returns-then-entry-level-2-clause-written :
    goal.write_message-returns-then-entry-level-2-clause-written
write_message-returns-then-entry-level-2-clause-written t c =
    let l = c.loop-at in (
      l.invariant.2.0,
      message_stops c.args.source.now.bytes.now c.args.schema (rows_view l.rows) l.last c.args.level
          (100 - c.args.level) _ _ _ (drop_more c.args.source.now.entries.now l.at.entry _ c.loop-at-test.true)
          l.invariant.2.0 _ l.invariant.2.1 c.if-entry-level-2.true,
      l.invariant.2.2,
    )

pub write_message-returns-then-entry-level-clause-written : goal.write_message-returns-then-entry-level-clause-written
write_message-returns-then-entry-level-clause-written t c =
    let l = c.loop-at in
    message_deeper c.args.source.now.bytes.now c.args.schema (rows_view l.rows) l.last c.args.level
    (100 - c.args.level) _ _ _ (drop_more c.args.source.now.entries.now l.at.entry _ c.loop-at-test.true)
    l.invariant.2.0 _ l.invariant.2.1 c.if-entry-level.true c.if-entry-level-2.false

pub write_message-returns-in_err-number-clause-written : goal.write_message-returns-in_err-number-clause-written
write_message-returns-in_err-number-clause-written t c =
    let l = c.loop-at in
    writes_error c.from_residual.result c.in_err-number.field-0.0 _ _ _ _ _ _ c.from_residual.ensures.1
    (message_unknown c.args.source.now.bytes.now c.args.schema (rows_view l.rows) l.last c.args.level
    (100 - c.args.level) _ _ _ (drop_more c.args.source.now.entries.now l.at.entry _ c.loop-at-test.true)
    l.invariant.2.0 _ l.invariant.2.1 _ c.if-entry-level.false c.in_err-number.ensures.next)

pub write_message-loop-at-preserved : goal.write_message-loop-at-preserved
write_message-loop-at-preserved t c =
    let l = c.loop-at in
    let w = c.in_ok-write_field.ensures in
    let same = c.if-entry-level.false in (
      omega (arith, l.invariant.0, w.more),
      w.end,
      message_step c.args.source.now.bytes.now c.args.schema (rows_view l.rows) (rows_view c.in_ok-number.next.rows)
          l.last c.in_ok-number.number c.args.level _ (λ l. 100 - l) _ _ _ c.args.out.now l.out c.write_field.new.out
          c.args.at.now.byte l.at.byte c.write_field.new.at.byte same l.invariant.2
          (w.written c.args.schema (rows_view l.rows) l.last
          (ap (field_next (table c.args.schema) (rows_view l.rows) l.last) c.in_ok-number.ensures.same
          ∙ sym c.in_ok-number.ensures.next)),
      rest_level c.args.level _ _ _ same w.rest ∙ l.invariant.3,
    )

pub write_message-returns-clause-written : goal.write_message-returns-clause-written
write_message-returns-clause-written t c =
    let l = c.loop-at in (
      l.invariant.2.0,
      message_ends c.args.source.now.bytes.now c.args.schema (rows_view l.rows) l.last c.args.level
          (100 - c.args.level) _ l.invariant.2.0 _ l.invariant.2.1
          (drop_all l.at.entry c.args.source.now.entries.now (omega (arith, c.loop-at-test.false))),
      l.invariant.2.2,
    )
