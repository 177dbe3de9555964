use Rattle.std.proofs.Common.{◌∙◌, ◌+◌, ◌++◌, Bool, true, Some, sym, ap, arith}
use Rattle.std.proofs.lemmas.List.{drop_more, drop_all}
use Rattle.shared_core_codec.specs.Table.{table}
use Rattle.shared_core_codec.specs.ProgramRows.{rows_view}
use Rattle.shared_core_codec.specs.Canonicity.{next_view}
use Rattle.shared_core_wire.specs.WrittenRecords.{content_record}
use Rattle.shared_core_fields_writer.specs.Given.{field_next}
use Rattle.shared_core_fields_writer.specs.Walk.{Nothing, onto, walk, entries_from}
use Rattle.shared_core_fields_writer.proofs.Rooms.{wrote_both}
use Rattle.shared_core_fields_writer.proofs.Stepping.{field_content, message_ends, message_more, message_stops}
use Rattle.shared_core_fields_writer.proofs.Stepping.{rest_past}
use Rattle.shared_core_fields_writer.proofs.flat.write_flat.Goals as goal

pub returns-then-entry-level-2-clause-written : goal.returns-then-entry-level-2-clause-written
returns-then-entry-level-2-clause-written c =
    let l = c.loop-end in
    let v = l.invariant.2 in (
      v.1,
      λ depth. message_stops c.args.source.now.bytes.now c.args.schema (rows_view l.rows) v.0 c.args.level depth _ _ _
          (drop_more c.args.source.now.entries.now l.end.entry _ c.loop-end-test.true) v.1 _ (v.2 depth)
          c.if-entry-level-2.true,
      v.3,
    )

pub loop-end-preserved : goal.loop-end-preserved
loop-end-preserved c =
    let l = c.loop-end in
    let v = l.invariant.2 in
    let source = c.args.source.now in
    let n = c.in_ok-number.number in
    let next = c.in_ok-number.next in
    let w = c.in_ok-end.ensures.written in
    let piece = content_record true n w.0 in
    let more = drop_more source.entries.now l.end.entry _ c.loop-end-test.true in (
      omega (arith, l.invariant.0),
      omega (arith, c.loop-end-test.true),
      (
        Some n,
        v.1 ++ piece,
        λ depth. message_more v.1 piece _ _ _ (v.2 depth)
            (field_content source.bytes.now c.args.schema (rows_view l.rows) v.0 n c.args.level depth _ _ _
            (next_view next) more c.if-entry-level.false (sym c.in_ok-number.ensures.same)
            (ap (field_next (table c.args.schema) (rows_view l.rows) v.0) c.in_ok-number.ensures.same
            ∙ c.in_ok-number.ensures.next (table c.args.schema) v.0) w.0 (sym w.1)
            ∙ ap (λ (plain : Bool). onto (content_record plain n w.0) (walk source.bytes.now c.args.schema (rows_view
            next.rows) (Some n) Nothing c.args.level depth (entries_from source (l.end.entry + 1))))
            c.in_ok-number.ensures.plain),
        wrote_both c.args.out.now l.out c.write_few_of.new.out c.args.at.byte l.end.byte _ v.1 piece v.3 w.2,
      ),
      rest_past c.args.level _ _ _ more c.if-entry-level.false ∙ l.invariant.3,
    )

pub returns-clause-written : goal.returns-clause-written
returns-clause-written c =
    let l = c.loop-end in
    let v = l.invariant.2 in (
      v.1,
      λ depth. message_ends c.args.source.now.bytes.now c.args.schema (rows_view l.rows) v.0 c.args.level depth _ v.1 _
          (v.2 depth) (drop_all l.end.entry c.args.source.now.entries.now (omega (arith, c.loop-end-test.false))),
      v.3,
    )
