use Rattle.std.proofs.Common.{◌∙◌, ◌++◌, List, ℕ, sym, ap, append_assoc, arith}
use Rattle.std.proofs.lemmas.List.{drop_more, drop_all}
use Rattle.shared_core_codec.specs.ProgramRows.{kind_view}
use Rattle.shared_core_fields_writer.proofs.Rooms.{wrote_both}
use Rattle.shared_core_fields_writer.proofs.Stepping.{continues_error, numbers_stop, numbers_past, numbers_fail}
use Rattle.shared_core_fields_writer.proofs.Stepping.{numbers_end, number_more, rest_number}
use Rattle.shared_core_fields_writer.proofs.walk.write_numbers.Goals as goal

pub returns-then-not-is_number_of-clause-walked : goal.returns-then-not-is_number_of-clause-walked
returns-then-not-is_number_of-clause-walked c s rows depth =
    let here = drop_more c.args.source.now.entries.now c.loop-at.at.entry _ c.loop-at-test.true in
    sym (c.loop-at.invariant.3 s rows depth)
    ∙ numbers_stop c.args.source.now.bytes.now s rows c.args.field.number c.args.level depth (kind_view
    c.args.field.kind) _ _ _ here
    c.if-not-is_number_of.ensures

pub returns-in_err-given_value-clause-walked : goal.returns-in_err-given_value-clause-walked
returns-in_err-given_value-clause-walked c s rows depth =
    let here = drop_more c.args.source.now.entries.now c.loop-at.at.entry _ c.loop-at-test.true in
    continues_error c.from_residual.result c.in_err-given_value.field-0.0 _ _ _ c.from_residual.ensures.1
    (sym (c.loop-at.invariant.3 s rows depth)
    ∙ numbers_fail c.args.source.now.bytes.now s rows c.args.field.number c.args.level depth (kind_view
    c.args.field.kind) _ _ _ here _
    c.if-not-is_number_of.ensures c.in_err-given_value.ensures)

pub loop-at-preserved : goal.loop-at-preserved
loop-at-preserved c =
    let l = c.loop-at in
    let here = drop_more c.args.source.now.entries.now l.at.entry _ c.loop-at-test.true in
    let more = number_more c.args.level c.args.field.number _ _ _ here c.if-not-is_number_of.ensures in (
      omega (arith, l.invariant.0),
      omega (arith, c.loop-at-test.true),
      (
        _,
        l.invariant.2.1 ∙ ap (λ (xs : List ℕ). l.invariant.2.0 ++ xs) more
            ∙ sym (append_assoc l.invariant.2.0 _ _),
        wrote_both c.args.out.now l.out c.write_varint-at.new.out c.args.at.now.byte l.at.byte
            c.write_varint-at.result l.invariant.2.0 _ l.invariant.2.2 c.write_varint-at.ensures.written,
      ),
      λ s rows depth.
          numbers_past c.args.source.now.bytes.now s rows c.args.field.number c.args.level depth (kind_view
          c.args.field.kind) _ _ _ here _
          c.if-not-is_number_of.ensures c.in_ok-given_value.ensures ∙ l.invariant.3 s rows depth,
      rest_number c.args.level c.args.field.number _ _ _ here c.if-not-is_number_of.ensures ∙ l.invariant.4,
    )

pub returns-clause-walked : goal.returns-clause-walked
returns-clause-walked c s rows depth =
    sym (c.loop-at.invariant.3 s rows depth)
    ∙ numbers_end c.args.source.now.bytes.now s rows c.args.field.number c.args.level depth (kind_view
    c.args.field.kind) _
    (drop_all c.loop-at.at.entry c.args.source.now.entries.now (omega (arith, c.loop-at-test.false)))
