use Rattle.std.proofs.Common.{sym}
use Rattle.std.proofs.lemmas.Bool.{le-ltb, ltb-true}
use Rattle.journal_c_api.proofs.ChangedFields.{field_written, no_field_written}
use Rattle.journal_c_api.proofs.commands.write_changed_field.Goals as goal

pub returns-in-Some : goal.returns-in-Some
returns-in-Some c =
    let (within, here, _, _, _) = c.in-Some.ensures.lookup in
    field_written c.args.code c.args.index c.args.first.now c.args.second.now c.as_slice.result.now
    c.in_ok-fields.fields.items c.as_slice.ensures.value c.in_ok-fields.ensures c.args.numbers.now
    (le-ltb _ _ c.if-numbers-lt-CHANGED_FIELD_NUMBERS.false) c.in-Some.field.now (ltb-true _ _ (sym within)) here
    c.write_field.new.numbers c.args.out.now c.write_field.new.out c.write_field.result c.write_field.ensures

pub returns : goal.returns
returns c =
    let (_, _, _, past, _) = c.in-None.ensures.lookup in
    no_field_written c.args.code c.args.index c.args.first.now c.args.second.now c.as_slice.result.now
    c.in_ok-fields.fields.items c.as_slice.ensures.value c.in_ok-fields.ensures c.args.numbers.now
    (le-ltb _ _ c.if-numbers-lt-CHANGED_FIELD_NUMBERS.false) past c.args.out.now
