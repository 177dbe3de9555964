use Rattle.std.proofs.Common.{◌<◌, ℕ, List, Option, length, ap, sym, arith}
use Rattle.show_lines.specs.declared.filter.FieldName.{FieldName}
use Rattle.show_lines.proofs.Fields.{found, passed}
use Rattle.show_lines.proofs.filter.field_of.Goals as goal

pub returns-in-Some-clause-field : goal.returns-in-Some-clause-field
returns-in-Some-clause-field c =
    let short : c.loop-name.name-index < length c.args.fields.now = omega arith in
    ap (λ (r : Option FieldName × List ℕ). r.0) (sym (found c.args.fields.now _ c.loop-name.name-index c.args.text.now
    c.in-Some.rest c.in-Some.ensures.cases short c.loop-name.invariant))

pub returns-in-Some-clause-rest : goal.returns-in-Some-clause-rest
returns-in-Some-clause-rest c =
    let short : c.loop-name.name-index < length c.args.fields.now = omega arith in
    ap (λ (r : Option FieldName × List ℕ). r.1) (sym (found c.args.fields.now _ c.loop-name.name-index c.args.text.now
    c.in-Some.rest c.in-Some.ensures.cases short c.loop-name.invariant))

pub loop-name-preserved : goal.loop-name-preserved
loop-name-preserved c =
    let short : c.loop-name.name-index < length c.args.fields.now = omega arith in
    passed c.args.fields.now _ c.loop-name.name-index c.args.text.now c.in_default.ensures.cases short
    c.loop-name.invariant
