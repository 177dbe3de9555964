use Rattle.std.proofs.Common.{◌<◌, ℕ, List, Option, length, ap, sym, arith}
use Rattle.show_lines.proofs.Units.{found, passed}
use Rattle.show_lines.proofs.range.without_unit.Goals as goal

pub returns-in-Some-clause-text : goal.returns-in-Some-clause-text
returns-in-Some-clause-text c =
    let short : c.loop-unit.unit-index < length c.args.units.now = omega arith in
    ap (λ (r : List ℕ × Option ℕ). r.0) (sym (found c.args.units.now _ c.loop-unit.unit-index c.args.text.now
    c.in-Some.digits c.in-Some.ensures.cases short c.loop-unit.invariant))

pub returns-in-Some-clause-unit : goal.returns-in-Some-clause-unit
returns-in-Some-clause-unit c =
    let short : c.loop-unit.unit-index < length c.args.units.now = omega arith in
    ap (λ (r : List ℕ × Option ℕ). r.1) (sym (found c.args.units.now _ c.loop-unit.unit-index c.args.text.now
    c.in-Some.digits c.in-Some.ensures.cases short c.loop-unit.invariant))

pub loop-unit-preserved : goal.loop-unit-preserved
loop-unit-preserved c =
    let short : c.loop-unit.unit-index < length c.args.units.now = omega arith in
    passed c.args.units.now _ c.loop-unit.unit-index c.args.text.now c.in_default.ensures.cases short
    c.loop-unit.invariant
