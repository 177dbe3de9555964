use Rattle.std.proofs.Common.{refl, sym, Some, None}
use Rattle.show_lines.proofs.Patterns.{begins_by}
use Rattle.show_lines.proofs.filter.split_mark.Goals as goal

pub returns-in-Some-clause-begins : goal.returns-in-Some-clause-begins
returns-in-Some-clause-begins c =
    sym (begins_by c.args.mark.now c.args.text.now (Some c.in-Some.rest) c.in-Some.ensures.cases).begins

pub returns-in-Some-clause-rest : goal.returns-in-Some-clause-rest
returns-in-Some-clause-rest c =
    let is = begins_by c.args.mark.now c.args.text.now (Some c.in-Some.rest) c.in-Some.ensures.cases in
    rw is.begins is.rest

pub returns-in-None-clause-begins : goal.returns-in-None-clause-begins
returns-in-None-clause-begins c = sym (begins_by c.args.mark.now c.args.text.now None c.in-None.ensures.cases)

pub returns-in-None-clause-rest : goal.returns-in-None-clause-rest
returns-in-None-clause-rest c =
    let not = begins_by c.args.mark.now c.args.text.now None c.in-None.ensures.cases in
    rw not refl
