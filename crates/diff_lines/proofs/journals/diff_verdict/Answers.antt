use Rattle.std.proofs.Common.{[], rules}
use Rattle.std.proofs.lemmas.Result.{err_from_is_err_and}
use Rattle.diff_lines.proofs.Reporting.{faulty_fails, faulty}
use Rattle.diff_lines.proofs.journals.diff_verdict.Goals as goal

pub returns-in_err-fail_if_faulty-clause-reported : goal.returns-in_err-fail_if_faulty-clause-reported
returns-in_err-fail_if_faulty-clause-reported g c =
    let from = err_from_is_err_and c.from_residual-in_err-fail_if_faulty.result
    c.from_residual-in_err-fail_if_faulty.ensures.1 in (
      [],
      search rules,
      rw (from.1, from.2) (faulty _ c.args.options.now _ _ c.in_ok-found.found _ c.in_ok-found.ensures.compared
          c.in_err-fail_if_faulty.ensures.failed),
    )

pub returns-in_err-fail_if_faulty-clause-failed : goal.returns-in_err-fail_if_faulty-clause-failed
returns-in_err-fail_if_faulty-clause-failed g c =
    let from = err_from_is_err_and c.from_residual-in_err-fail_if_faulty.result
    c.from_residual-in_err-fail_if_faulty.ensures.1 in
    rw (from.1, from.2)
    (faulty_fails _ _ _ _ c.args.options.now.comparison.is_strict c.in_ok-found.found _
    c.in_err-fail_if_faulty.ensures.failed)
