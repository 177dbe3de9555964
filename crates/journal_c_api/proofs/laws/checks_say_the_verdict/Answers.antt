use Rattle.std.proofs.Common.{◌++◌, ◌∷◌, [], refl}
use Rattle.journal_c_api.proofs.WholeReplays.{ended_as_compared, left_as_compared, same_as_compared, told_as_compared}
use Rattle.journal_c_api.proofs.laws.checks_say_the_verdict.Goals as goal

pub returns-clause-left : goal.returns-clause-left
returns-clause-left c = λ number options recorded numbers new before after passed item outcome is checked.
    left_as_compared number options recorded passed (passed ++ item ∷ []) numbers outcome is before after item new refl
    checked

pub returns-clause-ended : goal.returns-clause-ended
returns-clause-ended c = λ number options recorded numbers before after passed outcome is finished.
    ended_as_compared number options recorded passed passed numbers outcome is before after refl finished

pub returns-clause-same : goal.returns-clause-same
returns-clause-same c = λ number options recorded numbers before after passed outcome is finished.
    same_as_compared number options recorded passed passed numbers outcome is before after refl finished

pub returns-clause-text : goal.returns-clause-text
returns-clause-text c = λ number options recorded numbers text passed item outcome is told.
    told_as_compared number options recorded passed (passed ++ item ∷ []) numbers outcome is item text refl told
