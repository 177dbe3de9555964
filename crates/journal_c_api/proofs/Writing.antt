-- Results that are written over a slice.
use Rattle.std.proofs.Common.{◌≡◌, ℕ, List, Result, Ok, Err, sym, subst}
use Rattle.journal_c_api.specs.declared.outcome.CallError.{CallError}
use Rattle.journal_c_api.specs.Outcomes.{Writes}

-- what holds of a result holds of what is written for it
pub writes_outcome : (holds : Result (List ℕ) CallError → Type 0) (outcome : Result (List ℕ) CallError)
    (old new : List ℕ) (result : Result ℕ CallError)
    → Writes (λ written. written ≡ outcome) old new result → holds outcome → Writes holds old new result
writes_outcome holds outcome old new (Ok count) (bytes, is, counted, stands) held =
    (bytes, subst holds (sym is) held, counted, stands)
writes_outcome holds outcome old new (Err error) (is, stands) held = (subst holds (sym is) held, stands)
