-- How what was taken of a chunk is written.
use Rattle.std.proofs.Common.{◌≡◌, ℕ, List, [], ◌∷◌, ◌++◌, Option, Some, None}
use Rattle.make_lines.specs.declared.error.LineError.{LineError}
use Rattle.make_lines.specs.declared.stream.Lines.{Lines}
use Rattle.make_lines.specs.declared.stream.Rejected.{Rejected}
use Rattle.make_lines.specs.Made.{ended, made, BeginWith}
use Rattle.make_lines.specs.Steps.{AreTaken}
use Rattle.make_lines.proofs.Taking.{first_lines}

-- what is written is what the first lines mean, whether or not a line is rejected
pub taken_lines : (means : List ℕ → Option (List ℕ)) (fails : List ℕ → LineError → Type 0) (bytes : List ℕ)
    (o : Option Rejected) (old new : Lines) → AreTaken means fails bytes o old new
    → (lines : List (List ℕ)) × (rest more : List ℕ) × BeginWith bytes lines rest × (made means lines ≡ Some more) ×
    (new.made.items ≡ old.made.items ++ more)
taken_lines means fails bytes None old new (lines, more, are, e, m, n) =
    (lines, new.pending.items, more, are.begins, e, m)
taken_lines means fails bytes (Some rejected) old new (lines, line, rest, more, b, e, m, n, k) =
    (lines, ended (line ∷ []) ++ rest, more, first_lines bytes rest lines (line ∷ []) b, e, m)
