-- How lines are taken, one by one and chunk by chunk.
use Rattle.std.specs.Prelude.{◌≡◌, ℕ, suc, ◌+◌, List, [], ◌∷◌, ◌++◌, length, Option, Some, None, Result, Ok, Err}
use Rattle.stream_lines.specs.Printing.{Begins}
use Rattle.make_lines.specs.declared.error.LineError.{LineError}
use Rattle.make_lines.specs.declared.error.MakeError.{MakeError}
use Rattle.make_lines.specs.declared.error.MakeError.TheVariants.{Input, Output, OutOfMemory, Line}
use Rattle.make_lines.specs.declared.stream.Lines.{Lines}
use Rattle.make_lines.specs.declared.stream.Rejected.{Rejected}
use Rattle.make_lines.specs.Made.{made, counted, AreLines, BeginWith}

-- The pending bytes, and then others, are taken as a line, and what it means is appended; or it is rejected, and
-- nothing is appended. If an allocation fails, nothing is specified.
abbrev pub LineIsTaken : {E : Type 0} → (List ℕ → Option (List ℕ)) → (List ℕ → LineError → Type 0) → List ℕ → Result
    (Option Rejected) E → Lines → Lines → Type 0
LineIsTaken means fails end (Ok None) old new =
    (bytes : List ℕ) × (means (old.pending.items ++ end) ≡ Some bytes) × (new.made.items ≡ old.made.items ++ bytes) ×
    (new.pending.items ≡ []) × (new.taken ≡ counted (suc old.taken))
LineIsTaken means fails end (Ok (Some rejected)) old new =
    fails (old.pending.items ++ end) rejected.error × (new.made.items ≡ old.made.items) ×
    (rejected.number ≡ counted (suc old.taken))
LineIsTaken means fails end (Err lack) old new = Unit {0}

-- The lines that these bytes end are taken, or those before a rejected one.
abbrev pub AreTaken : (List ℕ → Option (List ℕ)) → (List ℕ → LineError → Type 0) → List ℕ → Option Rejected → Lines →
    Lines → Type 0
AreTaken means fails bytes None old new =
    (lines : List (List ℕ)) × (more : List ℕ) × AreLines bytes lines new.pending.items × (made means lines ≡ Some more)
    × (new.made.items ≡ old.made.items ++ more) × (new.taken ≡ counted (old.taken + length lines))
AreTaken means fails bytes (Some rejected) old new =
    (lines : List (List ℕ)) × (line rest more : List ℕ) × BeginWith bytes (lines ++ line ∷ []) rest ×
    (made means lines ≡ Some more)
    × (new.made.items ≡ old.made.items ++ more) × fails line rejected.error ×
    (rejected.number ≡ counted (suc (old.taken + length lines)))

-- The lines that these bytes end are taken, or those before a rejected one, unless an allocation failed.
abbrev pub IsTaken : {E : Type 0} → (List ℕ → Option (List ℕ)) → (List ℕ → LineError → Type 0) → List ℕ → Result
    (Option Rejected) E → Lines → Lines → Type 0
IsTaken means fails bytes (Ok rejected) old new = AreTaken means fails bytes rejected old new
IsTaken means fails bytes (Err lack) old new = Unit {0}

-- What is written for the lines that these bytes end: what they mean; a prefix of it; nothing, if an allocation fails;
-- or what the lines before a rejected one mean.
abbrev pub IsStep : (List ℕ → Option (List ℕ)) → (List ℕ → LineError → Type 0) → List ℕ → Result (Unit {0}) MakeError →
    List ℕ → Lines → Lines → Type 0
IsStep means fails bytes (Ok done) written old new =
    (lines : List (List ℕ)) × AreLines bytes lines new.pending.items × (made means lines ≡ Some written) ×
    (new.made.items ≡ []) × (new.taken ≡ counted (old.taken + length lines))
IsStep means fails bytes (Err Input) written old new = ⊥
IsStep means fails bytes (Err Output) written old new =
    (lines : List (List ℕ)) × (rest more : List ℕ) × BeginWith bytes lines rest × (made means lines ≡ Some more) ×
    Begins written more
IsStep means fails bytes (Err OutOfMemory) written old new = written ≡ []
IsStep means fails bytes (Err (Line number error)) written old new =
    (lines : List (List ℕ)) × (line rest : List ℕ) × BeginWith bytes (lines ++ line ∷ []) rest ×
    (made means lines ≡ Some written)
    × fails line error × (number ≡ counted (suc (old.taken + length lines)))

-- What is written if the pending bytes are taken as the last line: what it means, a prefix of that, or nothing.
abbrev pub IsFinished : (List ℕ → Option (List ℕ)) → (List ℕ → LineError → Type 0) → Result (Unit {0}) MakeError → List
    ℕ → Lines → Type 0
IsFinished means fails (Ok done) written lines = means lines.pending.items ≡ Some written
IsFinished means fails (Err Input) written lines = ⊥
IsFinished means fails (Err Output) written lines = (bytes : List ℕ) × (means lines.pending.items ≡ Some bytes) × Begins
    written bytes
IsFinished means fails (Err OutOfMemory) written lines = written ≡ []
IsFinished means fails (Err (Line number error)) written lines =
    (written ≡ []) × fails lines.pending.items error × (number ≡ counted (suc lines.taken))
