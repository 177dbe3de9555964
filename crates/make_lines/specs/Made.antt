-- What is written when the making of a stream ends.
use Rattle.std.specs.Prelude.{◌≡◌, ◌⊎◌, ℕ, suc, Bool, false, List, [], ◌∷◌, ◌++◌, length, min, ◌==◌, if◌then◌else◌}
use Rattle.std.specs.Prelude.{Option, Some, option_map, option_and_then, Result, Ok, Err}
use Rattle.std.specs.Io.KnownBytes.{IsAtEnd}
use Rattle.stream_lines.specs.Printing.{Begins}
use Rattle.make_lines.specs.declared.error.LineError.{LineError}
use Rattle.make_lines.specs.declared.error.MakeError.{MakeError}
use Rattle.make_lines.specs.declared.error.MakeError.TheVariants.{Input, Output, OutOfMemory, Line}
use Rattle.make_lines.specs.Lines.{line_made}
use Rattle.make_lines.specs.Making.{Making}
use Rattle.make_lines.specs.Appending.{IsRejected}

-- Whether some bytes have a newline.
abbrev pub has_newline : List ℕ → Bool
has_newline [] = false
has_newline (b ∷ bs) = if b == 10 then Bool.true else has_newline bs

-- Lines one after the other, with a newline after each.
abbrev pub ended : List (List ℕ) → List ℕ
ended [] = []
ended (line ∷ lines) = line ++ (10 ∷ ended lines)

-- None of the lines has a newline.
abbrev pub AreSingle : List (List ℕ) → Type 0
AreSingle [] = Unit {0}
AreSingle (line ∷ lines) = (has_newline line ≡ false) × AreSingle lines

-- The bytes begin with these lines, each with a newline after it, and then come others.
pub record BeginWith (bytes : List ℕ) (lines : List (List ℕ)) (rest : List ℕ) : Type 0 where
  pub whole : bytes ≡ ended lines ++ rest
  pub single : AreSingle lines

-- The bytes are these lines, each with a newline after it, and then this rest of a line.
pub record AreLines (bytes : List ℕ) (lines : List (List ℕ)) (rest : List ℕ) : Type 0 where
  pub begins : BeginWith bytes lines rest
  pub unended : has_newline rest ≡ false

-- One list after the other, if both exist.
abbrev pub both : Option (List ℕ) → Option (List ℕ) → Option (List ℕ)
both a b = option_and_then (λ xs. option_map (λ ys. xs ++ ys) b) a

-- The bytes that lines mean by a function, one after the other, if each line means something.
abbrev pub made : (List ℕ → Option (List ℕ)) → List (List ℕ) → Option (List ℕ)
made means [] = Some []
made means (line ∷ lines) = both (means line) (made means lines)

-- These are the first lines, or all of them with the rest, which is a line at the end of the input.
abbrev pub AreFirst : List (List ℕ) → List (List ℕ) → List ℕ → Option (List ℕ) → Type 0
AreFirst done lines rest left = Begins done lines ⊎ (IsAtEnd left × (done ≡ lines ++ rest ∷ []))

-- A number of lines, or 2 ^ 64 - 1 if it is greater.
abbrev pub counted : ℕ → ℕ
counted n = min n 18446744073709551615

-- What is written for each result, where a line means bytes or fails with an error, for these lines and this rest, and
-- what the reader has left: what all lines mean, at the input's end; what the complete lines mean; a prefix of what the
-- first lines mean; what the first lines mean; or what the lines before a rejected one mean.
abbrev pub StandsMade : (List ℕ → Option (List ℕ)) → (List ℕ → LineError → Type 0) → Result (Unit {0}) MakeError → List
    (List ℕ) → List ℕ → List ℕ → Option (List ℕ) → Type 0
StandsMade means fails (Ok done) lines rest written left = IsAtEnd left ×
    (made means (lines ++ rest ∷ []) ≡ Some written)
StandsMade means fails (Err Input) lines rest written left = made means lines ≡ Some written
StandsMade means fails (Err Output) lines rest written left =
    (done : List (List ℕ)) × (bytes : List ℕ) × AreFirst done lines rest left × (made means done ≡ Some bytes) × Begins
    written bytes
StandsMade means fails (Err OutOfMemory) lines rest written left = (done : List (List ℕ)) × Begins done lines ×
    (made means done ≡ Some written)
StandsMade means fails (Err (Line number error)) lines rest written left =
    (done : List (List ℕ)) × (line : List ℕ) × AreFirst (done ++ line ∷ []) lines rest left
    × (made means done ≡ Some written) × fails line error × (number ≡ counted (suc (length done)))

-- The bytes that were read are these lines and this rest, and what is written is as the result says.
pub record IsMade (by : Making) (result : Result (Unit {0}) MakeError) (read written : List ℕ)
    (left : Option (List ℕ)) : Type 0 where
  pub lines : List (List ℕ)
  pub rest : List ℕ
  pub split : AreLines read lines rest
  pub stands : StandsMade (line_made by) (IsRejected by) result lines rest written left
