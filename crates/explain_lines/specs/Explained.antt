-- What an explanation has of the bytes that it is of.
use Rattle.std.specs.Prelude.{◌≡◌, ℕ, Bool, true, false, not, List, [], ◌∷◌, ◌++◌}
use Rattle.explain_lines.specs.declared.piece.FieldAt.{FieldAt}
use Rattle.explain_lines.specs.Explanation.{Explanation, fault_line}
use Rattle.explain_lines.specs.Lines.{Line, bytes_of}

-- The last of the lines names a fault, at a byte that no line has.
pub record NamesFault (lines : List Line) : Type 0 where
  pub before : List Line
  pub path : List FieldAt
  pub reason : List ℕ
  pub last : lines ≡ before ++ fault_line path reason ∷ []

-- The bytes, in order, are those of the lines, and others after a fault. The explanation ends at a fault if and only if
-- the bytes are not accepted. If they are, each of them is in a line; if they are not, the last line names the fault.
pub record IsExplanationOf (bytes : List ℕ) (accepted : Bool) (e : Explanation) : Type 0 where
  pub rest : List ℕ
  pub parts : bytes ≡ bytes_of e.lines ++ rest
  pub ended : e.ended ≡ not accepted
  pub whole : accepted ≡ true → rest ≡ []
  pub named : accepted ≡ false → NamesFault e.lines
