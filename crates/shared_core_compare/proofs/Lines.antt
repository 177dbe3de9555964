-- The lines that the fields of a difference are.
use Rattle.std.proofs.Common.{List, ℕ, [], ◌∷◌, subst}
use Rattle.std.specs.Prelude.{flat_map}
use Rattle.std.specs.Fmt.{HasWritten, IsPlainFormatter}
use Rattle.std.proofs.Output.{has_written_append, writes_in_calls_nil}
use Rattle.std.specs.declared.fmt.Formatter.{Formatter}
use Rattle.std.specs.List.{FoldsTo}
use Rattle.shared_core_compare.specs.Differences.{FieldTexts, HasWrittenFields, field_line}

module _ {W : Type 0} (took : W → List ℕ → W → Type 0) (indentation : List ℕ) where
  -- How a line of a field is written to a formatter.
  abbrev pub WritesLine : Formatter W → FieldTexts → Formatter W → Type 0
  WritesLine old field new = IsPlainFormatter old → HasWritten took old (field_line indentation field) new

  folded_lines : (f g : Formatter W) (fields : List FieldTexts) → FoldsTo WritesLine f fields g → IsPlainFormatter f
      → HasWritten took f (flat_map (field_line indentation) fields) g
  folded_lines f g [] p plain =
      subst (λ (x : Formatter W). HasWritten took f [] x) p (record
      { wrote = writes_in_calls_nil took _; plain = plain })
  folded_lines f g (field ∷ fields) p plain =
      let one = p.1 plain in
      has_written_append took f _ p.0 _ g one (folded_lines p.0 g fields p.2 one.plain)

  -- Fields that are written as lines are the text of these lines.
  pub fields_are_lines : (f g : Formatter W) (fields : List FieldTexts) → HasWrittenFields WritesLine f fields g →
      IsPlainFormatter f
      → HasWritten took f (flat_map (field_line indentation) fields) g
  fields_are_lines f g fields written = folded_lines f g fields written.folds
