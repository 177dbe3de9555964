-- The line of a verdict, neither escaped nor in colors, has the text that the verdict has.
use Rattle.std.proofs.Common.{◌≡◌, ℕ, pos, false, List, [], ◌∷◌, ◌++◌, Option, Some, ◌∙◌, ap, refl, sym, append_assoc}
use Rattle.std.specs.Prelude.{codes, decimal, flat_map}
use Rattle.std.specs.String.{string_bytes}
use Rattle.shared_core_base.specs.declared.header.MessageType.{MessageType}
use Rattle.shared_core_base.specs.CommandType.{message_type_text}
use Rattle.shared_core_errors.specs.Mismatch.{command_type_mismatch_text, mismatch_head}
use Rattle.shared_core.specs.Errors.{command_mismatch_text}
use Rattle.replay_bench.specs.declared.fields.FieldDifference.{FieldDifference}
use Rattle.replay_bench.specs.declared.verdicts.Verdict.{Verdict}
use Rattle.replay_bench.specs.declared.verdicts.Verdict.TheVariants.{Same, RecordedEnded, ReplayedEnded, TypeMismatch}
use Rattle.replay_bench.specs.declared.verdicts.Verdict.TheVariants.{HeaderMismatch}
use Rattle.replay_bench.specs.Fields.{lines_of}
use Rattle.replay_bench.specs.Verdicts.{IsSaid}
use Rattle.diff_lines.specs.FieldLines.{field_line}
use Rattle.diff_lines.specs.VerdictLines.{difference_text, plain, shown_verdict, type_text, types_text, verdict_text}

-- the lines of fields are those of the text
plain_lines : (fields : List FieldDifference) → flat_map (field_line plain) fields ≡ lines_of fields
plain_lines [] = refl
plain_lines (field ∷ fields) = ap (λ (rest : List ℕ). field_line plain field ++ rest) (plain_lines fields)

-- parts that are appended in groups
grouped : (a b c m x : List ℕ) → ((a ++ b) ++ (c ++ m)) ++ x ≡ a ++ (b ++ (c ++ (m ++ x)))
grouped a b c m x =
    append_assoc (a ++ b) (c ++ m) x ∙ append_assoc a b ((c ++ m) ++ x)
    ∙ ap (λ (rest : List ℕ). a ++ (b ++ rest)) (append_assoc c m x)

five : (a b c d e x : List ℕ) → (a ++ (b ++ (c ++ (d ++ e)))) ++ x ≡ a ++ (b ++ (c ++ (d ++ (e ++ x))))
five a b c d e x =
    append_assoc a (b ++ (c ++ (d ++ e))) x ∙ ap (λ (rest : List ℕ). a ++ rest)
    (append_assoc b (c ++ (d ++ e)) x ∙ ap (λ (rest : List ℕ). b ++ rest)
    (append_assoc c (d ++ e) x ∙ ap (λ (rest : List ℕ). c ++ rest) (append_assoc d e x)))

module _ (index : ℕ) where
  -- a mismatch of types
  plain_types : (one other : MessageType)
      → types_text false index (Some one) (Some other) ≡ codes "command " ++ (decimal index ++ (codes ": " ++
      command_type_mismatch_text (pos index) one other))
  plain_types one other =
      grouped (codes "command ") (decimal index) (codes ": ") mismatch_head _
      ∙ ap (λ (rest : List ℕ). codes "command " ++ (decimal index ++ (codes ": " ++ (mismatch_head ++
      (codes " - The previous execution ran and recorded the following: " ++ rest)))))
      (five (codes "'") (message_type_text one) (codes "' (index '") (decimal index) (codes "')") _)

  -- a mismatch of commands of one type
  plain_difference : (ty : MessageType) (fields : List FieldDifference)
      → difference_text plain index (Some ty) fields ≡ codes "command " ++ (decimal index ++ (codes ": " ++
      command_mismatch_text ty (pos index) (lines_of fields)))
  plain_difference ty fields =
      grouped (codes "command ") (decimal index) (codes ": ") mismatch_head _
      ∙ ap (λ (rest : List ℕ). codes "command " ++ (decimal index ++ (codes ": " ++ (mismatch_head ++ rest))))
      (five (codes "- The mismatch happened while executing '") (message_type_text ty) (codes "' (index '")
      (decimal index) (codes "')\n- Difference:") _
      ∙ ap (λ (lines : List ℕ). codes "- The mismatch happened while executing '" ++ (message_type_text ty ++
      (codes "' (index '" ++ (decimal index ++ (codes "')\n- Difference:" ++ lines))))) (plain_lines fields))

pub plain_verdict : (verdict : Verdict) (recorded replayed : Option MessageType) (fields : List FieldDifference)
    → IsSaid verdict recorded replayed fields
    → shown_verdict plain verdict recorded replayed fields ++ codes "\n" ≡ verdict_text verdict ++ codes "\n"
plain_verdict (Same count) recorded replayed fields said = refl
plain_verdict (RecordedEnded index) recorded replayed fields said = refl
plain_verdict (ReplayedEnded index) recorded replayed fields said = refl
plain_verdict (TypeMismatch index text) recorded replayed fields (one, other, is, is_other, text_is) =
    ap (λ (line : List ℕ). line ++ codes "\n")
    (ap (λ (ty : Option MessageType). types_text false index ty replayed) is
    ∙ ap (λ (ty : Option MessageType). types_text false index (Some one) ty) is_other
    ∙ plain_types index one other
    ∙ ap (λ (said : List ℕ). codes "command " ++ (decimal index ++ (codes ": " ++ said))) (sym text_is))
plain_verdict (HeaderMismatch index text) recorded replayed fields (ty, is, is_other, text_is) =
    ap (λ (line : List ℕ). line ++ codes "\n")
    (ap (λ (one : Option MessageType). difference_text plain index one fields) is
    ∙ plain_difference index ty fields
    ∙ ap (λ (said : List ℕ). codes "command " ++ (decimal index ++ (codes ": " ++ said))) (sym text_is))
