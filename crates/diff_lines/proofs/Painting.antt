-- A line in colors has the parts of the line without them.
use Rattle.std.proofs.Common.{◌≡◌, ℕ, Bool, true, false, List, [], ◌∷◌, ◌++◌, Option, sym, refl, ◌∙◌, append-nil}
use Rattle.std.proofs.lemmas.Grind.{flat_map-append}
use Rattle.std.specs.Prelude.{codes, decimal, flat_map}
use Rattle.std.specs.String.{string_bytes}
use Rattle.shared_core_base.specs.declared.header.MessageType.{MessageType}
use Rattle.shared_core_errors.specs.Mismatch.{mismatch_head}
use Rattle.terminal_text.specs.declared.colors.Style.{Style}
use Rattle.terminal_text.specs.declared.colors.Style.TheVariants.{Plain, Bold, Red, Green}
use Rattle.terminal_text.specs.Painting.{IsPainted, Span, painted_part}
use Rattle.replay_bench.specs.declared.fields.FieldDifference.{FieldDifference}
use Rattle.replay_bench.specs.declared.verdicts.Verdict.{Verdict}
use Rattle.replay_bench.specs.declared.verdicts.Verdict.TheVariants.{Same, RecordedEnded, ReplayedEnded, TypeMismatch}
use Rattle.replay_bench.specs.declared.verdicts.Verdict.TheVariants.{HeaderMismatch}
use Rattle.diff_lines.specs.FieldLines.{field_line, has_colors, is_shortened, line_in, values_line}
use Rattle.diff_lines.specs.Sentences.{same_sentence}
use Rattle.diff_lines.specs.VerdictLines.{index_text, look_of, shown_verdict, type_text}

-- a part in its style
in_style : (style : Style) (part : List ℕ) → IsPainted part (painted_part style part)
in_style style part =
    (record { style = style; part = part } ∷ [], sym (append-nil part), sym (append-nil (painted_part style part)))

-- a part without one
as_it_is : (part : List ℕ) → IsPainted part part
as_it_is [] = ([], refl, refl)
as_it_is (byte ∷ bytes) = (
  record { style = Plain; part = byte ∷ bytes } ∷ [],
  sym (append-nil (byte ∷ bytes)),
  sym (append-nil ((byte ∷ bytes) ++ []) ∙ append-nil (byte ∷ bytes)),
)

-- a text and one after it
then : (a b x y : List ℕ) → IsPainted a x → IsPainted b y → IsPainted (a ++ b) (x ++ y)
then a b x y (before, a_is, x_is) (after, b_is, y_is) = (
  before ++ after,
  rw (a_is, b_is) (sym (flat_map-append (λ (span : Span). span.part) before after)),
  rw (x_is, y_is) (sym (flat_map-append (λ (span : Span). painted_part span.style span.part) before after)),
)

-- the same, where the first one has no style
after : (a b y : List ℕ) → IsPainted b y → IsPainted (a ++ b) (a ++ y)
after a b y is = then a b a y (as_it_is a) is

-- the line of two values in colors or not
painted_values : (is_colored : Bool) (name recorded replayed : List ℕ)
    → IsPainted (values_line false name recorded replayed) (values_line is_colored name recorded replayed)
painted_values false name recorded replayed = as_it_is (values_line false name recorded replayed)
painted_values true name recorded replayed =
    after (10 ∷ []) _ _ (after (codes "   ") _ _ (after name _ _ (after (codes ": ") _ _
    (then recorded _ _ _ (in_style Red recorded) (after (codes " != ") _ _ (in_style Green replayed))))))

module _ (is_short is_escaped : Bool) where
  painted_line : (is_shortened is_colored : Bool) (name recorded replayed : List ℕ)
      → IsPainted (line_in is_shortened false is_escaped name recorded replayed)
      (line_in is_shortened is_colored is_escaped name recorded replayed)
  painted_line true is_colored name recorded replayed = painted_values is_colored _ _ _
  painted_line false is_colored name recorded replayed = painted_values is_colored _ _ _

  painted_lines : (fields : List FieldDifference)
      → IsPainted (flat_map (field_line (look_of is_short is_escaped false)) fields)
      (flat_map (field_line (look_of is_short is_escaped true)) fields)
  painted_lines [] = as_it_is []
  painted_lines (field ∷ fields) =
      let look = look_of is_short is_escaped true in
      then _ _ _ _
      (painted_line (is_shortened look field) (has_colors look field) field.name.now (string_bytes field.recorded)
      (string_bytes field.replayed)) (painted_lines fields)

  painted_index : (index : ℕ) → IsPainted (index_text false index) (index_text true index)
  painted_index index =
      then (codes "command " ++ decimal index) _ _ _ (in_style Bold (codes "command " ++ decimal index))
      (as_it_is (codes ": " ++ mismatch_head))

  painted_verdict : (verdict : Verdict) (recorded replayed : Option MessageType) (fields : List FieldDifference)
      → IsPainted (shown_verdict (look_of is_short is_escaped false) verdict recorded replayed fields)
      (shown_verdict (look_of is_short is_escaped true) verdict recorded replayed fields)
  painted_verdict (Same count) recorded replayed fields = in_style Green (same_sentence count)
  painted_verdict (RecordedEnded index) recorded replayed fields = in_style Bold _
  painted_verdict (ReplayedEnded index) recorded replayed fields = in_style Bold _
  painted_verdict (TypeMismatch index text) recorded replayed fields =
      let one = codes "'" ++ (type_text recorded ++ (codes "' (index '" ++ (decimal index ++ codes "')"))) in
      let other = codes "'" ++ (type_text replayed ++ codes "'") in
      then _ _ _ _ (painted_index index) (after (codes " - The previous execution ran and recorded the following: ") _ _
      (then one _ _ _ (in_style Red one)
      (after (codes "\n - The current execution attempts to perform the following: ") _ _ (in_style Green other))))
  painted_verdict (HeaderMismatch index text) recorded replayed fields =
      let head = codes "- The mismatch happened while executing '" ++ (type_text recorded ++ (codes "' (index '" ++
      (decimal index ++ codes "')\n- Difference:"))) in
      then _ _ _ _ (painted_index index) (after head _ _ (painted_lines fields))

  pub painted_text_line : (verdict : Verdict) (recorded replayed : Option MessageType) (fields : List FieldDifference)
      → IsPainted (shown_verdict (look_of is_short is_escaped false) verdict recorded replayed fields ++ codes "\n")
      (shown_verdict (look_of is_short is_escaped true) verdict recorded replayed fields ++ codes "\n")
  painted_text_line verdict recorded replayed fields =
      then _ _ _ _ (painted_verdict verdict recorded replayed fields) (as_it_is (codes "\n"))
