-- The line of a verdict as a text.
use Rattle.std.specs.Prelude.{ℕ, Bool, false, List, [], ◌++◌, codes, decimal, flat_map, Option, Some, None}
use Rattle.std.specs.String.{string_bytes}
use Rattle.shared_core_base.specs.declared.header.MessageType.{MessageType}
use Rattle.shared_core_base.specs.CommandType.{message_type_text}
use Rattle.shared_core_errors.specs.Mismatch.{mismatch_head}
use Rattle.terminal_text.specs.declared.colors.Style.TheVariants.{Bold, Red, Green}
use Rattle.replay_bench.specs.declared.fields.FieldDifference.{FieldDifference}
use Rattle.replay_bench.specs.declared.verdicts.Comparison.{Comparison}
use Rattle.replay_bench.specs.declared.verdicts.Verdict.{Verdict}
use Rattle.replay_bench.specs.declared.verdicts.Verdict.TheVariants.{Same, RecordedEnded, ReplayedEnded, TypeMismatch}
use Rattle.replay_bench.specs.declared.verdicts.Verdict.TheVariants.{HeaderMismatch}
use Rattle.diff_lines.specs.declared.look.Look.{Look}
use Rattle.diff_lines.specs.FieldLines.{field_line}
use Rattle.diff_lines.specs.Sentences.{same_sentence}
use Rattle.diff_lines.specs.Shown.{shown_part}

-- The look of these.
abbrev pub look_of : Bool → Bool → Bool → Look
look_of is_short is_escaped is_colored =
    record { is_escaped = is_escaped; is_colored = is_colored; is_short = is_short }

-- Nothing is escaped or shortened, and there are no colors.
abbrev pub plain : Look
plain = look_of false false false

-- ---- by what was found

-- The name of a type, if there is one.
abbrev pub type_text : Option MessageType → List ℕ
type_text None = []
type_text (Some ty) = message_type_text ty

-- The journal of this name ends at an index.
abbrev pub ended_text : Bool → List ℕ → ℕ → List ℕ
ended_text is_colored name index = shown_part is_colored Bold (name ++ (codes " ends at command " ++ decimal index))

-- The index of commands that differ, and the beginning of the text of each mismatch.
abbrev pub index_text : Bool → ℕ → List ℕ
index_text is_colored index =
    shown_part is_colored Bold (codes "command " ++ decimal index) ++ (codes ": " ++ mismatch_head)

-- The mismatch of the types of two commands at an index.
abbrev pub types_text : Bool → ℕ → Option MessageType → Option MessageType → List ℕ
types_text is_colored index recorded replayed =
    index_text is_colored index ++ (codes " - The previous execution ran and recorded the following: " ++
    (shown_part is_colored Red (codes "'" ++ (type_text recorded ++ (codes "' (index '" ++ (decimal index ++
    codes "')")))) ++ (codes "\n - The current execution attempts to perform the following: " ++
    shown_part is_colored Green (codes "'" ++ (type_text replayed ++ codes "'")))))

-- The mismatch of two commands of a type at an index, with these fields in which they differ.
abbrev pub difference_text : Look → ℕ → Option MessageType → List FieldDifference → List ℕ
difference_text look index ty fields =
    index_text look.is_colored index ++ ((codes "- The mismatch happened while executing '" ++ (type_text ty ++
    (codes "' (index '" ++ (decimal index ++ codes "')\n- Difference:")))) ++ flat_map (field_line look) fields)

-- A verdict in a look, by the types of the commands at its index and the fields in which they differ.
abbrev pub shown_verdict : Look → Verdict → Option MessageType → Option MessageType → List FieldDifference → List ℕ
shown_verdict look (Same count) recorded replayed fields = shown_part look.is_colored Green (same_sentence count)
shown_verdict look (RecordedEnded index) recorded replayed fields =
    ended_text look.is_colored (codes "recorded") index
shown_verdict look (ReplayedEnded index) recorded replayed fields =
    ended_text look.is_colored (codes "replayed") index
shown_verdict look (TypeMismatch index text) recorded replayed fields =
    types_text look.is_colored index recorded replayed
shown_verdict look (HeaderMismatch index text) recorded replayed fields = difference_text look index recorded fields

-- The line of a comparison in a look.
abbrev pub text_line : Look → Comparison → List ℕ
text_line look found =
    shown_verdict look found.verdict found.recorded_type found.replayed_type found.fields.items ++ codes "\n"

-- ---- by the text that a verdict has

-- A verdict with its text.
abbrev pub verdict_text : Verdict → List ℕ
verdict_text (Same count) = same_sentence count
verdict_text (RecordedEnded index) = codes "recorded ends at command " ++ decimal index
verdict_text (ReplayedEnded index) = codes "replayed ends at command " ++ decimal index
verdict_text (TypeMismatch index text) = codes "command " ++ (decimal index ++ (codes ": " ++ string_bytes text))
verdict_text (HeaderMismatch index text) = codes "command " ++ (decimal index ++ (codes ": " ++ string_bytes text))
