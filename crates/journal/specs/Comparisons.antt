-- What the arguments of a comparison say of it, and of what is printed.
use Rattle.std.specs.Prelude.{◌≡◌, ℕ, List, [], Bool, true, false, not, ◌&&◌, ◌||◌, if◌then◌else◌, codes}
use Rattle.std.specs.Prelude.{Option, Some, None, MatchOption, unwrap_or}
use Rattle.std.specs.Str.{bytes_eq}
use Rattle.diff_lines.specs.declared.heading.Names.{Names}
use Rattle.diff_lines.specs.declared.journals.Form.{Form}
use Rattle.diff_lines.specs.declared.journals.Form.TheVariants.{Text, Json}
use Rattle.replay_bench.specs.declared.journals.ComparisonOptions.{ComparisonOptions}
use Rattle.replay_bench.specs.Verdicts.{IsComparison}
use Rattle.replay_bench.specs.declared.verdicts.Comparison.{Comparison}
use Rattle.replay_bench.specs.declared.verdicts.Side.{Side}
use Rattle.replay_bench.specs.declared.verdicts.Side.TheVariants.{Recorded, Replayed}
use Rattle.journal.specs.Opened.{made_bytes}
use Rattle.journal.specs.declared.diff.arguments.Arguments.{Arguments}
use Rattle.journal.specs.declared.diff.arguments.ValuesChoice.{ValuesChoice}
use Rattle.journal.specs.declared.diff.arguments.ValuesChoice.TheVariants.{Auto, Short, Whole}
use Rattle.journal.specs.declared.diff.inputs.Inputs.{Inputs}

-- What is compared, by what the arguments say.
abbrev pub comparison_said : Arguments → ComparisonOptions
comparison_said parsed =
    record {
      ignored = record { payloads = parsed.ignore_payloads; ids = parsed.ignore_ids };
      is_strict = parsed.is_strict;
    }

-- Both journals were made, and this is their comparison, as the arguments say.
abbrev pub IsFoundOf : Arguments → Inputs → Comparison → Type 0
IsFoundOf parsed inputs found =
    let said = comparison_said parsed in
    IsComparison parsed.options.version said.ignored said.is_strict (Some (unwrap_or (made_bytes inputs.recorded) []))
    (Some (unwrap_or (made_bytes inputs.replayed) [])) found

-- Whether what moved is printed: if that is asked for, or to a terminal, unless the verdict or a line of JSON is.
abbrev pub prints_all : Arguments → Bool → Bool
prints_all parsed is_terminal = parsed.is_all || (is_terminal && (not parsed.is_verdict && not parsed.is_json))

-- Whether values are shortened by a choice, where this is so if nothing is chosen.
abbrev pub shortens_by : ValuesChoice → Bool → Bool
shortens_by Auto otherwise = otherwise
shortens_by Short otherwise = true
shortens_by Whole otherwise = false

-- Whether values are shortened: by choice, or what moved to a terminal.
abbrev pub shortens : Arguments → Bool → Bool
shortens parsed is_terminal = shortens_by parsed.values (is_terminal && prints_all parsed is_terminal)

-- The result is JSON if that is asked for, and otherwise a text, escaped for a terminal. What its colors depend on too
-- is not known.
abbrev pub IsFormOf : Arguments → Bool → Form → Type 0
IsFormOf parsed is_terminal Json = parsed.is_json ≡ true
IsFormOf parsed is_terminal (Text look) =
    (parsed.is_json ≡ false) × (look.is_escaped ≡ is_terminal) × (look.is_short ≡ shortens parsed is_terminal)

-- The journals are named to a terminal only, by their paths.
abbrev pub AreNamesOf : Arguments → Bool → Option Names → Type 0
AreNamesOf parsed is_terminal names =
    MatchOption names (is_terminal ≡ false) (λ names. (is_terminal ≡ true)
    × (names.recorded.now ≡ parsed.recorded.now) × (names.replayed.now ≡ parsed.replayed.now))

-- Which journal comes from the standard input, if one does, by the paths of the recorded and of the replayed one.
abbrev pub standard_side : List ℕ → List ℕ → Option Side
standard_side recorded replayed =
    if bytes_eq replayed (codes "-") then Some Replayed
    else (if bytes_eq recorded (codes "-") then Some Recorded else None)
