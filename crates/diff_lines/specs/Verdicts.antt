-- What is printed for two compared journals.
use Rattle.std.specs.Prelude.{◌≡◌, ℕ, Bool, true, false, List, [], ◌++◌, codes, Option, Some, None, Result, Ok, Err}
use Rattle.shared_core_base.specs.declared.version.Version.{Version}
use Rattle.replay_bench.specs.declared.journals.Ignored.{Ignored}
use Rattle.replay_bench.specs.declared.verdicts.Verdict.{Verdict}
use Rattle.replay_bench.specs.declared.verdicts.Verdict.TheVariants.{Same}
use Rattle.replay_bench.specs.declared.verdicts.BenchError.TheVariants.{OutOfMemory}
use Rattle.replay_bench.specs.declared.verdicts.ReaderError.TheVariants.{Bench}
use Rattle.replay_bench.specs.Texts.{reader_error_text}
use Rattle.replay_bench.specs.declared.verdicts.Comparison.{Comparison}
use Rattle.replay_bench.specs.Verdicts.{ComparesKnown, FailsOn, IsComparison}
use Rattle.diff_lines.specs.declared.journals.DiffError.{DiffError}
use Rattle.diff_lines.specs.declared.journals.DiffError.TheVariants.{NoVerdict, Faulty, Output}
use Rattle.diff_lines.specs.declared.journals.DiffOptions.{DiffOptions}
use Rattle.diff_lines.specs.declared.journals.Findings.{Findings}
use Rattle.diff_lines.specs.declared.journals.Form.{Form}
use Rattle.diff_lines.specs.declared.journals.Form.TheVariants.{Text, Json}
use Rattle.diff_lines.specs.declared.passed_over.Trouble.{Trouble}
use Rattle.diff_lines.specs.Json.{json_line}
use Rattle.diff_lines.specs.PassedOver.{found_trouble, trouble_text}
use Rattle.diff_lines.specs.VerdictLines.{text_line}

-- The line of a comparison, in its form.
abbrev pub found_line : Form → Comparison → List ℕ
found_line (Text look) found = text_line look found
found_line Json found = json_line found

-- Whether a verdict is that the journals are the same.
abbrev pub is_same : Verdict → Bool
is_same (Same count) = true
is_same verdict = false

-- The text of an error: why there is no verdict, what is wrong with a journal, or that the output failed.
abbrev pub error_text : DiffError → List ℕ
error_text (NoVerdict why) = reader_error_text why
error_text (Faulty trouble) = trouble_text trouble
error_text Output = codes "output failed"

-- All of a text is written, or a prefix of it if the output failed.
abbrev pub IsWritten : {T : Type 0} → Result T DiffError → List ℕ → List ℕ → Type 0
IsWritten (Ok done) written text = written ≡ text
IsWritten (Err error) written text = (error ≡ Output) × (rest : List ℕ) × (text ≡ written ++ rest)

-- What is returned of a comparison: whether the journals are the same, and their surveys.
abbrev pub findings_of : Comparison → Findings
findings_of found = record { is_same = is_same found.verdict; recorded = found.recorded; replayed = found.replayed }

-- What is written and returned for a comparison: its line, and its findings; nothing, if an allocation
-- fails; or a prefix of the line, if the output failed.
abbrev pub ReportsFound : Form → Comparison → Result Findings DiffError → List ℕ → Type 0
ReportsFound form found (Ok findings) written = (findings ≡ findings_of found) × (written ≡ found_line form found)
ReportsFound form found (Err (NoVerdict why)) written = (why ≡ Bench OutOfMemory) × (written ≡ [])
ReportsFound form found (Err (Faulty trouble)) written = ⊥
ReportsFound form found (Err Output) written = (rest : List ℕ) × (found_line form found ≡ written ++ rest)

-- This error is what is wrong with one of two journals.
abbrev pub IsFaulty : Bool → Comparison → DiffError → Type 0
IsFaulty is_strict found error =
    (trouble : Trouble) × (error ≡ Faulty trouble)
    × (found_trouble is_strict found.recorded found.replayed ≡ Some trouble)

-- Two journals have this comparison, and this is what is wrong with them, if that is an error.
pub record HasFound (version : Version) (ignore : Ignored) (is_strict : Bool) (recorded replayed : Option (List ℕ))
    (found : Comparison) (trouble : Option Trouble) : Type 0 where
  pub compared : IsComparison version ignore is_strict recorded replayed found
  pub trouble_is : found_trouble is_strict found.recorded found.replayed ≡ trouble

-- A read is said to have failed, or a message to be too long, only on a side where it may.
abbrev pub MayFailFor : Bool → ℕ → Bool → ℕ → Result Findings DiffError → Type 0
MayFailFor recorded limit replayed other_limit (Err (NoVerdict why)) =
    FailsOn recorded limit replayed other_limit why
MayFailFor recorded limit replayed other_limit result = Unit {0}

-- What is written and returned of two sources' journals, where their verdict is wanted: it is reported, if nothing is
-- wrong that is an error; or else nothing is written, and the error is what is wrong, or why there is no verdict.
abbrev pub ReportsVerdict : Version → DiffOptions → Option (List ℕ) → Option (List ℕ) → Result Findings DiffError
    → List ℕ → Type 0
ReportsVerdict version options recorded replayed (Err (NoVerdict why)) written =
    ComparesKnown version options.comparison.ignored recorded replayed (Err why) × (written ≡ [])
ReportsVerdict version options recorded replayed (Err (Faulty trouble)) written =
    (found : Comparison) × HasFound version options.comparison.ignored options.comparison.is_strict
    recorded replayed found (Some trouble) × (written ≡ [])
ReportsVerdict version options recorded replayed result written =
    (found : Comparison) × HasFound version options.comparison.ignored options.comparison.is_strict
    recorded replayed found None × ReportsFound options.form found result written
