-- What is written and returned for two journals whose commands are aligned.
use Rattle.std.specs.Prelude.{◌≡◌, ℕ, Bool, true, false, List, [], ◌++◌, Option, Some, None, Result, Ok, Err}
use Rattle.shared_core_base.specs.declared.version.Version.{Version}
use Rattle.replay_bench.specs.declared.aligned.AlignedComparison.{AlignedComparison}
use Rattle.replay_bench.specs.declared.journals.Ignored.{Ignored}
use Rattle.replay_bench.specs.declared.verdicts.BenchError.TheVariants.{OutOfMemory}
use Rattle.replay_bench.specs.declared.verdicts.ReaderError.TheVariants.{Bench}
use Rattle.replay_bench.specs.Holding.{IsAligned}
use Rattle.replay_bench.specs.Verdicts.{ComparesKnown}
use Rattle.diff_lines.specs.declared.journals.DiffError.{DiffError}
use Rattle.diff_lines.specs.declared.journals.DiffError.TheVariants.{NoVerdict, Faulty, Output}
use Rattle.diff_lines.specs.declared.journals.DiffOptions.{DiffOptions}
use Rattle.diff_lines.specs.declared.journals.Findings.{Findings}
use Rattle.diff_lines.specs.declared.journals.Form.{Form}
use Rattle.diff_lines.specs.declared.journals.Form.TheVariants.{Text, Json}
use Rattle.diff_lines.specs.declared.passed_over.Trouble.{Trouble}
use Rattle.diff_lines.specs.EntryLines.{IsText}
use Rattle.diff_lines.specs.Headings.{heading_text}
use Rattle.diff_lines.specs.MovedJson.{IsJsonText}
use Rattle.diff_lines.specs.PassedOver.{found_trouble}
use Rattle.diff_lines.specs.Verdicts.{findings_of, is_same, ReportsVerdict}

-- How many commands may have moved where the fewest of them are found.
abbrev pub alignment_limit : ℕ
alignment_limit = 1000

-- Two journals are aligned, and this is what is wrong with them, if that is an error.
pub record HasMoved (version : Version) (ignore : Ignored) (is_strict : Bool) (recorded replayed : Option (List ℕ))
    (found : AlignedComparison) (trouble : Option Trouble) : Type 0 where
  pub aligned : IsAligned version ignore is_strict alignment_limit recorded replayed found
  pub trouble_is : found_trouble is_strict found.comparison.recorded found.comparison.replayed ≡ trouble

-- This text tells what moved between two journals, in a form.
abbrev pub IsMovedIn : Form → DiffOptions → AlignedComparison → List ℕ → Type 0
IsMovedIn (Text look) options found text =
    IsText options.comparison.ignored look alignment_limit
    (heading_text (is_same found.comparison.verdict) look options.names) found text
IsMovedIn Json options found text = IsJsonText options.comparison.ignored alignment_limit found text

-- The same in the form that is wanted.
abbrev pub IsMovedText : DiffOptions → AlignedComparison → List ℕ → Type 0
IsMovedText options found text = IsMovedIn options.form options found text

-- What is written and returned for two journals that are aligned: what moved, and the findings of their comparison;
-- nothing, if an allocation fails; or a prefix of what moved, if the output failed.
abbrev pub ReportsAligned : DiffOptions → AlignedComparison → Result Findings DiffError → List ℕ → Type 0
ReportsAligned options found (Ok findings) written =
    (findings ≡ findings_of found.comparison)
    × IsMovedText options found written
ReportsAligned options found (Err (NoVerdict why)) written = (why ≡ Bench OutOfMemory) × (written ≡ [])
ReportsAligned options found (Err (Faulty trouble)) written = ⊥
ReportsAligned options found (Err Output) written =
    (rest : List ℕ) × IsMovedText options found (written ++ rest)

-- What is written and returned of two sources' journals, where all that moved is wanted: it is reported, if nothing is
-- wrong that is an error; or else nothing is written, and the error is what is wrong, or why there is no verdict.
abbrev pub ReportsMoved : Version → DiffOptions → Option (List ℕ) → Option (List ℕ) → Result Findings DiffError
    → List ℕ → Type 0
ReportsMoved version options recorded replayed (Err (NoVerdict why)) written =
    ComparesKnown version options.comparison.ignored recorded replayed (Err why) × (written ≡ [])
ReportsMoved version options recorded replayed (Err (Faulty trouble)) written =
    (found : AlignedComparison) × HasMoved version options.comparison.ignored
    options.comparison.is_strict recorded replayed found (Some trouble) × (written ≡ [])
ReportsMoved version options recorded replayed result written =
    (found : AlignedComparison) × HasMoved version options.comparison.ignored
    options.comparison.is_strict recorded replayed found None × ReportsAligned options found result written

-- The same of what is wanted: all that moved, or the verdict.
abbrev pub ReportsWanted : Bool → Version → DiffOptions → Option (List ℕ) → Option (List ℕ) → Result Findings DiffError
    → List ℕ → Type 0
ReportsWanted true version options recorded replayed result written =
    ReportsMoved version options recorded replayed result written
ReportsWanted false version options recorded replayed result written =
    ReportsVerdict version options recorded replayed result written

-- What is written and returned of two sources' journals.
abbrev pub Reports : Version → DiffOptions → Option (List ℕ) → Option (List ℕ) → Result Findings DiffError → List ℕ
    → Type 0
Reports version options recorded replayed result written =
    ReportsWanted options.is_all version options recorded replayed result written
