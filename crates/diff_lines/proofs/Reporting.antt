use Rattle.std.proofs.Common.{◌≡◌, ℕ, Bool, List, [], Option, None, Some, Result, Ok, Err, refl, sym, subst}
use Rattle.shared_core_base.specs.declared.version.Version.{Version}
use Rattle.replay_bench.specs.declared.journals.Ignored.{Ignored}
use Rattle.replay_bench.specs.declared.verdicts.Comparison.{Comparison}
use Rattle.replay_bench.specs.declared.verdicts.BenchError.TheVariants.{OutOfMemory}
use Rattle.replay_bench.specs.declared.verdicts.ReaderError.TheVariants.{Bench}
use Rattle.replay_bench.specs.declared.aligned.AlignedComparison.{AlignedComparison}
use Rattle.replay_bench.specs.Holding.{IsAligned}
use Rattle.replay_bench.specs.Verdicts.{ComparesKnown, FailsOn, IsComparison}
use Rattle.diff_lines.specs.declared.journals.DiffError.{DiffError}
use Rattle.diff_lines.specs.declared.journals.DiffError.TheVariants.{NoVerdict, Faulty, Output}
use Rattle.diff_lines.specs.declared.journals.DiffOptions.{DiffOptions}
use Rattle.diff_lines.specs.declared.journals.Findings.{Findings}
use Rattle.diff_lines.specs.declared.journals.Form.{Form}
use Rattle.diff_lines.specs.Moved.{ReportsAligned, ReportsMoved, alignment_limit}
use Rattle.diff_lines.specs.PassedOver.{found_trouble}
use Rattle.diff_lines.specs.Verdicts.{IsFaulty, MayFailFor, ReportsFound, ReportsVerdict}

-- an allocation may always fail
pub out_of_memory : (version : Version) (ignore : Ignored) (a b : Option (List ℕ)) → ComparesKnown version ignore a b
    (Err (Bench OutOfMemory))
out_of_memory version ignore (Some a) (Some b) = tt
out_of_memory version ignore (Some a) None = tt
out_of_memory version ignore None b = tt

-- the verdict is reported of what was found of the two journals
pub reported : (version : Version) (options : DiffOptions) (a b : Option (List ℕ)) (found : Comparison)
    (result : Result Findings DiffError) (written : List ℕ)
    → IsComparison version options.comparison.ignored options.comparison.is_strict a b found
    → found_trouble options.comparison.is_strict found.recorded found.replayed ≡ None
    → ReportsFound options.form found result written
    → ReportsVerdict version options a b result written
reported version options a b found (Ok findings) written compared none reports =
    (found, record { compared = compared; trouble_is = none }, reports)
reported version options a b found (Err Output) written compared none reports =
    (found, record { compared = compared; trouble_is = none }, reports)
reported version options a b found (Err (Faulty trouble)) written compared none reports = absurd reports
reported version options a b found (Err (NoVerdict why)) written compared none reports = (
  subst (λ w. ComparesKnown version options.comparison.ignored a b (Err w)) (sym reports.0)
      (out_of_memory version options.comparison.ignored a b),
  reports.1,
)

-- what is wrong with a journal is the error, and nothing is written
pub faulty : (version : Version) (options : DiffOptions) (a b : Option (List ℕ)) (found : Comparison)
    (error : DiffError)
    → IsComparison version options.comparison.ignored options.comparison.is_strict a b found
    → IsFaulty options.comparison.is_strict found error → ReportsVerdict version options a b (Err error) []
faulty version options a b found error compared (trouble, is, has) =
    subst (λ e. ReportsVerdict version options a b (Err e) []) (sym is)
    (found, record { compared = compared; trouble_is = has }, refl)

-- what moved is reported of the two journals
pub reported_moved : (version : Version) (options : DiffOptions) (a b : Option (List ℕ)) (found : AlignedComparison)
    (result : Result Findings DiffError) (written : List ℕ)
    → IsAligned version options.comparison.ignored options.comparison.is_strict alignment_limit a b
    found
    → found_trouble options.comparison.is_strict found.comparison.recorded found.comparison.replayed ≡ None
    → ReportsAligned options found result written
    → ReportsMoved version options a b result written
reported_moved version options a b found (Ok findings) written aligned none reports =
    (found, record { aligned = aligned; trouble_is = none }, reports)
reported_moved version options a b found (Err Output) written aligned none reports =
    (found, record { aligned = aligned; trouble_is = none }, reports)
reported_moved version options a b found (Err (Faulty trouble)) written aligned none reports = absurd reports
reported_moved version options a b found (Err (NoVerdict why)) written aligned none reports = (
  subst (λ w. ComparesKnown version options.comparison.ignored a b (Err w)) (sym reports.0)
      (out_of_memory version options.comparison.ignored a b),
  reports.1,
)

-- the same of what is wrong with a journal
pub faulty_moved : (version : Version) (options : DiffOptions) (a b : Option (List ℕ)) (found : AlignedComparison)
    (error : DiffError)
    → IsAligned version options.comparison.ignored options.comparison.is_strict alignment_limit a b
    found
    → IsFaulty options.comparison.is_strict found.comparison error → ReportsMoved version options a b (Err error) []
faulty_moved version options a b found error aligned (trouble, is, has) =
    subst (λ e. ReportsMoved version options a b (Err e) []) (sym is)
    (found, record { aligned = aligned; trouble_is = has }, refl)

-- ---- on which side it may fail

module _ (recorded replayed : Bool) (limit other_limit : ℕ) where
  pub report_fails : (form : Form) (found : Comparison) (result : Result Findings DiffError) (written : List ℕ)
      → ReportsFound form found result written → MayFailFor recorded limit replayed other_limit result
  report_fails form found (Ok findings) written reports = tt
  report_fails form found (Err Output) written reports = tt
  report_fails form found (Err (Faulty trouble)) written reports = absurd reports
  report_fails form found (Err (NoVerdict why)) written reports =
      subst (λ w. FailsOn recorded limit replayed other_limit w) (sym reports.0) tt

  pub moved_fails : (options : DiffOptions) (found : AlignedComparison) (result : Result Findings DiffError)
      (written : List ℕ) → ReportsAligned options found result written
      → MayFailFor recorded limit replayed other_limit result
  moved_fails options found (Ok findings) written reports = tt
  moved_fails options found (Err Output) written reports = tt
  moved_fails options found (Err (Faulty trouble)) written reports = absurd reports
  moved_fails options found (Err (NoVerdict why)) written reports =
      subst (λ w. FailsOn recorded limit replayed other_limit w) (sym reports.0) tt

  pub faulty_fails : (is_strict : Bool) (found : Comparison) (error : DiffError) → IsFaulty is_strict found error
      → MayFailFor recorded limit replayed other_limit (Err error)
  faulty_fails is_strict found error (trouble, is, has) =
      subst (λ e. MayFailFor recorded limit replayed other_limit (Err e)) (sym is) tt
