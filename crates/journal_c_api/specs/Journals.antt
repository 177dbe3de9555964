-- The result of the call on journals.
use Rattle.std.specs.Prelude.{◌≡◌, ℕ, Bool, nat_lt, List, [], ◌∷◌, length, Result, Ok, Err, MatchBool}
use Rattle.std.specs.String.{string_bytes}
use Rattle.shared_core_base.specs.declared.version.Version.{Version}
use Rattle.replay_bench.specs.declared.verdicts.Side.TheVariants.{Recorded, Replayed}
use Rattle.replay_bench.specs.Ids.{only_payloads}
use Rattle.replay_bench.specs.Outcomes.{Outcome, SameCommands, RecordedEnds, ReplayedEnds, OtherType, OtherCommand}
use Rattle.replay_bench.specs.Outcomes.{NotWellFormed}
use Rattle.replay_bench.specs.Verdicts.{HasOutcome}
use Rattle.journal_c_api.specs.declared.outcome.CallError.{CallError}
use Rattle.journal_c_api.specs.declared.outcome.CallError.TheVariants.{OutOfMemory, NoRoom}
use Rattle.journal_c_api.specs.declared.journals.Report.{Report}
use Rattle.journal_c_api.specs.Outcomes.{AtVersion, supported_version, written_over}

-- The numbers of a result: its kind, and its index or the number of commands of both journals.
abbrev pub verdict_numbers : Outcome → List ℕ
verdict_numbers (SameCommands count) = 0 ∷ count ∷ []
verdict_numbers (RecordedEnds index) = 1 ∷ index ∷ []
verdict_numbers (ReplayedEnds index) = 2 ∷ index ∷ []
verdict_numbers (OtherType index text) = 3 ∷ index ∷ []
verdict_numbers (OtherCommand index text) = 4 ∷ index ∷ []
verdict_numbers (NotWellFormed Recorded index) = 5 ∷ index ∷ []
verdict_numbers (NotWellFormed Replayed index) = 6 ∷ index ∷ []

-- The text of a result: that of a mismatch.
abbrev pub verdict_text : Outcome → List ℕ
verdict_text (OtherType index text) = text
verdict_text (OtherCommand index text) = text
verdict_text outcome = []

-- A report has the numbers and the text of a result.
abbrev pub ReportsOutcome : Outcome → Report → Type 0
ReportsOutcome outcome report =
    ((report.kind ∷ report.index ∷ []) ≡ verdict_numbers outcome) × (string_bytes report.text ≡ verdict_text outcome)

-- A report has the numbers and the text of the result of two journals. An allocation may fail.
abbrev pub ReportsJournals : Version → Bool → List ℕ → List ℕ → Result Report CallError → Type 0
ReportsJournals version ignore recorded replayed (Ok report) =
    (outcome : Outcome) × HasOutcome version (only_payloads ignore) recorded replayed outcome
    × ReportsOutcome outcome report
ReportsJournals version ignore recorded replayed (Err error) = error ≡ OutOfMemory

-- The result is that of two journals. An allocation may fail.
abbrev pub ReturnsJournals : Version → Bool → List ℕ → List ℕ → Result Outcome CallError → Type 0
ReturnsJournals version ignore recorded replayed (Ok outcome) =
    HasOutcome version (only_payloads ignore) recorded replayed outcome
ReturnsJournals version ignore recorded replayed (Err error) = error ≡ OutOfMemory

-- The result of journal_verdict: NoRoom if there is room for fewer than two numbers.
abbrev pub ReturnsVerdict : ℕ → ℕ → Bool → List ℕ → List ℕ → Result Outcome CallError → Type 0
ReturnsVerdict number room ignore recorded replayed outcome =
    AtVersion (supported_version number) outcome
    (λ version. MatchBool (nat_lt room 2) (outcome ≡ Err NoRoom)
    (ReturnsJournals version ignore recorded replayed outcome))

-- The numbers and the text of a result of which this holds are written at the front of two slices, and the count is
-- that of the text's bytes; an error leaves both slices unchanged.
abbrev pub WritesVerdict : (Result Outcome CallError → Type 0) → List ℕ → List ℕ → List ℕ → List ℕ → Result ℕ CallError
    → Type 0
WritesVerdict holds old_numbers new_numbers old new (Ok count) =
    (outcome : Outcome) × holds (Ok outcome)
    × (new_numbers ≡ written_over (verdict_numbers outcome) old_numbers)
    × (count ≡ length (verdict_text outcome)) × (new ≡ written_over (verdict_text outcome) old)
WritesVerdict holds old_numbers new_numbers old new (Err error) =
    holds (Err error) × (new_numbers ≡ old_numbers) × (new ≡ old)
