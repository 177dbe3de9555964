-- The outcomes of comparisons of two journals.
use Rattle.std.specs.Prelude.{ℕ, List}
use Rattle.std.specs.String.{string_bytes}
use Rattle.replay_bench.specs.declared.verdicts.Side.{Side}
use Rattle.replay_bench.specs.declared.verdicts.Verdict.{Verdict}
use Rattle.replay_bench.specs.declared.verdicts.Verdict.TheVariants.{Same, RecordedEnded, ReplayedEnded, TypeMismatch}
use Rattle.replay_bench.specs.declared.verdicts.Verdict.TheVariants.{HeaderMismatch}

-- An outcome: a verdict, with its index or its count, and with the bytes of its text; or that the command of a side is
-- not well-formed.
pub data Outcome : Type 0 where
  SameCommands : ℕ → Outcome
  RecordedEnds : ℕ → Outcome
  ReplayedEnds : ℕ → Outcome
  OtherType : ℕ → List ℕ → Outcome
  OtherCommand : ℕ → List ℕ → Outcome
  NotWellFormed : Side → ℕ → Outcome

-- The outcome that a verdict is.
abbrev pub outcome_of : Verdict → Outcome
outcome_of (Same count) = SameCommands count
outcome_of (RecordedEnded index) = RecordedEnds index
outcome_of (ReplayedEnded index) = ReplayedEnds index
outcome_of (TypeMismatch index text) = OtherType index (string_bytes text)
outcome_of (HeaderMismatch index text) = OtherCommand index (string_bytes text)
