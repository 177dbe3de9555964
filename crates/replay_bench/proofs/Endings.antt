-- How a comparison goes on, and how it ends.
use Rattle.std.proofs.Common.{◌≡◌, ℕ, ◌+◌, Bool, List, [], ◌∷◌, Option, Some, None, Ok, Err, refl, inl}
use Rattle.std.proofs.Common.{inr, subst, sym}
use Rattle.std.specs.Prelude.{MatchOption}
use Rattle.shared_core_base.specs.declared.version.Version.{Version}
use Rattle.shared_core_stream.specs.declared.encoding.raw_message.RawMessage.{RawMessage}
use Rattle.replay_bench.specs.declared.journals.Ignored.{Ignored}
use Rattle.replay_bench.specs.declared.mismatches.Found.{Found}
use Rattle.replay_bench.specs.declared.verdicts.Verdict.{Verdict}
use Rattle.replay_bench.specs.declared.verdicts.BenchError.{BenchError}
use Rattle.replay_bench.specs.declared.verdicts.BenchError.TheVariants.{Malformed, TooLong, OutOfMemory}
use Rattle.replay_bench.specs.declared.verdicts.ReaderError.TheVariants.{Bench}
use Rattle.replay_bench.specs.Journals.{IsJournal}
use Rattle.replay_bench.specs.Taking.{HasNoCommand, TakesFirst}
use Rattle.replay_bench.specs.Outcomes.{Outcome, SameCommands, RecordedEnds, ReplayedEnds, NotWellFormed, outcome_of}
use Rattle.replay_bench.specs.Verdicts.{ReturnsPair, AreAlike, ComparesKnown, HasFields, HasOutcome, IsOutcome, IsFound}
use Rattle.replay_bench.specs.Verdicts.{ReturnsNext}
use Rattle.replay_bench.proofs.Fronts.{journal_of}

module _ (version : Version) (ignore : Ignored) where
  -- Whatever is the outcome, from this index on, of what is left of two journals is the outcome of the whole ones.
  pub record Decides (recorded replayed : List ℕ) (index : ℕ) (left others : List ℕ) : Type 0 where
    pub decides : (left_commands other_commands : List RawMessage) (outcome : Outcome)
        → IsJournal version left left_commands → IsJournal version others other_commands → IsOutcome ignore index
        left_commands other_commands outcome
        → HasOutcome version ignore recorded replayed outcome

  -- The same of journals whose bytes are known.
  abbrev pub GoesOn : Option (List ℕ) → Option (List ℕ) → ℕ → Option (List ℕ) → Option (List ℕ) → Type 0
  GoesOn (Some recorded) (Some replayed) index (Some left) (Some others) = Decides recorded replayed index left others
  GoesOn (Some recorded) (Some replayed) index left others = ⊥
  GoesOn recorded replayed index left others = Unit {0}

  -- Two journals whose bytes are known have this outcome.
  abbrev pub IsKnownOutcome : Option (List ℕ) → Option (List ℕ) → Outcome → Type 0
  IsKnownOutcome (Some recorded) (Some replayed) outcome = HasOutcome version ignore recorded replayed outcome
  IsKnownOutcome recorded replayed outcome = Unit {0}

  -- at first all is left
  pub all_left : (recorded replayed : Option (List ℕ)) → GoesOn recorded replayed 0 recorded replayed
  all_left None replayed = tt
  all_left (Some recorded) None = tt
  all_left (Some recorded) (Some replayed) = record {
    decides = λ recorded_commands replayed_commands outcome is other verdict.
        record {
          recorded_commands = recorded_commands;
          replayed_commands = replayed_commands;
          is_recorded = is;
          is_replayed = other;
          is_outcome = verdict;
        };
  }

  -- ---- one command of each is taken

  pub are_alike : (is_listed : Bool) (index : ℕ) (recorded_command replayed_command : RawMessage) → ReturnsPair ignore
      is_listed index recorded_command replayed_command (Ok None) → AreAlike ignore recorded_command replayed_command
  unfolding ReturnsPair
  are_alike is_listed index recorded_command replayed_command is = is

  pub is_found : (is_listed : Bool) (index : ℕ) (recorded_command replayed_command : RawMessage) (found : Found) →
      ReturnsPair ignore is_listed index recorded_command replayed_command (Ok (Some found))
      → IsFound ignore index recorded_command replayed_command (outcome_of found.verdict) × HasFields is_listed
      recorded_command replayed_command found.verdict found.fields.items
  unfolding ReturnsPair
  is_found is_listed index recorded_command replayed_command found is = is

  module _ (index : ℕ) (recorded_command replayed_command : RawMessage) where
    -- they are alike
    pub goes_after : (recorded replayed left others now then : Option (List ℕ)) → GoesOn recorded replayed index left
        others
        → TakesFirst version left (Some recorded_command) now → TakesFirst version others (Some replayed_command) then →
        AreAlike ignore recorded_command replayed_command
        → GoesOn recorded replayed (index + 1) now then
    goes_after None replayed left others now then goes one other alike = tt
    goes_after (Some recorded) None left others now then goes one other alike = tt
    goes_after (Some recorded) (Some replayed) None others now then goes one other alike = absurd goes
    goes_after (Some recorded) (Some replayed) (Some left) None now then goes one other alike = absurd goes
    goes_after (Some recorded) (Some replayed) (Some left) (Some others) None then goes one other alike = absurd one
    goes_after (Some recorded) (Some replayed) (Some left) (Some others) (Some now) None goes one other alike = absurd
        other
    goes_after (Some recorded) (Some replayed) (Some left) (Some others) (Some now) (Some then) goes one other alike =
        record {
          decides = λ rest more outcome is is_other verdict.
              goes.decides (recorded_command ∷ rest) (replayed_command ∷ more) outcome (one rest is)
              (other more is_other) (inl (alike, verdict));
        }

    -- they are not
    pub ends_found : (recorded replayed left others now then : Option (List ℕ)) (outcome : Outcome) → GoesOn recorded
        replayed index left others
        → TakesFirst version left (Some recorded_command) now → TakesFirst version others (Some replayed_command) then →
        IsFound ignore index recorded_command replayed_command outcome
        → IsKnownOutcome recorded replayed outcome
    ends_found None replayed left others now then outcome goes one other found = tt
    ends_found (Some recorded) None left others now then outcome goes one other found = tt
    ends_found (Some recorded) (Some replayed) None others now then outcome goes one other found = absurd goes
    ends_found (Some recorded) (Some replayed) (Some left) None now then outcome goes one other found = absurd goes
    ends_found (Some recorded) (Some replayed) (Some left) (Some others) None then outcome goes one other found = absurd
        one
    ends_found (Some recorded) (Some replayed) (Some left) (Some others) (Some now) None outcome goes one other found =
        absurd other
    ends_found (Some recorded) (Some replayed) (Some left) (Some others) (Some now) (Some then) outcome goes one other
        found =
        let (rest, is) = journal_of version now in
        let (more, is_other) = journal_of version then in
        goes.decides (recorded_command ∷ rest) (replayed_command ∷ more) outcome (one rest is) (other more is_other)
        (inr found)

  -- ---- a journal has ended

  pub ends_both : (index : ℕ) (recorded replayed left others : Option (List ℕ)) → GoesOn recorded replayed index left
      others
      → HasNoCommand version left → HasNoCommand version others → IsKnownOutcome recorded replayed (SameCommands index)
  ends_both index None replayed left others goes none neither = tt
  ends_both index (Some recorded) None left others goes none neither = tt
  ends_both index (Some recorded) (Some replayed) None others goes none neither = absurd goes
  ends_both index (Some recorded) (Some replayed) (Some left) None goes none neither = absurd goes
  ends_both index (Some recorded) (Some replayed) (Some left) (Some others) goes none neither =
      goes.decides [] [] (SameCommands index) none neither refl

  pub ends_recorded : (index : ℕ) (replayed_command : RawMessage) (recorded replayed left others then : Option (List ℕ))
      → GoesOn recorded replayed index left others
      → HasNoCommand version left → TakesFirst version others (Some replayed_command) then → IsKnownOutcome recorded
      replayed (RecordedEnds index)
  ends_recorded index replayed_command None replayed left others then goes none other = tt
  ends_recorded index replayed_command (Some recorded) None left others then goes none other = tt
  ends_recorded index replayed_command (Some recorded) (Some replayed) None others then goes none other = absurd goes
  ends_recorded index replayed_command (Some recorded) (Some replayed) (Some left) None then goes none other = absurd
      goes
  ends_recorded index replayed_command (Some recorded) (Some replayed) (Some left) (Some others) None goes none other =
      absurd other
  ends_recorded index replayed_command (Some recorded) (Some replayed) (Some left) (Some others) (Some then) goes none
      other =
      let (more, is_other) = journal_of version then in
      goes.decides [] (replayed_command ∷ more) (RecordedEnds index) none (other more is_other) refl

  pub ends_replayed : (index : ℕ) (recorded_command : RawMessage) (recorded replayed left others now : Option (List ℕ))
      → GoesOn recorded replayed index left others
      → TakesFirst version left (Some recorded_command) now → HasNoCommand version others → IsKnownOutcome recorded
      replayed (ReplayedEnds index)
  ends_replayed index recorded_command None replayed left others now goes one none = tt
  ends_replayed index recorded_command (Some recorded) None left others now goes one none = tt
  ends_replayed index recorded_command (Some recorded) (Some replayed) None others now goes one none = absurd goes
  ends_replayed index recorded_command (Some recorded) (Some replayed) (Some left) None now goes one none = absurd goes
  ends_replayed index recorded_command (Some recorded) (Some replayed) (Some left) (Some others) None goes one none =
      absurd one
  ends_replayed index recorded_command (Some recorded) (Some replayed) (Some left) (Some others) (Some now) goes one
      none =
      let (rest, is) = journal_of version now in
      goes.decides (recorded_command ∷ rest) [] (ReplayedEnds index) (one rest is) none refl

  -- What the next command of a journal is, or that there is none.
  abbrev pub IsNext : Version → Option (List ℕ) → Option RawMessage → Option (List ℕ) → Type 0
  IsNext v known found new = MatchOption found (HasNoCommand v known) (λ command. TakesFirst v known (Some command) new)

  -- both go on, and the next commands are alike
  pub both_go_on : (is_listed : Bool) (index : ℕ) (found other : Option RawMessage)
      → ReturnsNext ignore is_listed index found other (Ok None)
      → (recorded_command replayed_command : RawMessage) × (found ≡ Some recorded_command)
      × (other ≡ Some replayed_command) × AreAlike ignore recorded_command replayed_command
  unfolding ReturnsPair
  both_go_on is_listed index None None is = absurd is
  both_go_on is_listed index None (Some replayed_command) is = absurd is
  both_go_on is_listed index (Some recorded_command) None is = absurd is
  both_go_on is_listed index (Some recorded_command) (Some replayed_command) is =
      (recorded_command, replayed_command, refl, refl, is)

  -- the comparison ends
  pub ends_next : (is_listed : Bool) (index : ℕ) (next other : Option RawMessage) (found : Found)
      (recorded replayed left others now then : Option (List ℕ))
      → GoesOn recorded replayed index left others
      → IsNext version left next now → IsNext version others other then
      → ReturnsNext ignore is_listed index next other (Ok (Some found))
      → IsKnownOutcome recorded replayed (outcome_of found.verdict)
  ends_next is_listed index None None found recorded replayed left others now then goes one more is =
      subst (λ (v : Verdict). IsKnownOutcome recorded replayed (outcome_of v)) (sym is.0)
      (ends_both index recorded replayed left others goes one more)
  ends_next is_listed index None (Some command) found recorded replayed left others now then goes one more is =
      subst (λ (v : Verdict). IsKnownOutcome recorded replayed (outcome_of v)) (sym is.0)
      (ends_recorded index command recorded replayed left others then goes one more)
  ends_next is_listed index (Some command) None found recorded replayed left others now then goes one more is =
      subst (λ (v : Verdict). IsKnownOutcome recorded replayed (outcome_of v)) (sym is.0)
      (ends_replayed index command recorded replayed left others now goes one more)
  ends_next is_listed index (Some command) (Some other) found recorded replayed left others now then goes one more is =
      ends_found index command other recorded replayed left others now then (outcome_of found.verdict) goes one more
      (is_found is_listed index command other found is).0

  -- ---- what is returned then

  pub returns_verdict : (recorded replayed : Option (List ℕ)) (verdict : Verdict) → IsKnownOutcome recorded replayed
      (outcome_of verdict) → ComparesKnown version ignore recorded replayed (Ok verdict)
  returns_verdict None replayed verdict has = tt
  returns_verdict (Some recorded) None verdict has = tt
  returns_verdict (Some recorded) (Some replayed) verdict has = has

  pub returns_out_of_memory : (recorded replayed : Option (List ℕ)) → ComparesKnown version ignore recorded replayed
      (Err (Bench OutOfMemory))
  returns_out_of_memory None replayed = tt
  returns_out_of_memory (Some recorded) None = tt
  returns_out_of_memory (Some recorded) (Some replayed) = tt

  -- two commands have an error
  pub returns_error : (is_listed : Bool) (index : ℕ) (recorded_command replayed_command : RawMessage)
      (recorded replayed left others now then : Option (List ℕ)) (error : BenchError)
      → GoesOn recorded replayed index left others
      → TakesFirst version left (Some recorded_command) now → TakesFirst version others (Some replayed_command) then →
      ReturnsPair ignore is_listed index recorded_command replayed_command (Err error)
      → ComparesKnown version ignore recorded replayed (Err (Bench error))
  unfolding ReturnsPair
  returns_error is_listed index recorded_command replayed_command recorded replayed left others now then OutOfMemory
      goes one other rejected = returns_out_of_memory recorded replayed
  returns_error is_listed index recorded_command replayed_command recorded replayed left others now then TooLong goes
      one other rejected = absurd rejected
  returns_error is_listed index recorded_command replayed_command recorded replayed left others now then
      (Malformed side at) goes one other rejected =
      returns_malformed recorded replayed (ends_found index recorded_command replayed_command recorded replayed left
      others now then (NotWellFormed side at) goes one other rejected)
    where
      returns_malformed : (recorded replayed : Option (List ℕ)) → IsKnownOutcome recorded replayed
          (NotWellFormed side at) → ComparesKnown version ignore recorded replayed (Err (Bench (Malformed side at)))
      returns_malformed None replayed has = tt
      returns_malformed (Some recorded) None has = tt
      returns_malformed (Some recorded) (Some replayed) has = has

  pub returns_next_error : (is_listed : Bool) (index : ℕ) (next other : Option RawMessage)
      (recorded replayed left others now then : Option (List ℕ)) (error : BenchError)
      → GoesOn recorded replayed index left others
      → IsNext version left next now → IsNext version others other then
      → ReturnsNext ignore is_listed index next other (Err error)
      → ComparesKnown version ignore recorded replayed (Err (Bench error))
  returns_next_error is_listed index None None recorded replayed left others now then error goes one more is = absurd is
  returns_next_error is_listed index None (Some other) recorded replayed left others now then error goes one more is =
      absurd is
  returns_next_error is_listed index (Some command) None recorded replayed left others now then error goes one more is =
      absurd is
  returns_next_error is_listed index (Some command) (Some other) recorded replayed left others now then error goes one
      more is =
      returns_error is_listed index command other recorded replayed left others now then error goes one more is
