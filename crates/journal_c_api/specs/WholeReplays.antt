-- A whole replay: its items, checked one after the other.
use Rattle.std.specs.Prelude.{◌≡◌, ℕ, List, [], ◌∷◌, Some, Ok}
use Rattle.shared_core_base.specs.declared.version.Version.{Version}
use Rattle.shared_core_stream.specs.declared.encoding.raw_message.RawMessage.{RawMessage}
use Rattle.replay_bench.specs.declared.journals.Ignored.{Ignored}
use Rattle.replay_bench.specs.Journals.{IsJournal, with_first}
use Rattle.replay_bench.specs.Outcomes.{Outcome}
use Rattle.replay_bench.specs.Verdicts.{HasOutcome}
use Rattle.journal_c_api.specs.Outcomes.{supported_version}
use Rattle.journal_c_api.specs.Replays.{WritesCheck, command_given, ignored_by}

-- An item of a replay as it is given: its code and its payload.
pub record ItemGiven : Type 0 where
  pub code : ℕ
  pub payload : List ℕ

-- The commands among items that are given, in their order.
abbrev pub commands_given : List ItemGiven → List RawMessage
commands_given [] = []
commands_given (item ∷ items) = with_first (command_given item.code item.payload) (commands_given items)

-- The numbers of a replay of which nothing was checked.
abbrev pub first_numbers : ℕ → ℕ → List ℕ
first_numbers version options = version ∷ options ∷ 0 ∷ 0 ∷ 0 ∷ 0 ∷ []

-- Each of the items is checked in its turn, with 0 as the result: so the old numbers of the replay become the new ones.
abbrev pub Pass : List ℕ → List ItemGiven → List ℕ → List ℕ → Type 0
Pass recorded [] old new = new ≡ old
Pass recorded (item ∷ items) old new =
    (next before after : List ℕ) × WritesCheck item.code recorded item.payload old next before after (Ok 0)
    × Pass recorded items next new

-- A replay has these numbers after the items that passed, and this is the outcome of the recording and of a
-- journal with the commands among all items that are given.
pub record IsReplayed (number options : ℕ) (recorded : List ℕ) (passed : List ItemGiven) (numbers : List ℕ)
    (given : List ItemGiven) (outcome : Outcome) : Type 0 where
  pub version : Version
  pub spoken : supported_version number ≡ Some version
  pub ignored : Ignored
  pub ignores : ignored_by options ≡ Some ignored
  pub pass : Pass recorded passed (first_numbers number options) numbers
  pub journal : List ℕ
  pub is_journal : IsJournal version journal (commands_given given)
  pub has_outcome : HasOutcome version ignored recorded journal outcome
