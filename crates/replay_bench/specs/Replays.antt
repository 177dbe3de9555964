-- A replay that is checked item by item, as it follows a recording.
use Rattle.std.specs.Prelude.{◌≡◌, ℕ, ◌+◌, ◌^◌, ◌<◌, Bool, true, false, List, [], ◌∷◌, ◌++◌, count_by}
use Rattle.std.specs.Prelude.{Option, Some, None, IfSome, IfErr, Result, Ok, Err}
use Rattle.shared_core_base.specs.declared.version.Version.{Version}
use Rattle.shared_core_stream.specs.declared.encoding.item.Item.{Item}
use Rattle.shared_core_stream.specs.declared.encoding.raw_message.RawMessage.{RawMessage}
use Rattle.shared_core_stream.specs.Items.{IsItemsThen, SplitsInto}
use Rattle.stream_lines.specs.Printing.{items_size}
use Rattle.replay_bench.specs.declared.commands.Commands.{Commands}
use Rattle.replay_bench.specs.declared.following.Ahead.{Ahead}
use Rattle.replay_bench.specs.declared.following.Ahead.TheVariants.{Unread, Held, Ended, Failed}
use Rattle.replay_bench.specs.declared.following.Following.{Following}
use Rattle.replay_bench.specs.declared.following.Mismatch.{Mismatch}
use Rattle.replay_bench.specs.declared.journals.Ignored.{Ignored}
use Rattle.replay_bench.specs.declared.verdicts.BenchError.TheVariants.{OutOfMemory, Malformed}
use Rattle.replay_bench.specs.declared.verdicts.ReaderError.{ReaderError}
use Rattle.replay_bench.specs.declared.verdicts.ReaderError.TheVariants.{Bench}
use Rattle.replay_bench.specs.declared.verdicts.Side.TheVariants.{Recorded}
use Rattle.replay_bench.specs.declared.verdicts.Verdict.{Verdict}
use Rattle.replay_bench.specs.declared.verdicts.Verdict.TheVariants.{Same, ReplayedEnded}
use Rattle.replay_bench.specs.Fields.{IsKnownCommandAt}
use Rattle.replay_bench.specs.Held.{HasAfter}
use Rattle.replay_bench.specs.Holding.{AreAllAlike}
use Rattle.replay_bench.specs.Journals.{IsCommand, IsJournal, commands_among}
use Rattle.replay_bench.specs.Reading.{IsKnownLast, IsReading}
use Rattle.replay_bench.specs.Sources.{MayReject}
use Rattle.replay_bench.specs.Survey.{is_command}
use Rattle.replay_bench.specs.Verdicts.{ComparesKnown, FailsOn, HasFieldsOn, recorded_seen, stopped_index}

-- ---- how far a replay has followed a recording

-- A recording: the version at which it is read, the greatest length of a payload that its source takes, and its bytes,
-- where these are known.
pub record Recording : Type 0 where
  pub version : Version
  pub limit : ℕ
  pub bytes : Option (List ℕ)

-- A recording has commands that are alike those given, one by one, and then those that are left.
pub record HasFollowed (version : Version) (ignore : Ignored) (recorded : List ℕ) (given left : List RawMessage)
    : Type 0 where
  pub before : List RawMessage
  pub alike : AreAllAlike ignore before given
  pub is : IsJournal version recorded (before ++ left)

-- The bytes that are to come are known, and have these commands.
abbrev pub HasCommands : Version → Option (List ℕ) → List RawMessage → Type 0
HasCommands version None commands = ⊥
HasCommands version (Some bytes) commands = IsJournal version bytes commands

-- These commands are left of a recording, by what was read ahead and what is to come. Where it could not be read on,
-- nothing is known of them.
abbrev pub AreLeft : Version → Ahead → Option (List ℕ) → List RawMessage → Type 0
AreLeft version Unread coming left = HasCommands version coming left
AreLeft version (Held command) coming left =
    (rest : List RawMessage) × (left ≡ command ∷ rest) × HasCommands version coming rest
AreLeft version Ended coming left = left ≡ []
AreLeft version (Failed error) coming left = Unit {0}

-- A recording has followed the commands given, and what is left of it was read ahead, or is to come.
abbrev pub Follows : Version → Ignored → List RawMessage → Ahead → Option (List ℕ) → List ℕ → Type 0
Follows version ignore given ahead coming recorded =
    (left : List RawMessage) × HasFollowed version ignore recorded given left × AreLeft version ahead coming left

-- The command that was read ahead, if there is one.
abbrev pub held_in : Ahead → Option RawMessage
held_in (Held command) = Some command
held_in ahead = None

-- The next command was read ahead, or there is none.
abbrev pub IsAhead : Ahead → Type 0
IsAhead Unread = ⊥
IsAhead (Failed error) = ⊥
IsAhead ahead = Unit {0}

-- Whether a recording may be read again after this error: then an allocation failed.
abbrev pub is_repeatable : ReaderError → Bool
is_repeatable (Bench OutOfMemory) = true
is_repeatable error = false

-- Why a recording was not read on.
abbrev pub Rejects : Bool → Recording → ReaderError → Type 0
Rejects may_fail recording error = MayReject Recorded may_fail recording.version recording.limit recording.bytes error

-- The source of a recording was read, to its end or not, and so many commands of it were taken.
pub record IsSourceRead {S : Type 0} (version_of : S → Version) (limit_of : S → ℕ) (coming_of : S → Option (List ℕ))
    (recording : Recording) (has_ended : Bool) (count : ℕ) (recorded : Commands S) : Type 0 where
  pub limit_is : limit_of recorded.source ≡ recording.limit
  pub reading : IsReading recording.version Recorded false recording.bytes has_ended count recorded.side
      recorded.version (version_of recorded.source) (coming_of recorded.source) recorded.survey

-- A recording was read as far as this was read ahead after so many commands, or could not be.
abbrev pub IsReadTo : {S : Type 0} → (S → Version) → (S → ℕ) → (S → Option (List ℕ)) → Bool → Recording → ℕ → Commands S
    → Ahead → Type 0
IsReadTo version_of limit_of coming_of may_fail recording index recorded Unread =
    IsSourceRead version_of limit_of coming_of recording false index recorded
IsReadTo version_of limit_of coming_of may_fail recording index recorded (Held command) =
    IsCommand command × IsSourceRead version_of limit_of coming_of recording false (index + 1) recorded
IsReadTo version_of limit_of coming_of may_fail recording index recorded Ended =
    IsSourceRead version_of limit_of coming_of recording true index recorded
IsReadTo version_of limit_of coming_of may_fail recording index recorded (Failed error) =
    Rejects may_fail recording error × (is_repeatable error ≡ false)

-- A replay has given these items, all of whose commands are alike those of the recording at their indices.
pub record IsFollowing {S : Type 0} (version_of : S → Version) (limit_of : S → ℕ) (coming_of : S → Option (List ℕ))
    (may_fail : Bool) (recording : Recording) (given : List Item) (following : Following S) : Type 0 where
  pub index_is : following.index ≡ count_by is_command given
  pub size_is : following.size ≡ items_size given
  pub fits : following.size < 2 ^ 64
  pub read_to : IsReadTo version_of limit_of coming_of may_fail recording following.index following.recorded
      following.ahead
  pub follows : IfSome recording.bytes (Follows recording.version following.ignore (commands_among given)
      following.ahead (coming_of following.recorded.source))

-- After these items of a replay this command comes next in a recording whose bytes are known, or none.
abbrev pub ComesNext : Version → Option (List ℕ) → List Item → Option RawMessage → Type 0
ComesNext version recorded given (Some command) = IsKnownCommandAt version recorded (count_by is_command given) command
ComesNext version recorded given None =
    IfSome recorded (λ bytes. HasAfter version bytes (count_by is_command given) [])

-- The offset of the command that comes next, if there is one.
abbrev pub IsHeldAt : Version → Option (List ℕ) → List Item → Option RawMessage → Option ℕ → Type 0
IsHeldAt version recorded given (Some command) at = IsKnownLast version recorded (count_by is_command given + 1) at
IsHeldAt version recorded given None at = at ≡ None

-- The verdict if a replay ends at this index: it has ended before the recording, or both have.
abbrev pub ending : Ahead → ℕ → Verdict
ending (Held command) index = ReplayedEnded index
ending ahead index = Same index

-- ---- what is said of a replay

-- This is what a comparison returns of a recording and of every replay that begins with these items, whatever is after
-- them.
abbrev pub IsSaidOf : Version → Ignored → Option (List ℕ) → List Item → Result Verdict ReaderError → Type 0
IsSaidOf version ignore recorded given result =
    (replayed rest : List ℕ) → IsItemsThen version replayed given rest
    → ComparesKnown version ignore recorded (Some replayed) result

-- The same of every replay that has these items, and no more.
abbrev pub IsSaidAtEnd : Version → Ignored → Option (List ℕ) → List Item → Result Verdict ReaderError → Type 0
IsSaidAtEnd version ignore recorded given result =
    (replayed rest : List ℕ) → SplitsInto version replayed given rest
    → ComparesKnown version ignore recorded (Some replayed) result

-- The last of these items is where a replay leaves its recording: the verdict, the fields in which the commands differ,
-- the index, which is the number of commands before it, and the offset in both.
pub record IsMismatch (version : Version) (ignore : Ignored) (recorded : Option (List ℕ)) (given : List Item)
    (item : Item) (mismatch : Mismatch) : Type 0 where
  pub verdict : IsSaidOf version ignore recorded (given ++ item ∷ []) (Ok mismatch.verdict)
  pub fields : (replayed rest : List ℕ) → IsItemsThen version replayed (given ++ item ∷ []) rest
      → HasFieldsOn version recorded (Some replayed) mismatch.verdict mismatch.fields.items
  pub index : stopped_index mismatch.verdict ≡ count_by is_command given
  pub recorded_last : IsKnownLast version recorded (recorded_seen mismatch.verdict) mismatch.recorded_at
  pub replayed_is : mismatch.replayed_at ≡ items_size given

-- Whether an error says that a command is not well-formed, after which nothing more is compared.
abbrev pub is_malformed : ReaderError → Bool
is_malformed (Bench (Malformed side index)) = true
is_malformed error = false

-- A replay has followed these items, and it was said where it leaves its recording, or not.
abbrev pub StandsAt : {S : Type 0} → (S → Version) → (S → ℕ) → (S → Option (List ℕ)) → Bool → Recording → Following S
    → List Item → Bool → Following S → Type 0
StandsAt version_of limit_of coming_of may_fail recording old given said new =
    IsFollowing version_of limit_of coming_of may_fail recording given new × (new.ignore ≡ old.ignore)
    × (new.has_said ≡ said)

-- What a check of the next item returns, and where the replay stands then: the item was followed; it is where the
-- replay leaves the recording; or why nothing is known of it, and the item was not taken.
abbrev pub Checks : {S : Type 0} → (S → Version) → (S → ℕ) → (S → Option (List ℕ)) → Bool → Recording → List Item → Item
    → Following S → Result (Option Mismatch) ReaderError → Following S → Type 0
Checks version_of limit_of coming_of may_fail recording given item old (Ok None) new =
    StandsAt version_of limit_of coming_of may_fail recording old (given ++ item ∷ []) false new
Checks version_of limit_of coming_of may_fail recording given item old (Ok (Some mismatch)) new =
    IsMismatch recording.version old.ignore recording.bytes given item mismatch
    × StandsAt version_of limit_of coming_of may_fail recording old given true new
Checks version_of limit_of coming_of may_fail recording given item old (Err error) new =
    IsSaidOf recording.version old.ignore recording.bytes (given ++ item ∷ []) (Err error)
    × FailsOn may_fail recording.limit false 4294967295 error
    × StandsAt version_of limit_of coming_of may_fail recording old given (is_malformed error) new

-- What the end of a replay returns, and where it stands then: the verdict, or why the recording was not read on.
abbrev pub Finishes : {S : Type 0} → (S → Version) → (S → ℕ) → (S → Option (List ℕ)) → Bool → Recording → List Item
    → Following S → Result Verdict ReaderError → Following S → Type 0
Finishes version_of limit_of coming_of may_fail recording given old result new =
    IsSaidAtEnd recording.version old.ignore recording.bytes given result
    × IfErr result (FailsOn may_fail recording.limit false 4294967295)
    × StandsAt version_of limit_of coming_of may_fail recording old given old.has_said new

-- The same of a replay of which no mismatch was said.
abbrev pub EndsReplay : {S : Type 0} → (S → Version) → (S → ℕ) → (S → Option (List ℕ)) → Bool → Recording → List Item
    → Following S → Result (Option Verdict) ReaderError → Following S → Type 0
EndsReplay version_of limit_of coming_of may_fail recording given old (Ok None) new = ⊥
EndsReplay version_of limit_of coming_of may_fail recording given old (Ok (Some verdict)) new =
    Finishes version_of limit_of coming_of may_fail recording given old (Ok verdict) new
EndsReplay version_of limit_of coming_of may_fail recording given old (Err error) new =
    Finishes version_of limit_of coming_of may_fail recording given old (Err error) new
