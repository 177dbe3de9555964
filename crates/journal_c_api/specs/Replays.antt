-- The results of the calls on a replay that is checked as it comes.
use Rattle.std.specs.Prelude.{◌≡◌, ◌==◌, ◌⊎◌, ℕ, ◌+◌, ◌^◌, ◌<◌, nat_lt, nat_le, Bool, true, false, List, [], ◌∷◌, ◌++◌}
use Rattle.std.specs.Prelude.{length, drop}
use Rattle.std.specs.Prelude.{slice_index, Option, Some, None, IsSome, Result, Ok, Err, MatchBool, if◌then◌else◌}
use Rattle.std.specs.Prelude.{MatchOption, option_map}
use Rattle.shared_core_base.specs.declared.header.MessageType.{MessageType}
use Rattle.shared_core_base.specs.declared.version.Version.{Version}
use Rattle.shared_core_base.specs.CommandType.{command_type_of}
use Rattle.shared_core_base.specs.MessageType.{code_of, type_of}
use Rattle.shared_core_stream.specs.declared.encoding.item.Item.{Item}
use Rattle.shared_core_stream.specs.declared.encoding.item.Item.TheVariants.{Message}
use Rattle.shared_core_stream.specs.declared.encoding.item_ref.ItemRef.{ItemRef}
use Rattle.shared_core_stream.specs.declared.encoding.raw_message.RawMessage.{RawMessage}
use Rattle.shared_core_stream.specs.Borrowed.{item_borrowed}
use Rattle.shared_core_stream.specs.Items.{IsItemsThen, SplitsInto, TakesItem}
use Rattle.stream_lines.specs.Printing.{items_size}
use Rattle.replay_bench.specs.declared.verdicts.Side.TheVariants.{Recorded as OfRecorded, Replayed as OfReplayed}
use Rattle.replay_bench.specs.declared.journals.Ignored.{Ignored}
use Rattle.replay_bench.specs.declared.verdicts.Side.{Side}
use Rattle.replay_bench.specs.Journals.{IsCommand, command_of, commands_among, if_command}
use Rattle.replay_bench.specs.Outcomes.{Outcome, RecordedEnds, ReplayedEnds, OtherType, OtherCommand}
use Rattle.replay_bench.specs.Outcomes.{NotWellFormed}
use Rattle.replay_bench.specs.Verdicts.{AreAlike, IsFound, plain_message}
use Rattle.journal_c_api.specs.declared.outcome.CallError.{CallError}
use Rattle.journal_c_api.specs.declared.outcome.CallError.TheVariants.{Malformed, MalformedSecond, NoRoom, OutOfMemory}
use Rattle.journal_c_api.specs.declared.outcome.CallError.TheVariants.{TooLong, UnknownOption, UnknownVersion}
use Rattle.journal_c_api.specs.declared.replays.Around.{Around}
use Rattle.journal_c_api.specs.declared.replays.Checked.{Checked}
use Rattle.journal_c_api.specs.declared.replays.Checked.TheVariants.{Passed, Left}
use Rattle.journal_c_api.specs.declared.replays.Place.{Place}
use Rattle.journal_c_api.specs.declared.replays.Given.{Given}
use Rattle.journal_c_api.specs.declared.replays.Recorded.{Recorded}
use Rattle.journal_c_api.specs.declared.replays.Rules.{Rules}
use Rattle.journal_c_api.specs.declared.journals.Report.{Report}
use Rattle.journal_c_api.specs.Journals.{ReportsOutcome, verdict_numbers}
use Rattle.journal_c_api.specs.Outcomes.{AtVersion, supported_version, written_over}

-- ---- the numbers of a replay

-- The place of a replay that has these numbers.
abbrev pub place_in : List ℕ → Place
place_in numbers = record {
  version = slice_index numbers 0;
  options = slice_index numbers 1;
  index = slice_index numbers 2;
  recorded = slice_index numbers 3;
  replayed = slice_index numbers 4;
  said = slice_index numbers 5;
}

-- The six numbers of a place.
abbrev pub place_numbers : Place → List ℕ
place_numbers place =
    place.version ∷ place.options ∷ place.index ∷ place.recorded ∷ place.replayed ∷ place.said ∷ []

-- What options ignore: 1 payloads, 2 completion ids, and 3 both. There are no others.
abbrev pub ignored_by : ℕ → Option Ignored
ignored_by options =
    if options == 0 then Some (record { payloads = false; ids = false })
    else if options == 1 then Some (record { payloads = true; ids = false })
    else if options == 2 then Some (record { payloads = false; ids = true })
    else if options == 3 then Some (record { payloads = true; ids = true })
    else None

-- The rules of a place, or its error: UnknownVersion, otherwise UnknownOption.
abbrev pub HasRules : Place → Result Rules CallError → Type 0
HasRules place (Ok rules) =
    (supported_version place.version ≡ Some rules.version) × (ignored_by place.options ≡ Some rules.ignore)
HasRules place (Err UnknownVersion) = supported_version place.version ≡ None
HasRules place (Err UnknownOption) =
    (version : Version) × (supported_version place.version ≡ Some version) × (ignored_by place.options ≡ None)
HasRules place (Err error) = ⊥

-- What holds at what options ignore; if there is no such option, the result is UnknownOption.
abbrev pub WithOptions : {T : Type 0} → ℕ → Result T CallError → (Ignored → Type 0) → Type 0
WithOptions options outcome holds = MatchOption (ignored_by options) (outcome ≡ Err UnknownOption) holds

-- What holds at the place of a replay, its version and what is ignored; or the result is NoRoom if it has fewer than
-- six numbers, UnknownVersion or UnknownOption.
abbrev pub AtPlace : {T : Type 0} → List ℕ → Result T CallError → (Version → Ignored → Place → Type 0) → Type 0
AtPlace numbers outcome holds =
    MatchBool (nat_lt (length numbers) 6) (outcome ≡ Err NoRoom)
    (AtVersion (supported_version (slice_index numbers 0)) outcome
    (λ version. WithOptions (slice_index numbers 1) outcome (λ ignore. holds version ignore (place_in numbers))))

-- Whether no item can have this payload after the place of a replay: it is longer than any message's, or there would be
-- 2 ^ 63 bytes or commands, or more.
abbrev pub is_beyond : Place → List ℕ → Bool
is_beyond place payload =
    if nat_lt 4294967295 (length payload) then true
    else if nat_le (2 ^ 63) place.index then true
    else nat_le (2 ^ 63) (place.replayed + (8 + length payload))

-- ---- what comes next in a recording

-- The command of a recording.
abbrev pub message_of : Recorded → RawMessage
message_of found = record { header = found.header; payload = found.payload.now }

-- An item at an offset is this command, or none.
abbrev pub IsCommandAt : ItemRef → ℕ → Option Recorded → Type 0
IsCommandAt item offset (Some found) =
    (item_borrowed item ≡ Message (message_of found)) × (found.offset ≡ offset) × IsCommand (message_of found)
IsCommandAt item offset None = command_of (item_borrowed item) ≡ None

-- The first command of a recording from an offset on: the items between are none. Or there is none.
abbrev pub IsNext : Version → List ℕ → ℕ → Option Recorded → Type 0
IsNext version recorded from (Some found) =
    (before : List Item) × (rest : List ℕ)
    × IsItemsThen version (drop from recorded) (before ++ Message (message_of found) ∷ []) rest
    × (commands_among before ≡ []) × IsCommand (message_of found) × (found.offset ≡ from + items_size before)
IsNext version recorded from None =
    (items : List Item) × (rest : List ℕ) × SplitsInto version (drop from recorded) items rest
    × (commands_among items ≡ [])

-- The command at the place of a replay that has followed its recording. There is none before the first one, and where
-- no command begins.
abbrev pub IsLast : Version → List ℕ → Place → Option Recorded → Type 0
IsLast version recorded place (Some found) =
    (0 < place.index) × (found.offset ≡ place.recorded) × IsCommand (message_of found)
    × (rest : List ℕ) × TakesItem version (drop place.recorded recorded) (Message (message_of found)) rest
IsLast version recorded place None =
    0 < place.index → (item : Item) (rest : List ℕ) → TakesItem version (drop place.recorded recorded) item rest
    → command_of item ≡ None

-- The offset after a command, or else this one.
abbrev pub offset_after : Option Recorded → ℕ → ℕ
offset_after (Some found) offset = found.offset + (8 + length found.payload.now)
offset_after None offset = offset

-- The commands of a recording around a place: the last one that was the same, and the first one after it.
pub record IsAround (version : Version) (recorded : List ℕ) (place : Place) (found : Around) : Type 0 where
  pub last : IsLast version recorded place found.last
  pub next : IsNext version recorded (offset_after found.last place.recorded) found.next

-- The next command, or the last one if there is none.
abbrev pub option_or_else : Option Recorded → Option Recorded → Option Recorded
option_or_else (Some next) last = Some next
option_or_else None last = last

-- That of two commands around a place.
abbrev pub seen_of : Around → Option Recorded
seen_of found = option_or_else found.next found.last

-- The offset, the code and the size of a command; three zeros if there is none.
abbrev pub command_numbers : Option Recorded → List ℕ
command_numbers (Some found) =
    found.offset ∷ code_of found.header.ty ∷ (8 + length found.payload.now) ∷ []
command_numbers None = 0 ∷ 0 ∷ 0 ∷ []

-- ---- what is said of an item

-- The message of a type with this payload, if its messages are commands.
abbrev pub command_typed : Option MessageType → List ℕ → Option RawMessage
command_typed (Some ty) payload = if_command (command_type_of ty) (plain_message ty payload)
command_typed None payload = None

-- The command of this code and payload, if it is one.
abbrev pub command_given : ℕ → List ℕ → Option RawMessage
command_given code payload = command_typed (type_of code) payload

-- A type is that of a code, and its messages are commands; otherwise no payload of this code is a command.
abbrev pub IsTypeOfCommand : ℕ → Option MessageType → Type 0
IsTypeOfCommand code (Some ty) =
    IsSome (command_type_of ty) × ((payload : List ℕ) → command_given code payload ≡ Some (plain_message ty payload))
IsTypeOfCommand code None = (payload : List ℕ) → command_given code payload ≡ None

-- The message that is given.
abbrev pub message_given : Given → RawMessage
message_given given = plain_message given.ty given.payload.now

-- The report on two commands at an index: that of what is found, or none if they are alike. An allocation may fail.
abbrev pub ReportsPair : Ignored → ℕ → RawMessage → RawMessage → Result (Option Report) CallError → Type 0
ReportsPair ignore index recorded replayed (Ok None) = AreAlike ignore recorded replayed
ReportsPair ignore index recorded replayed (Ok (Some report)) =
    (outcome : Outcome) × IsFound ignore index recorded replayed outcome × ReportsOutcome outcome report
ReportsPair ignore index recorded replayed (Err error) = error ≡ OutOfMemory

-- The six numbers of a mismatch at a place: the kind and the index of its outcome, the offset in the replay, and the
-- recorded command that was seen last.
abbrev pub mismatch_numbers : Outcome → Place → Option Recorded → List ℕ
mismatch_numbers outcome place seen = verdict_numbers outcome ++ (place.replayed ∷ command_numbers seen)

-- What a check says of a command of this size where this one was recorded: they are the same, and both are taken; or
-- what differs, and neither is. An allocation may fail.
abbrev pub ChecksPair : Ignored → Place → Recorded → RawMessage → ℕ → Result Checked CallError → Type 0
ChecksPair ignore place found replayed size (Ok (Passed new)) =
    AreAlike ignore (message_of found) replayed
    × (new ≡ record place { index = place.index + 1; recorded = found.offset; replayed = place.replayed + size })
ChecksPair ignore place found replayed size (Ok (Left new numbers)) =
    (outcome : Outcome) × IsFound ignore place.index (message_of found) replayed outcome
    × (new ≡ record place { said = 1 }) × (numbers ≡ mismatch_numbers outcome place (Some found))
ChecksPair ignore place found replayed size (Err error) = error ≡ OutOfMemory

-- The same where the recording has ended, or has a command more.
abbrev pub ChecksCommand : Ignored → Place → Around → RawMessage → ℕ → Result Checked CallError → Type 0
ChecksCommand ignore place around replayed size outcome =
    MatchOption around.next
    (outcome ≡ Ok (Left (record place { said = 1 }) (mismatch_numbers (RecordedEnds place.index) place around.last)))
    (λ found. ChecksPair ignore place found replayed size outcome)

-- The same of an item of this size, which is a command or none.
abbrev pub ChecksItem : Version → Ignored → Place → List ℕ → Option RawMessage → ℕ → Result Checked CallError → Type 0
ChecksItem version ignore place recorded None size outcome =
    outcome ≡ Ok (Passed (record place { replayed = place.replayed + size }))
ChecksItem version ignore place recorded (Some replayed) size outcome =
    (found : Around) × IsAround version recorded place found × ChecksCommand ignore place found replayed size outcome

-- What a check says of the item of this code and payload. After a mismatch it says nothing, and changes nothing.
abbrev pub ReturnsChecked : ℕ → List ℕ → List ℕ → List ℕ → Result Checked CallError → Type 0
ReturnsChecked code recorded payload replay outcome =
    AtPlace replay outcome (λ version ignore place.
    MatchBool (nat_lt 0 place.said) (outcome ≡ Ok (Passed place))
    (MatchBool (is_beyond place payload) (outcome ≡ Err TooLong)
    (ChecksItem version ignore place recorded (command_given code payload) (8 + length payload) outcome)))

-- The same, or NoRoom if there is room for fewer than six numbers.
abbrev pub ReturnsCheck : ℕ → List ℕ → List ℕ → ℕ → List ℕ → Result Checked CallError → Type 0
ReturnsCheck code recorded payload room replay outcome =
    MatchBool (nat_lt room 6) (outcome ≡ Err NoRoom) (ReturnsChecked code recorded payload replay outcome)

-- What is said is written over the replay and the mismatch: whether there is a mismatch is the count.
abbrev pub WritesChecked : Checked → List ℕ → List ℕ → List ℕ → List ℕ → ℕ → Type 0
WritesChecked (Passed place) old new old_mismatch new_mismatch count =
    (count ≡ 0) × (new ≡ written_over (place_numbers place) old) × (new_mismatch ≡ old_mismatch)
WritesChecked (Left place numbers) old new old_mismatch new_mismatch count =
    (count ≡ 1) × (new ≡ written_over (place_numbers place) old) × (new_mismatch ≡ written_over numbers old_mismatch)

-- The result of journal_replay_check, and what it writes. An error leaves both slices unchanged.
abbrev pub WritesCheck : ℕ → List ℕ → List ℕ → List ℕ → List ℕ → List ℕ → List ℕ → Result ℕ CallError → Type 0
WritesCheck code recorded payload old new old_mismatch new_mismatch (Ok count) =
    (checked : Checked) × ReturnsCheck code recorded payload (length old_mismatch) old (Ok checked)
    × WritesChecked checked old new old_mismatch new_mismatch count
WritesCheck code recorded payload old new old_mismatch new_mismatch (Err error) =
    ReturnsCheck code recorded payload (length old_mismatch) old (Err error) × (new ≡ old)
    × (new_mismatch ≡ old_mismatch)

-- ---- the text of a mismatch

-- The text of an outcome that has one.
abbrev pub HasText : List ℕ → Outcome → Type 0
HasText text (OtherType index found) = text ≡ found
HasText text (OtherCommand index found) = text ≡ found
HasText text outcome = ⊥

-- The error that the command of a side is not well-formed.
abbrev pub malformed_on : Side → CallError
malformed_on OfRecorded = Malformed
malformed_on OfReplayed = MalformedSecond

-- The text of what is said of a command where this one was recorded: none if it is the same; or which of the two is not
-- well-formed. An allocation may fail.
abbrev pub Tells : Ignored → ℕ → RawMessage → RawMessage → Result (List ℕ) CallError → Type 0
Tells ignore index recorded replayed (Ok text) =
    (AreAlike ignore recorded replayed × (text ≡ []))
    ⊎ ((outcome : Outcome) × IsFound ignore index recorded replayed outcome × HasText text outcome)
Tells ignore index recorded replayed (Err Malformed) =
    IsFound ignore index recorded replayed (NotWellFormed OfRecorded index)
Tells ignore index recorded replayed (Err MalformedSecond) =
    IsFound ignore index recorded replayed (NotWellFormed OfReplayed index)
Tells ignore index recorded replayed (Err error) = error ≡ OutOfMemory

-- The same of an item, which is a command or none; there is no text where the recording has ended.
abbrev pub TellsItem : Version → Ignored → Place → List ℕ → Option RawMessage → Result (List ℕ) CallError → Type 0
TellsItem version ignore place recorded None outcome = outcome ≡ Ok []
TellsItem version ignore place recorded (Some replayed) outcome =
    (around : Around) × IsAround version recorded place around × MatchOption around.next (outcome ≡ Ok [])
    (λ found. Tells ignore place.index (message_of found) replayed outcome)

-- The result of journal_replay_text, whatever was said before.
abbrev pub ReturnsReplayText : ℕ → List ℕ → List ℕ → List ℕ → Result (List ℕ) CallError → Type 0
ReturnsReplayText code recorded payload replay outcome =
    AtPlace replay outcome (λ version ignore place.
    MatchBool (is_beyond place payload) (outcome ≡ Err TooLong)
    (TellsItem version ignore place recorded (command_given code payload) outcome))

-- ---- what is left of a recording

-- What comes next at a place.
abbrev pub ExpectsAt : Version → Place → List ℕ → Result (Option Recorded) CallError → Type 0
ExpectsAt version place recorded (Ok next) =
    (around : Around) × IsAround version recorded place around × (next ≡ around.next)
ExpectsAt version place recorded (Err error) = ⊥

-- What comes next in the recording of a replay.
abbrev pub ReturnsExpected : List ℕ → List ℕ → ℕ → Result (Option Recorded) CallError → Type 0
ReturnsExpected recorded replay room outcome =
    MatchBool (nat_lt room 3) (outcome ≡ Err NoRoom)
    (AtPlace replay outcome (λ version ignore place. ExpectsAt version place recorded outcome))

-- A command is written over a slice, and the count is 1; if there is none, it is 0.
abbrev pub WritesCommand : Option Recorded → List ℕ → List ℕ → ℕ → Type 0
WritesCommand (Some found) old new count = (count ≡ 1) × (new ≡ written_over (command_numbers (Some found)) old)
WritesCommand None old new count = (count ≡ 0) × (new ≡ old)

-- The result of journal_replay_expected, and what it writes. An error leaves the slice unchanged.
abbrev pub WritesExpected : List ℕ → List ℕ → List ℕ → List ℕ → Result ℕ CallError → Type 0
WritesExpected recorded replay old new (Ok count) =
    (next : Option Recorded) × ReturnsExpected recorded replay (length old) (Ok next) × WritesCommand next old new count
WritesExpected recorded replay old new (Err error) =
    ReturnsExpected recorded replay (length old) (Err error) × (new ≡ old)

-- Where a replay ends at a place, the numbers of the mismatch that a command is left; otherwise none.
abbrev pub EndsAt : Version → Place → List ℕ → Result (Option (List ℕ)) CallError → Type 0
EndsAt version place recorded (Ok numbers) =
    (around : Around) × IsAround version recorded place around
    × (numbers ≡ option_map (λ found. mismatch_numbers (ReplayedEnds place.index) place (Some found)) around.next)
EndsAt version place recorded (Err error) = ⊥

-- What the end of a replay says: nothing if a mismatch was said.
abbrev pub ReturnsFinish : List ℕ → List ℕ → ℕ → Result (Option (List ℕ)) CallError → Type 0
ReturnsFinish recorded replay room outcome =
    MatchBool (nat_lt room 6) (outcome ≡ Err NoRoom)
    (AtPlace replay outcome (λ version ignore place.
    MatchBool (nat_lt 0 place.said) (outcome ≡ Ok None) (EndsAt version place recorded outcome)))

-- The numbers of a mismatch are written over a slice, and the count is 1; if there is none, it is 0.
abbrev pub WritesMismatch : Option (List ℕ) → List ℕ → List ℕ → ℕ → Type 0
WritesMismatch (Some numbers) old new count = (count ≡ 1) × (new ≡ written_over numbers old)
WritesMismatch None old new count = (count ≡ 0) × (new ≡ old)

-- The result of journal_replay_finish, and what it writes. An error leaves the slice unchanged.
abbrev pub WritesFinish : List ℕ → List ℕ → List ℕ → List ℕ → Result ℕ CallError → Type 0
WritesFinish recorded replay old new (Ok count) =
    (found : Option (List ℕ)) × ReturnsFinish recorded replay (length old) (Ok found)
    × WritesMismatch found old new count
WritesFinish recorded replay old new (Err error) =
    ReturnsFinish recorded replay (length old) (Err error) × (new ≡ old)
