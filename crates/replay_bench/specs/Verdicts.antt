-- The verdict on the commands of two journals, and their comparison.
use Rattle.std.specs.Prelude.{IsTrue, ◌≡◌, ◌≢◌, ◌⊎◌, ℕ, ◌+◌, ◌^◌, ◌<◌, ◌≤◌, pos, Bool, true, false, List, [], ◌∷◌}
use Rattle.std.specs.Prelude.{length, codes, Option, Some, None, Result, Ok, Err, IfErr}
use Rattle.std.specs.Option.{IsSomeAnd}
use Rattle.std.specs.String.{string_bytes}
use Rattle.shared_core_base.specs.declared.header.MessageType.{MessageType}
use Rattle.shared_core_base.specs.declared.version.Version.{Version}
use Rattle.shared_core_wire.specs.declared.error.WireError.{WireError}
use Rattle.shared_core_wire.specs.declared.error.WireError.TheVariants as wire
use Rattle.shared_core_codec.specs.Payloads.{IsAccepted, payload_meaning}
use Rattle.shared_core_message.specs.Messages.{message_schema}
use Rattle.shared_core_compare.specs.Differences.{difference}
use Rattle.shared_core_errors.specs.Mismatch.{command_type_mismatch_text}
use Rattle.shared_core_stream.specs.declared.encoding.raw_message.RawMessage.{RawMessage}
use Rattle.shared_core.specs.Errors.{command_mismatch_text}
use Rattle.replay_bench.specs.declared.journals.Ignored.{Ignored}
use Rattle.replay_bench.specs.declared.verdicts.Side.{Side}
use Rattle.replay_bench.specs.declared.verdicts.Side.TheVariants.{Recorded, Replayed}
use Rattle.replay_bench.specs.declared.fields.FieldDifference.{FieldDifference}
use Rattle.replay_bench.specs.declared.mismatches.CommandPayload.{CommandPayload}
use Rattle.replay_bench.specs.declared.mismatches.Found.{Found}
use Rattle.replay_bench.specs.declared.comparison.Stopped.{Stopped}
use Rattle.replay_bench.specs.declared.verdicts.Comparison.{Comparison}
use Rattle.replay_bench.specs.declared.verdicts.Verdict.{Verdict}
use Rattle.replay_bench.specs.declared.verdicts.Verdict.TheVariants.{Same, RecordedEnded, ReplayedEnded, TypeMismatch}
use Rattle.replay_bench.specs.declared.verdicts.Verdict.TheVariants.{HeaderMismatch}
use Rattle.replay_bench.specs.declared.verdicts.BenchError.{BenchError}
use Rattle.replay_bench.specs.declared.verdicts.BenchError.TheVariants.{Malformed, TooLong, OutOfMemory}
use Rattle.replay_bench.specs.declared.verdicts.ReaderError.{ReaderError}
use Rattle.replay_bench.specs.declared.verdicts.ReaderError.TheVariants.{Read, Bench, MessageTooLong}
use Rattle.replay_bench.specs.Outcomes.{Outcome, SameCommands, RecordedEnds, ReplayedEnds, OtherType, OtherCommand}
use Rattle.replay_bench.specs.Outcomes.{NotWellFormed, outcome_of}
use Rattle.replay_bench.specs.Fields.{AreFieldsAt, AreFieldsOf, IsTypeAt, lines_of}
use Rattle.replay_bench.specs.Ids.{AreSameBut}
use Rattle.replay_bench.specs.Journals.{IsCommand, IsJournal}
use Rattle.replay_bench.specs.Reading.{IsKnownLast, IsKnownSurvey}
use Rattle.replay_bench.specs.Sources.{HasLonger}

-- ---- the result for two commands at an index

-- Both payloads are well-formed for the schema, and the commands that they mean are the same except for what is not
-- compared.
abbrev pub MeanTheSame : Ignored → List ℕ → List ℕ → ℕ → Type 0
MeanTheSame ignore recorded replayed s =
    IsAccepted s recorded × IsAccepted s replayed × AreSameBut ignore s (payload_meaning s recorded)
    (payload_meaning s replayed)

-- Both payloads are well-formed for the schema, the commands that they mean are not the same, and the text has their
-- difference.
abbrev pub MeanOthers : Ignored → ℕ → MessageType → List ℕ → List ℕ → List ℕ → ℕ → Type 0
MeanOthers ignore index ty recorded replayed text s =
    IsAccepted s recorded × IsAccepted s replayed
    × ¬ (AreSameBut ignore s (payload_meaning s recorded) (payload_meaning s replayed))
    × (text ≡ command_mismatch_text ty (pos index) (difference s (codes "   ") (payload_meaning s recorded)
    (payload_meaning s replayed)))

-- The payload of this side is not well-formed for the schema; where it is the replayed one, the recorded one is.
abbrev pub IsMalformedOn : Side → List ℕ → List ℕ → ℕ → Type 0
IsMalformedOn Recorded recorded replayed s = ¬ (IsAccepted s recorded)
IsMalformedOn Replayed recorded replayed s = IsAccepted s recorded × ¬ (IsAccepted s replayed)

-- Two commands at the same index are alike: of one type, both well-formed, and the same except for what is not
-- compared.
abbrev pub AreAlike : Ignored → RawMessage → RawMessage → Type 0
AreAlike ignore recorded replayed =
    (recorded.header.ty ≡ replayed.header.ty) × IsSomeAnd (message_schema recorded.header.ty)
    (MeanTheSame ignore recorded.payload replayed.payload)

-- Two commands at an index are not alike, and this is the outcome: their types differ; or they are of one type, and a
-- payload is not well-formed, or they do not mean the same. In a text the recorded one is the actual one.
abbrev pub IsFound : Ignored → ℕ → RawMessage → RawMessage → Outcome → Type 0
IsFound ignore index recorded replayed (OtherType found text) =
    (found ≡ index) × (recorded.header.ty ≢ replayed.header.ty)
    × (text ≡ command_type_mismatch_text (pos index) recorded.header.ty replayed.header.ty)
IsFound ignore index recorded replayed (OtherCommand found text) =
    (recorded.header.ty ≡ replayed.header.ty) × (found ≡ index)
    × IsSomeAnd (message_schema recorded.header.ty) (MeanOthers ignore index recorded.header.ty recorded.payload
    replayed.payload text)
IsFound ignore index recorded replayed (NotWellFormed side found) =
    (recorded.header.ty ≡ replayed.header.ty) × (found ≡ index)
    × IsSomeAnd (message_schema recorded.header.ty) (IsMalformedOn side recorded.payload replayed.payload)
IsFound ignore index recorded replayed outcome = ⊥

-- The fields of a verdict on two commands: if both are of one type and differ, those in which they do, where these are
-- listed; otherwise none.
abbrev pub HasFields : Bool → RawMessage → RawMessage → Verdict → List FieldDifference → Type 0
HasFields is_listed recorded replayed (HeaderMismatch index text) fields = IsTrue is_listed → AreFieldsOf recorded
    replayed fields
HasFields is_listed recorded replayed verdict fields = fields ≡ []

-- The result for two commands at an index: nothing if they are the same, otherwise what differs, and in which fields;
-- or an allocation fails.
unfoldable pub ReturnsPair : Ignored → Bool → ℕ → RawMessage → RawMessage → Result (Option Found) BenchError → Type 0
ReturnsPair ignore is_listed index recorded replayed (Ok None) = AreAlike ignore recorded replayed
ReturnsPair ignore is_listed index recorded replayed (Ok (Some found)) =
    IsFound ignore index recorded replayed (outcome_of found.verdict)
    × HasFields is_listed recorded replayed found.verdict found.fields.items
ReturnsPair ignore is_listed index recorded replayed (Err (Malformed side found)) = IsFound ignore index recorded
    replayed (NotWellFormed side found)
ReturnsPair ignore is_listed index recorded replayed (Err OutOfMemory) = Unit {0}
ReturnsPair ignore is_listed index recorded replayed (Err TooLong) = ⊥

-- A verdict that a journal has ended is the result, and no field comes with it.
abbrev pub IsEnding : Verdict → Result (Option Found) BenchError → Type 0
IsEnding verdict (Ok (Some found)) = (found.verdict ≡ verdict) × (found.fields.items ≡ [])
IsEnding verdict result = ⊥

-- The result for the next commands of two journals: who has ended, or that of both commands.
abbrev pub ReturnsNext : Ignored → Bool → ℕ → Option RawMessage → Option RawMessage → Result (Option Found) BenchError
    → Type 0
ReturnsNext ignore is_listed index None None result = IsEnding (Same index) result
ReturnsNext ignore is_listed index None (Some replayed) result = IsEnding (RecordedEnded index) result
ReturnsNext ignore is_listed index (Some recorded) None result = IsEnding (ReplayedEnded index) result
ReturnsNext ignore is_listed index (Some recorded) (Some replayed) result = ReturnsPair ignore is_listed index recorded
    replayed result

-- The message of a type that has this payload, without a flag in its header.
abbrev pub plain_message : MessageType → List ℕ → RawMessage
plain_message ty payload =
    record { header = record { ty = ty; length = length payload; requested_ack = None }; payload = payload }

-- The message of a command that is compared, as far as it is: its type and its payload.
abbrev pub command_message : CommandPayload → RawMessage
command_message command = plain_message command.ty command.payload.now

-- Two commands of this type are at an index.
pub record IsPair (index : ℕ) (recorded replayed : RawMessage) (ty : MessageType) : Type 0 where
  pub below : index < 2 ^ 63
  pub command : IsCommand recorded
  pub typed : recorded.header.ty ≡ replayed.header.ty
  pub is : recorded.header.ty ≡ ty

-- Why the command of a side at an index is not decoded: its payload is not well-formed, or an allocation failed.
abbrev pub bench_error_of : Side → ℕ → WireError → BenchError
bench_error_of side index wire.Malformed = Malformed side index
bench_error_of side index wire.OutOfMemory = OutOfMemory

-- ---- the verdict on two journals

-- The outcome of commands from this index on: who has ended, or what is found of the first two, or, where they are
-- alike, the outcome of the others.
abbrev pub IsOutcome : Ignored → ℕ → List RawMessage → List RawMessage → Outcome → Type 0
IsOutcome ignore index [] [] outcome = outcome ≡ SameCommands index
IsOutcome ignore index [] (replayed ∷ more_replayed) outcome = outcome ≡ RecordedEnds index
IsOutcome ignore index (recorded ∷ more_recorded) [] outcome = outcome ≡ ReplayedEnds index
IsOutcome ignore index (recorded ∷ more_recorded) (replayed ∷ more_replayed) outcome =
    (AreAlike ignore recorded replayed × IsOutcome ignore (index + 1) more_recorded more_replayed outcome)
    ⊎ IsFound ignore index recorded replayed outcome

-- The outcome of two journals is that of their commands, from index 0 on.
pub record HasOutcome (version : Version) (ignore : Ignored) (recorded replayed : List ℕ) (outcome : Outcome) : Type 0
  where
    pub recorded_commands : List RawMessage
    pub replayed_commands : List RawMessage
    pub is_recorded : IsJournal version recorded recorded_commands
    pub is_replayed : IsJournal version replayed replayed_commands
    pub is_outcome : IsOutcome ignore 0 recorded_commands replayed_commands outcome

-- What a comparison of two journals returns: their verdict; whose command is not well-formed; that one of them is too
-- long, where it is; or that an allocation fails.
abbrev pub Compares : Version → Ignored → List ℕ → List ℕ → Result Verdict BenchError → Type 0
Compares version ignore recorded replayed (Ok verdict) = HasOutcome version ignore recorded replayed
    (outcome_of verdict)
Compares version ignore recorded replayed (Err (Malformed side index)) = HasOutcome version ignore recorded replayed
    (NotWellFormed side index)
Compares version ignore recorded replayed (Err TooLong) = (2 ^ 64 ≤ length recorded) ⊎ (2 ^ 64 ≤ length replayed)
Compares version ignore recorded replayed (Err OutOfMemory) = Unit {0}

-- ---- the verdict on two sources

-- The journal of this side.
abbrev pub journal_on : Side → List ℕ → List ℕ → List ℕ
journal_on Recorded recorded replayed = recorded
journal_on Replayed recorded replayed = replayed

-- What a comparison of the journals of two sources returns: the same; that one of them could not be read; or the
-- message of one of them that is longer than its limit.
abbrev pub ComparesRead : Version → Ignored → List ℕ → List ℕ → Result Verdict ReaderError → Type 0
ComparesRead version ignore recorded replayed (Ok verdict) = Compares version ignore recorded replayed (Ok verdict)
ComparesRead version ignore recorded replayed (Err (Bench failure)) = Compares version ignore recorded replayed
    (Err failure)
ComparesRead version ignore recorded replayed (Err (Read side)) = Unit {0}
ComparesRead version ignore recorded replayed (Err (MessageTooLong side message)) = HasLonger version message
    (journal_on side recorded replayed)

-- The same of the bytes that two sources will give, where both are known.
abbrev pub ComparesKnown : Version → Ignored → Option (List ℕ) → Option (List ℕ) → Result Verdict ReaderError → Type 0
ComparesKnown version ignore (Some recorded) (Some replayed) result = ComparesRead version ignore recorded replayed
    result
ComparesKnown version ignore recorded replayed result = Unit {0}

-- The verdict of a comparison that stopped.
abbrev pub verdict_alone : {A B : Type 0} → Result (Stopped A B) ReaderError → Result Verdict ReaderError
verdict_alone (Ok stopped) = Ok stopped.found.verdict
verdict_alone (Err error) = Err error

-- The fields that come with a verdict on two journals: if its commands differ, those in which they do; otherwise none.
abbrev pub HasFieldsOn : Version → Option (List ℕ) → Option (List ℕ) → Verdict → List FieldDifference → Type 0
HasFieldsOn version recorded replayed (HeaderMismatch index text) fields = AreFieldsAt version recorded replayed index
    fields
HasFieldsOn version recorded replayed verdict fields = fields ≡ []

-- What a verdict says, by the types of the commands at its index and the fields in which they differ: there is no
-- command where a journal has ended, and the text of a mismatch is made of nothing but these and the index.
abbrev pub IsSaid : Verdict → Option MessageType → Option MessageType → List FieldDifference → Type 0
IsSaid (Same count) recorded replayed fields = (recorded ≡ None) × (replayed ≡ None)
IsSaid (RecordedEnded index) recorded replayed fields = recorded ≡ None
IsSaid (ReplayedEnded index) recorded replayed fields = replayed ≡ None
IsSaid (TypeMismatch index text) recorded replayed fields =
    (one other : MessageType) × (recorded ≡ Some one) × (replayed ≡ Some other)
    × (string_bytes text ≡ command_type_mismatch_text (pos index) one other)
IsSaid (HeaderMismatch index text) recorded replayed fields =
    (ty : MessageType) × (recorded ≡ Some ty) × (replayed ≡ Some ty)
    × (string_bytes text ≡ command_mismatch_text ty (pos index) (lines_of fields))

-- An error says that a read has failed only on a side where it may, and that a message is too long only on one whose
-- limit is below the greatest length of a message.
abbrev pub FailsOn : Bool → ℕ → Bool → ℕ → ReaderError → Type 0
FailsOn recorded limit replayed other_limit (Read Recorded) = recorded ≡ true
FailsOn recorded limit replayed other_limit (Read Replayed) = replayed ≡ true
FailsOn recorded limit replayed other_limit (MessageTooLong Recorded message) = limit < 4294967295
FailsOn recorded limit replayed other_limit (MessageTooLong Replayed message) = other_limit < 4294967295
FailsOn recorded limit replayed other_limit (Bench error) = Unit {0}

-- The same of a result.
abbrev pub MayFailOn : {T : Type 0} → Bool → ℕ → Bool → ℕ → Result T ReaderError → Type 0
MayFailOn recorded limit replayed other_limit result = IfErr result (FailsOn recorded limit replayed other_limit)

-- ---- both journals surveyed

-- Whether a verdict says that the recorded journal has ended.
abbrev pub recorded_ended : Verdict → Bool
recorded_ended (Same count) = true
recorded_ended (RecordedEnded index) = true
recorded_ended verdict = false

-- Whether a verdict says that the replayed journal has ended.
abbrev pub replayed_ended : Verdict → Bool
replayed_ended (Same count) = true
replayed_ended (ReplayedEnded index) = true
replayed_ended verdict = false

-- How many commands of the recorded journal a verdict has seen.
abbrev pub recorded_seen : Verdict → ℕ
recorded_seen (Same count) = count
recorded_seen (RecordedEnded index) = index
recorded_seen (ReplayedEnded index) = index + 1
recorded_seen (TypeMismatch index text) = index + 1
recorded_seen (HeaderMismatch index text) = index + 1

-- How many commands of the replayed journal a verdict has seen.
abbrev pub replayed_seen : Verdict → ℕ
replayed_seen (Same count) = count
replayed_seen (RecordedEnded index) = index + 1
replayed_seen (ReplayedEnded index) = index
replayed_seen (TypeMismatch index text) = index + 1
replayed_seen (HeaderMismatch index text) = index + 1

-- The index at which a verdict has stopped in both journals: all commands before are alike.
abbrev pub stopped_index : Verdict → ℕ
stopped_index (Same count) = count
stopped_index (RecordedEnded index) = index
stopped_index (ReplayedEnded index) = index
stopped_index (TypeMismatch index text) = index
stopped_index (HeaderMismatch index text) = index

-- Two journals, as far as their bytes are known, have this verdict, these fields in which its commands differ, these
-- types of the commands at its index, these surveys, and at these offsets the last commands that the verdict has seen.
pub record IsComparison (version : Version) (ignore : Ignored) (is_strict : Bool) (recorded replayed : Option (List ℕ))
    (found : Comparison) : Type 0 where
  pub verdict : ComparesKnown version ignore recorded replayed (Ok found.verdict)
  pub fields : HasFieldsOn version recorded replayed found.verdict found.fields.items
  pub said : IsSaid found.verdict found.recorded_type found.replayed_type found.fields.items
  pub recorded_typed : IsTypeAt version recorded (recorded_ended found.verdict) (stopped_index found.verdict)
      found.recorded_type
  pub replayed_typed : IsTypeAt version replayed (replayed_ended found.verdict) (stopped_index found.verdict)
      found.replayed_type
  pub recorded_survey : IsKnownSurvey version is_strict recorded found.recorded
  pub replayed_survey : IsKnownSurvey version is_strict replayed found.replayed
  pub recorded_last : IsKnownLast version recorded (recorded_seen found.verdict) found.recorded_at
  pub replayed_last : IsKnownLast version replayed (replayed_seen found.verdict) found.replayed_at

-- What a comparison that surveys both journals returns: their comparison, or why there is no verdict or no survey.
abbrev pub Surveys : Version → Ignored → Bool → Option (List ℕ) → Option (List ℕ) → Result Comparison ReaderError
    → Type 0
Surveys version ignore is_strict recorded replayed (Ok found) = IsComparison version ignore is_strict recorded replayed
    found
Surveys version ignore is_strict recorded replayed (Err error) = ComparesKnown version ignore recorded replayed
    (Err error)
