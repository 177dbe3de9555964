-- Commands and journals whose completion ids are renamed.
use Rattle.std.specs.Prelude.{◌≡◌, ◌⊎◌, ℕ, Bool, List, [], ◌∷◌, ◌++◌, if◌then◌else◌, Option, Some, None}
use Rattle.std.specs.Option.{IsSomeAnd}
use Rattle.shared_core_base.specs.declared.version.Version.{Version}
use Rattle.shared_core_wire.specs.Schema.{Row}
use Rattle.shared_core_wire.specs.Value.{Part, Parts, Number, nil, cons}
use Rattle.shared_core_codec.specs.Payloads.{IsAccepted, payload_meaning}
use Rattle.shared_core_codec.specs.Table.{table}
use Rattle.shared_core_message.specs.Messages.{message_schema}
use Rattle.shared_core_compare.specs.Commands.{first_part, rest_parts}
use Rattle.shared_core_compare.specs.Differences.{number_of}
use Rattle.shared_core_compare.specs.Erasure.{AreSame, has_any}
use Rattle.shared_core_stream.specs.declared.encoding.raw_message.RawMessage.{RawMessage}
use Rattle.replay_bench.specs.Ids.{id_numbers}
use Rattle.replay_bench.specs.Journals.{IsJournal}

-- A row's part with its number renamed, if the row has one of these fields.
abbrev pub renamed_part : (ℕ → ℕ) → List ℕ → Row → Part → Part
renamed_part rename ids row p = if has_any ids row then Number (rename (number_of p)) else p

-- The same for each row's part.
abbrev pub renamed_parts : (ℕ → ℕ) → List ℕ → List Row → Parts → Parts
renamed_parts rename ids [] v = nil
renamed_parts rename ids (row ∷ rows) v =
    cons (renamed_part rename ids row (first_part v)) (renamed_parts rename ids rows (rest_parts v))

-- A command of a schema with its completion ids renamed.
abbrev pub renamed : (ℕ → ℕ) → ℕ → Parts → Parts
renamed rename s command = renamed_parts rename (id_numbers s) (table s) command

-- How the ids of two journals are renamed: those of the recorded one, and those of the replayed one.
pub record Renaming : Type 0 where
  pub recorded : ℕ → ℕ
  pub replayed : ℕ → ℕ

-- Both payloads are well-formed for the schema, and the commands that they mean are the same once their ids are
-- renamed.
abbrev pub MeanTheSameBy : Renaming → Bool → List ℕ → List ℕ → ℕ → Type 0
MeanTheSameBy rename payloads recorded replayed s =
    IsAccepted s recorded × IsAccepted s replayed
    × AreSame s payloads (renamed rename.recorded s (payload_meaning s recorded))
    (renamed rename.replayed s (payload_meaning s replayed))

-- Two commands are alike once their ids are renamed.
abbrev pub AreAlikeBy : Renaming → Bool → RawMessage → RawMessage → Type 0
AreAlikeBy rename payloads recorded replayed =
    (recorded.header.ty ≡ replayed.header.ty) × IsSomeAnd (message_schema recorded.header.ty)
    (MeanTheSameBy rename payloads recorded.payload replayed.payload)

-- Two lists have as many commands, which are so one by one.
abbrev pub AreAllAlikeBy : Renaming → Bool → List RawMessage → List RawMessage → Type 0
AreAllAlikeBy rename payloads [] [] = Unit {0}
AreAllAlikeBy rename payloads [] (other ∷ replayed) = ⊥
AreAllAlikeBy rename payloads (one ∷ recorded) [] = ⊥
AreAllAlikeBy rename payloads (one ∷ recorded) (other ∷ replayed) =
    AreAlikeBy rename payloads one other × AreAllAlikeBy rename payloads recorded replayed

-- Two journals are the same once their ids are renamed.
pub record AreSameBy (version : Version) (rename : Renaming) (payloads : Bool) (recorded replayed : List ℕ) : Type 0
  where
    pub recorded_commands : List RawMessage
    pub replayed_commands : List RawMessage
    pub is_recorded : IsJournal version recorded recorded_commands
    pub is_replayed : IsJournal version replayed replayed_commands
    pub alike : AreAllAlikeBy rename payloads recorded_commands replayed_commands

-- ---- the ids of a journal

-- The numbers that the rows with these fields have.
abbrev pub numbers_at : List ℕ → List Row → Parts → List ℕ
numbers_at ids [] v = []
numbers_at ids (row ∷ rows) v =
    if has_any ids row then (number_of (first_part v) ∷ numbers_at ids rows (rest_parts v))
    else numbers_at ids rows (rest_parts v)

-- The completion ids of a payload, where it has a schema.
abbrev pub payload_ids : Option ℕ → List ℕ → List ℕ
payload_ids None payload = []
payload_ids (Some s) payload = numbers_at (id_numbers s) (table s) (payload_meaning s payload)

-- The completion ids of commands, in their order.
abbrev pub ids_among : List RawMessage → List ℕ
ids_among [] = []
ids_among (command ∷ commands) =
    payload_ids (message_schema command.header.ty) command.payload ++ ids_among commands

-- A number is in a list.
abbrev pub IsAmong : ℕ → List ℕ → Type 0
IsAmong n [] = ⊥
IsAmong n (one ∷ more) = (n ≡ one) ⊎ IsAmong n more

-- No number is twice in a list.
abbrev pub AreOnce : List ℕ → Type 0
AreOnce [] = Unit {0}
AreOnce (one ∷ more) = ¬ (IsAmong one more) × AreOnce more

-- No two numbers of a list have the same name.
abbrev pub IsOneToOneOn : (ℕ → ℕ) → List ℕ → Type 0
IsOneToOneOn rename ids = (n m : ℕ) → IsAmong n ids → IsAmong m ids → rename n ≡ rename m → n ≡ m

-- Two journals are the same once each id of the recorded one is renamed to the one in its place, one to one.
pub record AreSameOneToOne (version : Version) (payloads : Bool) (recorded replayed : List ℕ) : Type 0 where
  pub rename : ℕ → ℕ
  pub same : AreSameBy version (record { recorded = rename; replayed = λ id. id }) payloads recorded replayed
  pub one_to_one : IsOneToOneOn rename (ids_among same.recorded_commands)

-- No id is twice in either of two journals.
pub record HaveIdsOnce (version : Version) (recorded replayed : List ℕ) : Type 0 where
  pub recorded_once : (commands : List RawMessage) → IsJournal version recorded commands
      → AreOnce (ids_among commands)
  pub replayed_once : (commands : List RawMessage) → IsJournal version replayed commands
      → AreOnce (ids_among commands)
