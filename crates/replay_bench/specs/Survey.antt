-- What a stream has, counted, and the first fault of its items.
use Rattle.std.specs.Prelude.{◌≡◌, ℕ, ◌+◌, Bool, true, false, not, is_some, ◌==◌, if◌then◌else◌, List, [], ◌∷◌, length}
use Rattle.std.specs.Prelude.{count_by, Option, Some, None}
use Rattle.shared_core_base.specs.declared.version.Version.{Version}
use Rattle.shared_core_base.specs.CommandType.{command_type_of}
use Rattle.shared_core_stream.specs.declared.encoding.item.Item.{Item}
use Rattle.shared_core_stream.specs.declared.encoding.item.Item.TheVariants.{Message, Unknown, Skipped}
use Rattle.shared_core_stream.specs.Items.{SplitsInto}
use Rattle.shared_core_message.specs.Schemas.{is_well_formed_at}
use Rattle.replay_bench.specs.declared.faults.Fault.{Fault}
use Rattle.replay_bench.specs.declared.faults.FaultReason.TheVariants.{UnknownHeader, Malformed, Rest}
use Rattle.replay_bench.specs.declared.survey.Survey.{Survey}
use Rattle.stream_lines.specs.Printing.{item_size, items_size}

-- ---- what items are

-- Whether an item is a command: a message whose type has a command type.
abbrev pub is_command : Item → Bool
is_command (Message message) = is_some (command_type_of message.header.ty)
is_command (Unknown code) = false
is_command (Skipped code payload) = false

-- Whether an item is a message that is not a command.
abbrev pub is_other : Item → Bool
is_other (Message message) = not (is_some (command_type_of message.header.ty))
is_other (Unknown code) = false
is_other (Skipped code payload) = false

-- Whether an item is only a header, of an unknown type.
abbrev pub is_unknown : Item → Bool
is_unknown (Message message) = false
is_unknown (Unknown code) = true
is_unknown (Skipped code payload) = false

-- Whether an item is a message of an unknown type, which is skipped with its payload.
abbrev pub is_skipped : Item → Bool
is_skipped (Message message) = false
is_skipped (Unknown code) = false
is_skipped (Skipped code payload) = true

-- ---- faults

-- Whether an item is found to be malformed, if that is looked for: a message whose payload is not well-formed for the
-- schema that its type has at the version.
abbrev pub is_malformed : Version → Bool → Item → Bool
is_malformed version is_strict (Message message) =
    if is_strict then not (is_well_formed_at version message.header.ty message.payload) else false
is_malformed version is_strict (Unknown code) = false
is_malformed version is_strict (Skipped code payload) = false

-- What is wrong with an item at an offset, which is malformed or not: its header is of an unknown type, or its payload
-- is not well-formed.
abbrev pub fault_at : ℕ → Bool → Item → Option Fault
fault_at at malformed (Message message) =
    if malformed then Some (record { offset = at; reason = Malformed message.header.ty }) else None
fault_at at malformed (Unknown code) = Some (record { offset = at; reason = UnknownHeader code })
fault_at at malformed (Skipped code payload) = None

-- What is wrong with an item at an offset of a stream of a version.
abbrev pub fault_of : Version → ℕ → Item → Option Fault
fault_of version at item = fault_at at (is_malformed version true item) item

-- The first of two, if there is one.
abbrev pub first_of : Option Fault → Option Fault → Option Fault
first_of (Some fault) later = Some fault
first_of None later = later

-- The first fault of items. The first item begins at an offset.
abbrev pub first_fault : Version → ℕ → List Item → Option Fault
first_fault version at [] = None
first_fault version at (item ∷ items) =
    first_of (fault_of version at item) (first_fault version (at + item_size item) items)

-- ---- surveys

-- The offset of the last command of items, or else the offset at which the first item begins.
abbrev pub last_command : ℕ → Option ℕ → List Item → Option ℕ
last_command at before [] = before
last_command at before (item ∷ items) =
    last_command (at + item_size item) (if is_command item then Some at else before) items

-- The survey of a stream that has these items, and after them this many bytes.
abbrev pub survey_of : Version → Bool → List Item → ℕ → Survey
survey_of version is_strict items rest = record {
  is_strict = is_strict;
  size = items_size items;
  commands = count_by is_command items;
  last_command = last_command 0 None items;
  others = count_by is_other items;
  unknown = count_by is_unknown items;
  skipped = count_by is_skipped items;
  malformed = count_by (is_malformed version is_strict) items;
  rest = rest;
  fault = if is_strict then first_fault version 0 items else None;
}

-- The first fault of the items of a survey and of one after them, which is malformed or not.
abbrev pub fault_with : Survey → Bool → Item → Option Fault
fault_with survey malformed item =
    if survey.is_strict then first_of survey.fault (fault_at survey.size malformed item) else survey.fault

-- What is wrong with a whole stream of this survey: the first fault of its items, or else the bytes that are in none.
abbrev pub trouble_of : Survey → Option Fault
trouble_of survey =
    first_of survey.fault
    (if survey.rest == 0 then None else Some (record { offset = survey.size; reason = Rest survey.rest }))

-- The survey of a stream: of the items that it splits into, and the number of bytes that are in none.
pub record IsSurvey (version : Version) (is_strict : Bool) (stream : List ℕ) (survey : Survey) : Type 0 where
  pub items : List Item
  pub rest : List ℕ
  pub split : SplitsInto version stream items rest
  pub is : survey ≡ survey_of version is_strict items (length rest)
