-- The commands of a journal.
use Rattle.std.specs.Prelude.{◌≡◌, ℕ, List, [], ◌∷◌, Option, Some, None, option_map, IsSome}
use Rattle.shared_core_base.specs.declared.command_type.CommandType.{CommandType}
use Rattle.shared_core_base.specs.declared.header.MessageType.{MessageType}
use Rattle.shared_core_base.specs.declared.version.Version.{Version}
use Rattle.shared_core_base.specs.CommandType.{command_type_of}
use Rattle.shared_core_stream.specs.declared.encoding.item.Item.{Item}
use Rattle.shared_core_stream.specs.declared.encoding.item.Item.TheVariants.{Message, Unknown, Skipped}
use Rattle.shared_core_stream.specs.declared.encoding.raw_message.RawMessage.{RawMessage}
use Rattle.shared_core_stream.specs.Items.{SplitsInto}

-- A message of a type that has a command type.
abbrev pub IsCommand : RawMessage → Type 0
IsCommand message = IsSome (command_type_of message.header.ty)

-- The type of a command, if there is one.
abbrev pub type_of : Option RawMessage → Option MessageType
type_of command = option_map (λ message. message.header.ty) command

-- A message, where its type has a command type.
abbrev pub if_command : Option CommandType → RawMessage → Option RawMessage
if_command (Some command) message = Some message
if_command None message = None

-- The command that an item is, if it is one.
abbrev pub command_of : Item → Option RawMessage
command_of (Message message) = if_command (command_type_of message.header.ty) message
command_of (Unknown code) = None
command_of (Skipped code payload) = None

-- A list with this in front, if there is any.
abbrev pub with_first : {A : Type 0} → Option A → List A → List A
with_first (Some first) rest = first ∷ rest
with_first None rest = rest

-- The commands among items, in their order.
abbrev pub commands_among : List Item → List RawMessage
commands_among [] = []
commands_among (item ∷ items) = with_first (command_of item) (commands_among items)

-- The stream is a journal with these commands: they are those among its items.
pub record IsJournal (version : Version) (stream : List ℕ) (commands : List RawMessage) : Type 0 where
  pub items : List Item
  pub rest : List ℕ
  pub split : SplitsInto version stream items rest
  pub among : commands ≡ commands_among items
