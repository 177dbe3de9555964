-- The lines of items, each by the items before it.
use Rattle.std.specs.Prelude.{ℕ, ◌+◌, Bool, true, false, not, ◌&&◌, ◌||◌, List, [], ◌∷◌, ◌++◌, codes, decimal, length}
use Rattle.std.specs.Prelude.{None, if◌then◌else◌, nat_lt}
use Rattle.shared_core_base.specs.declared.version.Version.{Version}
use Rattle.shared_core_fields.specs.Fields.{FieldPart}
use Rattle.shared_core_message.specs.Schemas.{schema_at}
use Rattle.shared_core_stream.specs.declared.encoding.item.Item.{Item}
use Rattle.shared_core_stream.specs.declared.encoding.item.Item.TheVariants.{Message, Unknown, Skipped}
use Rattle.show_lines.specs.Contents.{role_of, value_fields, number_in, fails_as, held_text, payload_held, type_text}
use Rattle.show_lines.specs.Contents.{Holding, OpaqueBytes, Malformed, Means}
use Rattle.show_lines.specs.Filter.{matches}
use Rattle.show_lines.specs.Waiting.{Shown, Waiting, joined, waiting_after, open_lines}
use Rattle.show_lines.specs.declared.facts.Facts.{Facts}
use Rattle.show_lines.specs.declared.facts.Role.{Role}
use Rattle.show_lines.specs.declared.facts.Role.TheVariants.{Command, Notification, Other}
use Rattle.show_lines.specs.declared.options.Options.{Options}
use Rattle.show_lines.specs.declared.place.Place.{Place}
use Rattle.stream_lines.specs.Printing.{item_size}

-- ---- a message

-- What is known of an item without ids.
abbrev pub no_ids : Role → Bool → Facts
no_ids role fails = record { role = role; invocation = None; result = None; is_failure = fails }

-- What is known of a message by its schema and its fields: the id by which the invocation of a call becomes known,
-- that of its result, and whether it is a failure.
abbrev pub fields_facts : Role → ℕ → List FieldPart → Facts
fields_facts Command s fields = record {
  role = Command;
  invocation = number_in 10 fields;
  result = number_in 11 fields;
  is_failure = fails_as s fields;
}
fields_facts Notification s fields = record {
  role = Notification;
  invocation = None;
  result = number_in 1 fields;
  is_failure = fails_as s fields;
}
fields_facts Other s fields = no_ids Other (fails_as s fields)

-- What is known of a message by what it holds: nothing of a custom entry; what is malformed is a failure.
abbrev pub held_facts : Role → Holding → Facts
held_facts role (OpaqueBytes bytes) = no_ids role false
held_facts role (Malformed bytes) = no_ids role true
held_facts role (Means s value) = fields_facts role s (value_fields s value)

-- ---- an item

-- What is known of an item.
abbrev pub item_facts : Version → Item → Facts
item_facts version (Message message) =
    held_facts (role_of message.header.ty) (payload_held (schema_at version message.header.ty) message.payload)
item_facts version item = no_ids Other false

-- What an item is, and what is in it.
abbrev pub item_text : Version → Item → List ℕ
item_text version (Message message) = type_text (Message message)
    ++ held_text (role_of message.header.ty) (payload_held (schema_at version message.header.ty) message.payload)
item_text version (Unknown code) = type_text (Unknown code)
item_text version (Skipped code payload) = type_text (Skipped code payload) ++ (codes " " ++ decimal (length payload))

-- The text by which lines name an item: its index, and what it is.
abbrev pub item_name : Version → ℕ → Item → List ℕ
item_name version index item = codes "#" ++ (decimal index ++ (codes " " ++ item_text version item))

-- ---- the lines

-- What is known after some items of a stream: where the next one is, and what waits for its other half.
pub record Known : Type 0 where
  pub place : Place
  pub waiting : Waiting

-- What is known before the first item.
abbrev pub nothing_known : Known
nothing_known = record { place = record { index = 0; command = 0; offset = 0 }; waiting = [] }

-- Whether this is a command.
abbrev pub is_command : Facts → Bool
is_command facts = elim facts.role [ Command ↦ true | Notification ↦ false | Other ↦ false ]

-- Whether an item of this index is one of those that may have lines.
abbrev pub is_in_range : Options → ℕ → Bool
is_in_range options index = not (nat_lt index options.from) && not (nat_lt options.to index)

-- Whether an item at a place is one of those that may have lines: its index is in the range, and it has all words.
abbrev pub is_selected : Options → Place → Item → Bool
is_selected options place item =
    is_in_range options place.index && matches options.words.now options.version place item

-- Whether an item has a line, if it may have one.
abbrev pub has_line : Options → Bool → Facts → Bool
has_line options selected facts =
    ((selected && (not options.commands || is_command facts)) && (not options.failures || facts.is_failure))
    && not options.open

-- What waits for an id of an item.
abbrev pub half_of : Bool → Facts → List ℕ → Shown
half_of selected facts text = record { is_command = is_command facts; is_selected = selected; text = text }

-- The text by which lines name what gives the id of the invocation that a command calls.
abbrev pub invocation_name : List ℕ → List ℕ
invocation_name name = codes "the invocation id of " ++ name

-- What waits after the id of an invocation, if this waits before.
abbrev pub waiting_between : Bool → Waiting → Facts → List ℕ → Waiting
waiting_between selected waiting facts name =
    waiting_after facts.invocation (half_of selected facts (invocation_name name)) waiting

-- What a line says of the other halves of an item.
abbrev pub joins : Bool → Waiting → Facts → List ℕ → List ℕ
joins selected waiting facts name =
    joined facts.invocation (is_command facts) waiting
    ++ joined facts.result (is_command facts) (waiting_between selected waiting facts name)

-- What waits after an item.
abbrev pub waiting_then : Bool → Waiting → Facts → List ℕ → Waiting
waiting_then selected waiting facts name =
    waiting_after facts.result (half_of selected facts name) (waiting_between selected waiting facts name)

-- The place after an item of this size.
abbrev pub place_after : Facts → ℕ → Place → Place
place_after facts size place = record {
  index = place.index + 1;
  command = if is_command facts then place.command + 1 else place.command;
  offset = place.offset + size;
}

-- What is known after one more item.
abbrev pub then_known : Options → Known → Item → Known
then_known options known item = record {
  place = place_after (item_facts options.version item) (item_size item) known.place;
  waiting = waiting_then (is_selected options known.place item) known.waiting (item_facts options.version item)
      (item_name options.version known.place.index item);
}

-- The line of an item: its name, and what completes it or is completed by it; nothing if it is not to have one.
abbrev pub line_of : Options → Known → Item → List ℕ
line_of options known item =
    if has_line options (is_selected options known.place item) (item_facts options.version item)
    then item_name options.version known.place.index item
    ++ (joins (is_selected options known.place item) known.waiting (item_facts options.version item)
    (item_name options.version known.place.index item) ++ codes "\n") else []

-- The lines of items, before which this is known.
abbrev pub lines : Options → Known → List Item → List ℕ
lines options known [] = []
lines options known (item ∷ items) = line_of options known item ++ lines options (then_known options known item) items

-- What is known after items, before which this is known.
abbrev pub known_after : Options → Known → List Item → Known
known_after options known [] = known
known_after options known (item ∷ items) = known_after options (then_known options known item) items

-- The last lines: the commands that nothing has completed, unless only failures have lines.
abbrev pub last_lines : Options → Known → List ℕ
last_lines options known = if options.failures then [] else open_lines known.waiting

-- All that is written for a stream of these items.
abbrev pub all_lines : Options → List Item → List ℕ
all_lines options items =
    lines options nothing_known items ++ last_lines options (known_after options nothing_known items)
