-- The filter: whether an item has the words of a text.
use Rattle.std.specs.Prelude.{ℕ, zero, suc, Bool, true, false, not, ◌&&◌, ◌||◌, List, [], ◌∷◌, codes, decimal, eqb}
use Rattle.std.specs.Prelude.{Option, Some, None, if◌then◌else◌, nat_lt, string_bytes}
use Rattle.std.specs.List.{ends_with, list_any, starts_with}
use Rattle.std.specs.Str.{is_utf8}
use Rattle.std.specs.StrCase.Lower.{str_to_lowercase}
use Rattle.hex.specs.Hex.{encode_lower}
use Rattle.shared_core_base.specs.declared.version.Version.{Version}
use Rattle.shared_core_wire.specs.Schema.{U32, U64, Text, ByteString, Message}
use Rattle.shared_core_wire.specs.Value.{Parts, Number, Bytes, Nested, Elements, nil, cons}
use Rattle.shared_core_fields.specs.Fields.{FieldPart}
use Rattle.shared_core_json.specs.Fields.{names_of, name_of}
use Rattle.shared_core_stream.specs.declared.encoding.item.Item.{Item}
use Rattle.shared_core_stream.specs.declared.encoding.item.Item.TheVariants as item
use Rattle.stream_lines.specs.Printing.{item_size}
use Rattle.show_lines.specs.Contents.{fails_as, item_held, role_of, type_text, value_fields}
use Rattle.show_lines.specs.Contents.{Holding, OpaqueBytes, Malformed, Means}
use Rattle.show_lines.specs.declared.facts.Role.{Role}
use Rattle.show_lines.specs.declared.facts.Role.TheVariants as role
use Rattle.show_lines.specs.declared.filter.State.{State}
use Rattle.show_lines.specs.declared.filter.State.TheVariants as state
use Rattle.show_lines.specs.declared.filter.Test.{Test}
use Rattle.show_lines.specs.declared.filter.Test.TheVariants as test
use Rattle.show_lines.specs.declared.filter.Word.{Word}
use Rattle.show_lines.specs.declared.place.Place.{Place}
use Rattle.show_lines.specs.declared.range.Range.{Range}

-- Whether a number is one of the range.
abbrev pub is_in : Range → ℕ → Bool
is_in range number = not (nat_lt number range.first) && not (nat_lt range.last number)

-- ---- texts

-- Whether a text has these bytes in it.
abbrev pub has_part : List ℕ → List ℕ → Bool
has_part part [] = starts_with eqb [] part
has_part part (byte ∷ bytes) = starts_with eqb (byte ∷ bytes) part || has_part part bytes

-- Whether a text has a word in it, without regard to case; the word is in lower case.
abbrev pub has_word : List ℕ → List ℕ → Bool
has_word word text = has_part word (str_to_lowercase text)

-- What is searched of bytes: the text that they are, or else their digits in hex.
abbrev pub searched : List ℕ → List ℕ
searched bytes = if is_utf8 bytes then bytes else encode_lower bytes

-- Whether a field of this name has a name or a key.
abbrev pub is_name : List ℕ → Bool
is_name name = ends_with eqb name (codes "name") || (ends_with eqb name (codes "Name")
    || (ends_with eqb name (codes "key") || (ends_with eqb name (codes "Key") || ends_with eqb name (codes "keys"))))

-- Whether a field of this name has ids of completions or of signals.
abbrev pub is_id_name : List ℕ → Bool
is_id_name name = ends_with eqb name (codes "Id") || (ends_with eqb name (codes "idx")
    || (ends_with eqb name (codes "Idx") || (ends_with eqb name (codes "Completions")
    || ends_with eqb name (codes "Signals"))))

-- ---- what an item holds

-- Whether a text in a field of this name passes.
abbrev pub text_passes : Test → List ℕ → List ℕ → Bool
text_passes (test.Anywhere word) name text = has_word (string_bytes word) text
text_passes (test.Name word) name text = is_name name && has_word (string_bytes word) text
text_passes t name text = false

-- Whether bytes in a field of this name pass.
abbrev pub bytes_pass : Test → List ℕ → List ℕ → Bool
bytes_pass t name bytes = text_passes t name (searched bytes)

-- Whether a number in a field of this name passes.
abbrev pub number_passes : Test → List ℕ → ℕ → Bool
number_passes (test.Anywhere word) name number = has_part (string_bytes word) (decimal number)
number_passes (test.OfId range) name number = is_id_name name && is_in range number
number_passes t name number = false

-- Whether one of the numbers in a field of this name passes.
abbrev pub numbers_pass : Test → List ℕ → Parts → Bool
numbers_pass t name nil = false
numbers_pass t name (cons (Number number) parts) = number_passes t name number || numbers_pass t name parts
numbers_pass t name (cons part parts) = numbers_pass t name parts

-- Whether a field of this name passes that is not a message: a text, bytes, a number or numbers.
abbrev pub scalar_passes : Test → List ℕ → FieldPart → Bool
scalar_passes t name (n, (Text, repeated), Bytes text) = text_passes t name text
scalar_passes t name (n, (ByteString, repeated), Bytes bytes) = bytes_pass t name bytes
scalar_passes t name (n, (U32, repeated), Number number) = number_passes t name number
scalar_passes t name (n, (U64, repeated), Number number) = number_passes t name number
scalar_passes t name (n, (k, repeated), Elements numbers) = numbers_pass t name numbers
scalar_passes t name field = false

-- Whether a field of a schema passes, where this decides of messages.
abbrev pub field_passes_by : (ℕ → Parts → Bool) → Test → ℕ → FieldPart → Bool
field_passes_by nested t s (n, (Message other, repeated), Nested value) = nested other value
field_passes_by nested t s field = scalar_passes t (name_of (names_of s) field.0) field

-- Whether a field of a value of a schema passes, or of those that are nested in it, over a number of levels.
abbrev pub fields_pass : Test → ℕ → ℕ → Parts → Bool
fields_pass t zero s value = false
fields_pass t (suc levels) s value = list_any (field_passes_by (fields_pass t levels) t s) (value_fields s value)

-- The same of a field.
abbrev pub field_passes : Test → ℕ → ℕ → FieldPart → Bool
field_passes t levels s field = field_passes_by (fields_pass t levels) t s field

-- Whether what an item holds passes. A payload has at most 101 levels.
abbrev pub held_passes : Test → Option Holding → Bool
held_passes t None = false
held_passes t (Some (OpaqueBytes bytes)) = bytes_pass t [] bytes
held_passes t (Some (Malformed bytes)) = bytes_pass t [] bytes
held_passes t (Some (Means s value)) = fields_pass t 101 s value

-- ---- an item

-- The kind of a message by what it is for and what it holds.
abbrev pub message_kind : Role → Option Holding → State
message_kind role (Some (OpaqueBytes bytes)) = state.Custom
message_kind role.Command held = state.Command
message_kind role.Notification held = state.Notification
message_kind role.Other held = state.Core

-- The kind of an item that holds this.
abbrev pub kind_of : Item → Option Holding → State
kind_of (item.Message message) held = message_kind (role_of message.header.ty) held
kind_of (item.Unknown code) held = state.Unknown
kind_of (item.Skipped code payload) held = state.Skipped

-- Whether an item that holds this is an error message, or a message with a failure.
abbrev pub fails : Item → Option Holding → Bool
fails (item.Message message) (Some (Means s value)) = fails_as s (value_fields s value)
fails i held = false

-- Whether an item that holds this is malformed.
abbrev pub is_malformed : Option Holding → Bool
is_malformed (Some (Malformed bytes)) = true
is_malformed held = false

-- Whether two states are the same.
abbrev pub is_same : State → State → Bool
is_same state.Command state.Command = true
is_same state.Notification state.Notification = true
is_same state.Core state.Core = true
is_same state.Custom state.Custom = true
is_same state.Unknown state.Unknown = true
is_same state.Skipped state.Skipped = true
is_same one other = false

-- Whether an item that holds this has a state.
abbrev pub has_state : Item → Option Holding → State → Bool
has_state i held state.Failure = fails i held
has_state i held state.Malformed = is_malformed held
has_state i held kind = is_same kind (kind_of i held)

-- Whether an item at a place, which holds this, passes.
abbrev pub passes : Place → Item → Option Holding → Test → Bool
passes place i held (test.Anywhere word) =
    has_word (string_bytes word) (type_text i) || held_passes (test.Anywhere word) held
passes place i held (test.Type word) = has_word (string_bytes word) (type_text i)
passes place i held (test.Name word) = held_passes (test.Name word) held
passes place i held (test.OfId range) = held_passes (test.OfId range) held
passes place i held (test.Is s) = has_state i held s
passes place i held (test.OfCommand range) = is_same state.Command (kind_of i held) && is_in range place.command
passes place i held (test.OfItem range) = is_in range place.index
passes place i held (test.OfSize range) = is_in range (item_size i)
passes place i held (test.OfOffset range) = is_in range place.offset

-- Whether it has a word.
abbrev pub has : Place → Item → Option Holding → Word → Bool
has place i held word = if word.is_without then not (passes place i held word.test) else passes place i held word.test

-- Whether it has each of the words.
abbrev pub has_all : Place → Item → Option Holding → List Word → Bool
has_all place i held [] = true
has_all place i held (word ∷ words) = has place i held word && has_all place i held words

-- Whether an item at a place has each of the words.
abbrev pub matches : List Word → Version → Place → Item → Bool
matches words version place i = has_all place i (item_held version i) words
