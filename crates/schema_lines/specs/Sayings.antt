-- The codes that messages of a set say.
use Rattle.std.specs.Prelude.{ℕ, ◌+◌, Bool, true, false, ◌||◌, nat_lt, if◌then◌else◌, List, [], ◌∷◌, ◌++◌}
use Rattle.std.specs.Prelude.{Option, Some, None}
use Rattle.std.specs.List.{list_any}
use Rattle.std.specs.Option.{is_none, unwrap_or}
use Rattle.descriptor_set.specs.declared.codes.SaidCode.{SaidCode}
use Rattle.descriptor_set.specs.declared.set.MessageDescriptor.{MessageDescriptor}
use Rattle.schema_lines.specs.declared.codes.Saying.{Saying}
use Rattle.schema_lines.specs.Chosen.{says}
use Rattle.schema_lines.specs.MessageNames.{message_codes}

-- The code that is said, whose second number is hexadecimal, or else decimal if it can be.
abbrev pub code_by : Bool → SaidCode → ℕ
code_by true said = said.hexadecimal
code_by false said = unwrap_or said.decimal said.hexadecimal

-- The codes that the message of an index says.
abbrev pub said_by : Bool → ℕ → List SaidCode → List Saying
said_by is_hexadecimal index [] = []
said_by is_hexadecimal index (said ∷ rest) =
    record { message = index; code = code_by is_hexadecimal said } ∷ said_by is_hexadecimal index rest

-- The codes that messages from an index on say, in their order.
abbrev pub said_from : Bool → ℕ → List MessageDescriptor → List Saying
said_from is_hexadecimal index [] = []
said_from is_hexadecimal index (message ∷ rest) =
    said_by is_hexadecimal index message.codes.items ++ said_from is_hexadecimal (index + 1) rest

-- Whether a second number of a message has a hexadecimal digit above 9, and whether one of some messages has.
abbrev pub has_letter : MessageDescriptor → Bool
has_letter message = list_any (λ said. is_none said.decimal) message.codes.items

abbrev pub has_letters : List MessageDescriptor → Bool
has_letters messages = list_any has_letter messages

-- Whether a message with a name of the protocol says the code of its type.
abbrev pub is_same : List Saying → Option ℕ → Option ℕ → Bool
is_same sayings None code = false
is_same sayings (Some message) None = false
is_same sayings (Some message) (Some code) = says sayings message code

-- How many of these do.
abbrev pub same_count : List Saying → List (Option ℕ) → List (Option ℕ) → ℕ
same_count sayings [] codes = 0
same_count sayings (message ∷ named) [] = 0
same_count sayings (message ∷ named) (code ∷ codes) =
    (if is_same sayings message code then 1 else 0) + same_count sayings named codes

-- Whether second numbers are hexadecimal: one of them has a digit above 9, or more of the messages with a name of the
-- protocol have the codes of their types then.
abbrev pub is_hexadecimal : List MessageDescriptor → List (Option ℕ) → Bool
is_hexadecimal messages named =
    has_letters messages
    || nat_lt (same_count (said_from false 0 messages) named message_codes)
    (same_count (said_from true 0 messages) named message_codes)

-- The codes that the messages of a set say, by those that have a name of the protocol.
unfoldable pub sayings_of : List MessageDescriptor → List (Option ℕ) → List Saying
sayings_of messages named = said_from (is_hexadecimal messages named) 0 messages
