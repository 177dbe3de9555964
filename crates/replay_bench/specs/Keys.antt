-- What identifies a command within its type.
use Rattle.std.specs.Prelude.{◌≡◌, ◌⊎◌, ◌||◌, ℕ, Bool, List, [], ◌∷◌, codes, if◌then◌else◌, Option, Some, None}
use Rattle.std.specs.Option.{IsSomeAnd}
use Rattle.std.specs.Str.{bytes_eq}
use Rattle.shared_core_wire.specs.Value.{Parts, empty_value}
use Rattle.shared_core_codec.specs.Table.{table}
use Rattle.shared_core_codec.specs.Payloads.{IsAccepted, payload_meaning}
use Rattle.shared_core_message.specs.Messages.{message_schema}
use Rattle.shared_core_compare.specs.Differences.{FieldTexts, differing_fields}
use Rattle.shared_core_stream.specs.declared.encoding.raw_message.RawMessage.{RawMessage}
use Rattle.replay_bench.specs.Journals.{IsCommand}

-- Whether a field of this name identifies a command within its type: a key, the handler of a call, the id of an
-- awakeable, or a name that users give.
abbrev pub is_key_name : List ℕ → Bool
is_key_name name =
    ((bytes_eq name (codes "key") || bytes_eq name (codes "handler_name")) || bytes_eq name (codes "awakeable_id"))
    || bytes_eq name (codes "name")

-- What the first field of such a name prints in the actual command, if there is any.
abbrev pub first_key : List FieldTexts → Option (List ℕ)
first_key [] = None
first_key (field ∷ fields) = if is_key_name field.name then Some field.actual else first_key fields

-- What identifies a command of a schema within its type, of the printed fields in which it differs from an empty one.
abbrev pub key_text : ℕ → Parts → Option (List ℕ)
key_text s command = first_key (differing_fields s command (empty_value (table s)))

-- This is what identifies the command of a schema that a payload is: nothing, if it is not well-formed.
abbrev pub IsKeyOf : List ℕ → Option (List ℕ) → ℕ → Type 0
IsKeyOf payload key s =
    (IsAccepted s payload × (key ≡ key_text s (payload_meaning s payload)))
    ⊎ ((IsAccepted s payload → ⊥) × (key ≡ None))

-- The same of a command, by its type.
abbrev pub HasKey : RawMessage → Option (List ℕ) → Type 0
HasKey command key = IsCommand command → IsSomeAnd (message_schema command.header.ty) (IsKeyOf command.payload key)
