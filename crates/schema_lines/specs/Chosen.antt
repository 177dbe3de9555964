-- Which message of a set the payloads of a type are read by: the one of its name, unless that says another code.
use Rattle.std.specs.Prelude.{ℕ, Bool, true, false, not, ◌&&◌, ◌||◌, ◌==◌, nat_lt, if◌then◌else◌, List, [], ◌∷◌}
use Rattle.std.specs.Prelude.{Option, Some, None}
use Rattle.schema_lines.specs.declared.codes.Saying.{Saying}

-- What a code is of: the core, commands, notifications, or nothing.
abbrev pub kind_of : ℕ → ℕ
kind_of code =
    if nat_lt code 0x400 then 0 else (if nat_lt code 0x8000 then 1 else (if nat_lt code 0xFC00 then 2 else 3))

-- Whether a message says a code.
abbrev pub says : List Saying → ℕ → ℕ → Bool
says [] message code = false
says (saying ∷ rest) message code =
    if saying.message == message && saying.code == code then true else says rest message code

-- Whether a message says a code of this one's kind.
abbrev pub says_kind : List Saying → ℕ → ℕ → Bool
says_kind [] message code = false
says_kind (saying ∷ rest) message code =
    if saying.message == message && kind_of saying.code == kind_of code then true else says_kind rest message code

-- The first message that says a code.
abbrev pub first_saying : List Saying → ℕ → Option ℕ
first_saying [] code = None
first_saying (saying ∷ rest) code = if saying.code == code then Some saying.message else first_saying rest code

-- The message for a type of this code. One may have the name of the type.
abbrev pub chosen : List Saying → Option ℕ → ℕ → Option ℕ
chosen said None code = first_saying said code
chosen said (Some named) code =
    if says said named code || not (says_kind said named code) then Some named else first_saying said code

-- The message for a schema. Only a type has a code.
abbrev pub choice : List Saying → Option ℕ → Option ℕ → Option ℕ
choice said None named = named
choice said (Some code) named = chosen said named code

-- The messages for schemas with these codes, each with the one of its name.
abbrev pub choices : List Saying → List (Option ℕ) → List (Option ℕ) → List (Option ℕ)
choices said [] named = []
choices said (code ∷ codes) [] = []
choices said (code ∷ codes) (first ∷ named) = choice said code first ∷ choices said codes named
