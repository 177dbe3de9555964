-- Commands with everything erased that is not compared.
use Rattle.std.specs.Prelude.{◌≡◌, ℕ, Bool, ◌&&◌, List, [], ◌∷◌, if◌then◌else◌}
use Rattle.std.specs.List.{list_any}
use Rattle.shared_core_wire.specs.Schema.{Kind, Row, Message, Plain, Optional, Repeated, OneOf, numbers, includes}
use Rattle.shared_core_wire.specs.Schema.{member_kind}
use Rattle.shared_core_wire.specs.Value.{Part, Parts, Absent, Nested, Elements, Member, nil, cons, default_of}
use Rattle.shared_core_wire.specs.Value.{empty_part, empty_value}
use Rattle.shared_core_codec.specs.Table.{table}
use Rattle.shared_core_compare.specs.Commands.{CommandFields, command_fields, first_part, rest_parts}

-- What a present field holds when its content is erased: a message is the empty one, anything else its default.
abbrev pub emptied : Kind → Part
emptied (Message s) = Nested (empty_value (table s))
emptied k = default_of k

-- A row's part with its payloads erased: its presence stays, and so does which member of a oneof it is.
abbrev pub without_payloads : List ℕ → Row → Part → Part
without_payloads payloads row Absent = Absent
without_payloads payloads (OneOf members) (Member n p) = Member n
    (if includes payloads n then emptied (member_kind members n) else p)
without_payloads payloads (Repeated n k) p = Elements nil
without_payloads payloads (Plain n k) p = emptied k
without_payloads payloads (Optional n k) p = emptied k
without_payloads payloads (OneOf members) p = p

-- Whether a row has one of these numbers.
abbrev pub has_any : List ℕ → Row → Bool
has_any ns row = list_any (includes ns) (numbers row)

-- A row's part with everything erased that is not compared: the whole row as if it were absent, or its payloads if
-- these are ignored.
abbrev pub erased_part : CommandFields → Bool → Row → Part → Part
erased_part fields ignore_payloads row p =
    if has_any fields.not_compared row then empty_part row
    else (if has_any fields.payloads row && ignore_payloads then without_payloads fields.payloads row p else p)

-- The same for each row's part.
abbrev pub erased_parts : CommandFields → Bool → List Row → Parts → Parts
erased_parts fields ignore_payloads [] v = nil
erased_parts fields ignore_payloads (row ∷ rows) v =
    cons (erased_part fields ignore_payloads row (first_part v))
    (erased_parts fields ignore_payloads rows (rest_parts v))

-- A command of a schema with everything erased that is not compared.
abbrev pub erased : ℕ → Bool → Parts → Parts
erased s ignore_payloads command = erased_parts (command_fields s) ignore_payloads (table s) command

-- Two commands of a schema are equal after erasure.
abbrev pub AreSame : ℕ → Bool → Parts → Parts → Type 0
AreSame s ignore_payloads a b = erased s ignore_payloads a ≡ erased s ignore_payloads b
