-- What a call that reads has done.
use Rattle.std.specs.Prelude.{◌≡◌, ℕ, List, ◌++◌, length, map, Some}
use Rattle.json.specs.Token.{Token}
use Rattle.json.specs.Json.{Json, array, object, Items, Members, value, items, members}
use Rattle.json.specs.declared.tape.Node.{Node}
use Rattle.json_table.specs.Entries.{value_entries}
use Rattle.json_table.specs.Views.{entry_view}

-- The value at the front of some tokens was read, and its entries were appended.
abbrev pub ReadsValue : ℕ → List Token → List Token → List Node → List Node → Type 0
ReadsValue depth tokens left old new =
    (j : Json) × (value depth tokens ≡ Some (j, left))
    × (map entry_view new ≡ map entry_view old ++ value_entries (length old) j)

-- The items at the front of some tokens were read, with the closing bracket, and the entries of their array appended.
abbrev pub ReadsItems : ℕ → List Token → List Token → List Node → List Node → Type 0
ReadsItems depth tokens left old new =
    (js : Items) × (items (value depth) (length tokens) tokens ≡ Some (js, left))
    × (map entry_view new ≡ map entry_view old ++ value_entries (length old) (array js))

-- The members at the front of some tokens were read, with the closing brace, and the entries of their object appended.
abbrev pub ReadsMembers : ℕ → List Token → List Token → List Node → List Node → Type 0
ReadsMembers depth tokens left old new =
    (ms : Members) × (members (value depth) (length tokens) tokens ≡ Some (ms, left))
    × (map entry_view new ≡ map entry_view old ++ value_entries (length old) (object ms))
