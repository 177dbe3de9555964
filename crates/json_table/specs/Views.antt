-- What contracts see of the program's own types.
use Rattle.std.specs.Prelude.{◌≡◌, ℕ, ◌+◌, List, ◌++◌, drop, map}
use Rattle.json.specs.Json.{Json, Items, Members}
use Rattle.json.specs.declared.tape.Node.{Node}
use Rattle.json.specs.declared.tape.Node.TheVariants.{Null, Bool, Number, String, Array, EndArray, Object}
use Rattle.json.specs.declared.tape.Node.TheVariants.{EndObject, Key}
use Rattle.json_table.specs.Entries as spec
use Rattle.json_table.specs.Entries.{members_len, value_entries, items_entries, members_entries}

-- The entry of the program.
abbrev pub entry_view : Node → spec.Entry
entry_view Null = spec.null
entry_view (Bool b) = spec.boolean b
entry_view (Number s) = spec.number s.now
entry_view (String s) = spec.string s.now
entry_view (Array end) = spec.array end
entry_view EndArray = spec.end_array
entry_view (Object end) = spec.object end
entry_view EndObject = spec.end_object
entry_view (Key s) = spec.key s.now

-- The entries of the program from a place on.
abbrev pub entries_from : ℕ → List Node → List spec.Entry
entries_from at nodes = drop at (map entry_view nodes)

-- The entries from a place on begin with those of this value.
abbrev pub BeginsValue : List Node → ℕ → Json → Type 0
BeginsValue nodes at j = (rest : List spec.Entry) × (entries_from at nodes ≡ value_entries at j ++ rest)

-- The entries from a place on begin with those of a value.
abbrev pub AreValue : List Node → ℕ → Type 0
AreValue nodes at = (j : Json) × BeginsValue nodes at j

-- The entries from a place on begin with those of these items.
abbrev pub BeginsItems : List Node → ℕ → Items → Type 0
BeginsItems nodes at js = (rest : List spec.Entry) × (entries_from at nodes ≡ items_entries at js ++ rest)

-- The entries from a place on begin with those of items.
abbrev pub AreItems : List Node → ℕ → Type 0
AreItems nodes at = (js : Items) × BeginsItems nodes at js

-- The entries from a place on, up to another one, are those of these members.
abbrev pub BeginsMembers : List Node → ℕ → ℕ → Members → Type 0
BeginsMembers nodes at end ms =
    (rest : List spec.Entry) × (entries_from at nodes ≡ members_entries at ms ++ rest) × (end ≡ at + members_len ms)

-- The entries from a place on, up to another one, are those of members.
abbrev pub AreMembers : List Node → ℕ → ℕ → Type 0
AreMembers nodes at end = (ms : Members) × BeginsMembers nodes at end ms
