-- A value of JSON as a flat list of entries, each with a place, and back.
use Rattle.std.specs.Prelude.{ℕ, suc, ◌+◌, List, [], ◌∷◌, ◌++◌, length, map, Bool, Option, Some, None}
use Rattle.json.specs.Token.{Token}
use Rattle.json.specs.Json as json
use Rattle.json.specs.Json.{Json, Items, no_items, item, Members, no_members, member, value}

-- An entry: a value without those within it, the key of a member, or a closing bracket. An array and an object have the
-- place after their closing bracket.
pub data Entry : Type 0 where
  null : Entry
  boolean : Bool → Entry
  number : List ℕ → Entry
  string : List ℕ → Entry
  array : ℕ → Entry
  end_array : Entry
  object : ℕ → Entry
  end_object : Entry
  key : List ℕ → Entry

unfoldable mutual
  -- How many entries a value has: its own, those within it, and its closing bracket.
  pub value_len : Json → ℕ
  value_len json.null = 1
  value_len (json.boolean b) = 1
  value_len (json.number s) = 1
  value_len (json.string s) = 1
  value_len (json.array js) = suc (items_len js)
  value_len (json.object ms) = suc (members_len ms)

  -- How many entries items have, with the closing bracket.
  pub items_len : Items → ℕ
  items_len no_items = 1
  items_len (item j js) = value_len j + items_len js

  -- How many entries members have, with the closing bracket.
  pub members_len : Members → ℕ
  members_len no_members = 1
  members_len (member k j ms) = suc (value_len j + members_len ms)

unfoldable mutual
  unfolding value_len

  -- The entries of a value whose first one has this place.
  pub value_entries : ℕ → Json → List Entry
  value_entries at json.null = null ∷ []
  value_entries at (json.boolean b) = boolean b ∷ []
  value_entries at (json.number s) = number s ∷ []
  value_entries at (json.string s) = string s ∷ []
  value_entries at (json.array js) = array (at + suc (items_len js)) ∷ items_entries (suc at) js
  value_entries at (json.object ms) = object (at + suc (members_len ms)) ∷ members_entries (suc at) ms

  -- The entries of items, one after the other, and of the closing bracket.
  pub items_entries : ℕ → Items → List Entry
  items_entries at no_items = end_array ∷ []
  items_entries at (item j js) = value_entries at j ++ items_entries (at + value_len j) js

  -- The entries of members, of each its key and those of its value, and of the closing bracket.
  pub members_entries : ℕ → Members → List Entry
  members_entries at no_members = end_object ∷ []
  members_entries at (member k j ms) =
      key k ∷ (value_entries (suc at) j ++ members_entries (suc at + value_len j) ms)

-- The place after a value, by its first entry and the place of that.
abbrev pub place_after : ℕ → Entry → ℕ
place_after at null = suc at
place_after at (boolean b) = suc at
place_after at (number s) = suc at
place_after at (string s) = suc at
place_after at (array end) = end
place_after at end_array = suc at
place_after at (object end) = end
place_after at end_object = suc at
place_after at (key s) = suc at

-- The token that an entry is of.
abbrev pub token_of : Entry → Token
token_of null = Token.null
token_of (boolean b) = Token.boolean b
token_of (number s) = Token.number s
token_of (string s) = Token.string s
token_of (array end) = Token.begin_array
token_of end_array = Token.end_array
token_of (object end) = Token.begin_object
token_of end_object = Token.end_object
token_of (key s) = Token.key s

-- What was read; null if nothing was.
abbrev pub value_or_null : Option (Json × List Token) → Json
value_or_null None = json.null
value_or_null (Some p) = p.0

-- The value with which tokens begin, null if there is none.
abbrev pub first_value : List Token → Json
first_value ts = value_or_null (value (length ts) ts)

-- The items of an array.
abbrev pub items_of_array : Json → Items
items_of_array json.null = no_items
items_of_array (json.boolean b) = no_items
items_of_array (json.number s) = no_items
items_of_array (json.string s) = no_items
items_of_array (json.array js) = js
items_of_array (json.object ms) = no_items

-- The members of an object.
abbrev pub members_of_object : Json → Members
members_of_object json.null = no_members
members_of_object (json.boolean b) = no_members
members_of_object (json.number s) = no_members
members_of_object (json.string s) = no_members
members_of_object (json.array js) = no_members
members_of_object (json.object ms) = ms

-- The value with which entries begin.
unfoldable pub value_of : List Entry → Json
value_of es = first_value (map token_of es)

-- The items with which entries begin.
unfoldable pub items_of : List Entry → Items
items_of es = items_of_array (first_value (Token.begin_array ∷ map token_of es))

-- The members with which entries begin.
unfoldable pub members_of : List Entry → Members
members_of es = members_of_object (first_value (Token.begin_object ∷ map token_of es))
