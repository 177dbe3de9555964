-- The members of a line by the places of their names.
use Rattle.std.specs.Prelude.{◌≡◌, ℕ, suc, false, List, [], ◌∷◌, get_or, codes, if◌then◌else◌, Option, Some, None}
use Rattle.std.specs.Str.{bytes_eq}
use Rattle.json.specs.Json.{Members, no_members}
use Rattle.json_table.specs.Places.{Say, has_several}
use Rattle.json_table.specs.declared.places.Place.{Place}

-- The names of the members that a line may have, by their places.
abbrev pub names : List (List ℕ)
names =
    codes "offset" ∷ codes "type" ∷ codes "code" ∷ codes "length" ∷ codes "requestedAck" ∷ codes "header" ∷
    codes "message" ∷ codes "bytes" ∷ codes "malformed" ∷ codes "unknown" ∷ codes "skipped" ∷ codes "rest" ∷
    codes "payload" ∷ codes "ack" ∷ []

-- How many places there are.
abbrev pub place_count : ℕ
place_count = 14

-- The name of a place.
abbrev pub name_at : ℕ → List ℕ
name_at place = get_or names place []

-- The index of the first of these names that a key is, from a number on.
abbrev pub index_in : List (List ℕ) → ℕ → List ℕ → Option ℕ
index_in [] n key = None
index_in (name ∷ names) n key = if bytes_eq key name then Some n else index_in names (suc n) key

-- The place of a key, if it is one of these names.
unfoldable pub place_of : List ℕ → Option ℕ
place_of key = index_in names 0 key

-- Each place says where the member of its name is, and no name comes twice.
pub record ArePlaces (ms : Members) (places : List Place) : Type 0 where
  pub say : Say place_of place_count ms no_members places
  pub once : has_several places ≡ false
