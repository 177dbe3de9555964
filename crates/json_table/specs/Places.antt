-- Where an object has the members of some names, each of which has a place.
use Rattle.std.specs.Prelude.{◌≡◌, ◌<◌, ℕ, Bool, true, false, ◌||◌, List, [], ◌∷◌, length, get_or, ◌==◌}
use Rattle.std.specs.Prelude.{if◌then◌else◌, Option, Some, None}
use Rattle.json.specs.Json.{Json, null, boolean, number, string, array, object, Members, no_members, member}
use Rattle.json_table.specs.Tails.{last_members, IsTail}
use Rattle.json_table.specs.declared.places.Place.{Place}
use Rattle.json_table.specs.declared.places.Place.TheVariants.{Absent, Once, Several}

-- The place of a key, if it is a name.
abbrev pub PlaceOf : Type 0
PlaceOf = List ℕ → Option ℕ

-- Whether a place that was found is this one.
abbrev pub is_place : Option ℕ → ℕ → Bool
is_place None n = false
is_place (Some m) n = m == n

-- The values of the members whose key has this place.
abbrev pub values_at : PlaceOf → ℕ → Members → List Json
values_at finds n no_members = []
values_at finds n (member k j ms) = if is_place (finds k) n then j ∷ values_at finds n ms else values_at finds n ms

-- A key, if it has no place; otherwise what is unknown later.
abbrev pub unknown_or : List ℕ → Option (List ℕ) → Option ℕ → Option (List ℕ)
unknown_or k later None = Some k
unknown_or k later (Some n) = later

-- The first key that is not a name.
abbrev pub first_unknown : PlaceOf → Members → Option (List ℕ)
first_unknown finds no_members = None
first_unknown finds (member k j ms) = unknown_or k (first_unknown finds ms) (finds k)

-- A place that has one more value, with which the members begin that have this many entries.
abbrev pub place_after : Place → ℕ → Place
place_after Absent n = Once n
place_after (Once m) n = Several
place_after Several n = Several

-- The value of the first member.
abbrev pub first_value : Members → Json
first_value no_members = null
first_value (member k j ms) = j

-- A place tells which values there are among these members: `all`. Of these, `rest` were not seen yet.
abbrev pub Says : Members → Place → List Json → List Json → Type 0
Says ms Absent rest all = rest ≡ all
Says ms (Once n) rest all = IsTail n ms × (first_value (last_members n ms) ∷ rest ≡ all)
Says ms Several rest all = 1 < length all

-- Each of this many places tells which values these members have there; `rest` were not seen yet.
abbrev pub Say : PlaceOf → ℕ → Members → Members → List Place → Type 0
Say finds count ms rest places = (n : ℕ) → n < count → Says ms (get_or places n Absent) (values_at finds n rest)
    (values_at finds n ms)

-- Whether a place has a value.
abbrev pub is_taken : Place → Bool
is_taken Absent = false
is_taken (Once n) = true
is_taken Several = true

-- Whether a place has several values.
abbrev pub is_several : Place → Bool
is_several Absent = false
is_several (Once n) = false
is_several Several = true

-- Whether one of these places has several values.
abbrev pub has_several : List Place → Bool
has_several [] = false
has_several (place ∷ places) = is_several place || has_several places

-- A value that is not null.
abbrev pub present : Json → Option Json
present null = None
present (boolean b) = Some (boolean b)
present (number s) = Some (number s)
present (string s) = Some (string s)
present (array js) = Some (array js)
present (object ms) = Some (object ms)
