-- Where the rows of a schema are, by the numbers of their fields.
use Rattle.std.specs.Prelude.{◌≡◌, ◌≤◌, ◌<◌, ◌+◌, ℕ, zero, suc, false, List, [], ◌∷◌, ◌++◌, map, length, take, Vec}
use Rattle.std.specs.List.{All}
use Rattle.std.specs.List.Sorted.{IsNonDecreasingBy}
use Rattle.std.specs.declared.alloc.Global.{Global}
use Rattle.shared_core_wire.specs.Schema.{Row, all_numbers, includes, numbers, table_of}
use Rattle.shared_core_codec.specs.declared.row_index.NumberPlace.{NumberPlace}

-- A place is at most the number of rows, and none of the rows before it has a field number.
abbrev pub LackUpTo : List Row → ℕ → ℕ → Type 0
LackUpTo rows place n = (place ≤ length rows) × (includes (all_numbers (take place rows)) n ≡ false)

-- Numbers with the place of their row.
abbrev pub places_of : ℕ → List ℕ → List NumberPlace
places_of place [] = []
places_of place (n ∷ ns) = record { number = n; place = place } ∷ places_of place ns

-- The numbers of some rows, which begin at a place, with their places.
abbrev pub places_from : ℕ → List Row → List NumberPlace
places_from place [] = []
places_from place (row ∷ rows) = places_of place (numbers row) ++ places_from (place + 1) rows

-- An index of rows: its numbers do not fall, none of the rows before a place has the number, and if it is not empty, it
-- has each number of the rows.
abbrev pub IsIndex : List Row → List NumberPlace → Type 0
IsIndex rows index =
    IsNonDecreasingBy (λ one. one.number) index
    × (All (λ one. LackUpTo rows one.place one.number) index
    × ((n : ℕ) → 0 < length index → includes (map (λ one. one.number) index) n ≡ false
    → includes (all_numbers rows) n ≡ false))

-- The index of a schema; it is empty past the last one.
abbrev pub index_at : List (Vec NumberPlace Global) → ℕ → List NumberPlace
index_at [] s = []
index_at (index ∷ indexes) zero = index.items
index_at (index ∷ indexes) (suc s) = index_at indexes s

-- Each is an index of the rows of its schema.
abbrev pub AreIndexes : List (List Row) → List (Vec NumberPlace Global) → Type 0
AreIndexes schemas indexes = (s : ℕ) → IsIndex (table_of schemas s) (index_at indexes s)
