-- Finding the entries of fields in a table.
use Rattle.std.specs.Prelude.{ℕ, List, [], ◌∷◌, length, Option, Some, None, nat_eq, if◌then◌else◌}
use Rattle.shared_core_renumber.specs.declared.entries.Renumbering.{Renumbering}
use Rattle.shared_core_canonical.specs.declared.places.Placed.{Placed}

-- The entries from the first one of a schema on.
abbrev pub from_schema : ℕ → List Renumbering → List Renumbering
from_schema s [] = []
from_schema s (e ∷ es) = if nat_eq e.schema s then e ∷ es else from_schema s es

-- The place of an entry, which stands before some, after an entry of a group at a place.
abbrev pub place_of : ℕ → ℕ → Renumbering → List Renumbering → ℕ
place_of before place e es = if nat_eq e.group before then place else length (e ∷ es)

-- The first entry with a number among those of a schema, which are at the front, after an entry of a group at a place.
abbrev pub find_from : ℕ → ℕ → ℕ → ℕ → List Renumbering → Option (Placed Renumbering)
find_from s n before place [] = None
find_from s n before place (e ∷ es) = if nat_eq e.schema s then
    (if nat_eq e.number n then Some (record { place = place_of before place e es; value = e }) else
    find_from s n e.group (place_of before place e es) es) else None

-- The first entry with a number among those of a schema, which are at the front: only that one counts.
abbrev pub find_in : ℕ → ℕ → List Renumbering → Option (Placed Renumbering)
find_in s n es = find_from s n 0 0 es
