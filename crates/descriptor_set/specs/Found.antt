-- Where a name is found among names, by halves.
use Rattle.std.specs.Prelude.{◌≡◌, ℕ, zero, suc, ◌+◌, ◌-◌, ◌/◌, ◌<◌, nat_lt, if◌then◌else◌, List, [], length}
use Rattle.std.specs.Prelude.{Option, Some, None, slice_index_or}
use Rattle.std.specs.Cmp.Lexicographic.{slice_cmp}
use Rattle.std.specs.List.{position}
use Rattle.std.specs.Ordering.{nat_cmp}
use Rattle.std.specs.Str.{bytes_eq}
use Rattle.std.specs.declared.cmp.Ordering.{Ordering}
use Rattle.std.specs.declared.cmp.Ordering.TheVariants.{Less, Equal, Greater}

-- How names are compared: byte by byte.
abbrev pub name_cmp : List ℕ → List ℕ → Ordering
name_cmp one other = slice_cmp nat_cmp one other

-- The middle one of the places from `low` on, below `high`.
abbrev pub middle : ℕ → ℕ → ℕ
middle low high = low + (high - low) / 2

-- One of three, by an order.
abbrev pub by_order : Ordering → Option ℕ → Option ℕ → Option ℕ → Option ℕ
by_order Less less equal greater = less
by_order Equal less equal greater = equal
by_order Greater less equal greater = greater

-- The index of a name among the names from `low` on, below `high`, which are in order, after some steps at most: the
-- middle one is compared, and then the half that may have it is searched.
abbrev pub halved : ℕ → List (List ℕ) → List ℕ → ℕ → ℕ → Option ℕ
halved zero names name low high = None
halved (suc steps) names name low high =
    if nat_lt low high
    then by_order (name_cmp (slice_index_or names (middle low high) []) name)
    (halved steps names name (middle low high + 1) high) (Some (middle low high))
    (halved steps names name low (middle low high))
    else None

-- The index of a name among names in order.
abbrev pub index_of : List (List ℕ) → List ℕ → Option ℕ
index_of names name = halved (length names) names name 0 (length names)

-- Names are in order, and no two are the same.
abbrev pub AreSorted : List (List ℕ) → Type 0
AreSorted names =
    (i j : ℕ) → i < j → j < length names → name_cmp (slice_index_or names i []) (slice_index_or names j []) ≡ Less

-- The index of the first of some names that is this one.
abbrev pub first_index : List (List ℕ) → List ℕ → Option ℕ
first_index names name = position (λ one. bytes_eq one name) names
