-- What is found at an index of a slice.
use Rattle.std.proofs.Common.{◌≡◌, ◌≤◌, ◌<◌, ℕ, List, length, Option, Some, None, Bor, refl, sym}
use Rattle.std.proofs.lemmas.Option.{slice_get_past, slice_get_read}
use Rattle.std.specs.Prelude.{option_copied, slice_get, slice_index_or, is_some, nat_lt, IfSome, IsSome, MatchOption}
use Rattle.std.specs.Prelude.{HoldsAt}

-- what `get` gives is the element, if there is one
pub looked_up : {X : Type 0} (items : List X) (i : ℕ) (found : Option (Bor X))
    → (is_some found ≡ nat_lt i (length items)) × IfSome found (λ x. x.now ≡ slice_index_or items i x.now)
    × (i < length items → IsSome found)
    × MatchOption found (length items ≤ i) (λ x. (i < length items) × HoldsAt (λ y. x.now ≡ y) items i)
    → option_copied found ≡ slice_get items i
looked_up items i None (is, value, some, past) = sym (slice_get_past items i past)
looked_up items i (Some item) (is, value, some, within) =
    sym (slice_get_read items (length items) i item.now refl within.0 value)
