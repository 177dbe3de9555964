-- The order of awaited ids.
use Rattle.std.specs.Prelude.{ℕ, List, [], ◌∷◌, ◌==◌, if◌then◌else◌, map}
use Rattle.std.specs.Cmp.Lexicographic.{slice_cmp}
use Rattle.std.specs.List.Sorted.{IsPermutation, IsStrictlySortedBy}
use Rattle.std.specs.Ordering.{nat_cmp}
use Rattle.std.specs.String.{string_bytes}
use Rattle.shared_core_parts.specs.declared.notification_template.Id.{Id}
use Rattle.shared_core_parts.specs.declared.notification_template.Id.TheVariants.{CompletionId, SignalId, SignalName}

-- Signals are ordered by these lists: by their ids, with signal 1, which cancels, after all others.
abbrev pub signal_key : ℕ → List ℕ
signal_key id = if id == 1 then 3 ∷ [] else 2 ∷ id ∷ []

-- Ids are ordered by these lists: completions by their ids, then named signals by the bytes of their names, then
-- signals.
abbrev pub order_key : Id → List ℕ
order_key (CompletionId id) = 0 ∷ id ∷ []
order_key (SignalName name) = 1 ∷ string_bytes name
order_key (SignalId id) = signal_key id

-- The second list has the ids of the first, in the order in which they print.
pub record IsInOrder (ids ordered : List Id) : Type 0 where
  pub same : IsPermutation ids ordered
  pub ascending : IsStrictlySortedBy (slice_cmp nat_cmp) (map order_key ordered)
