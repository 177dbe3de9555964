-- Items counted, one after the other.
use Rattle.std.proofs.Common.{◌≡◌, ℕ, ◌+◌, ◌<◌, ◌≤◌, Bool, true, false, List, [], ◌∷◌, ◌++◌, length}
use Rattle.std.proofs.Common.{refl, sym, ap, ◌∙◌, subst, arith, length-append}
use Rattle.std.specs.Prelude.{◌^◌}
use Rattle.shared_core_base.specs.declared.version.Version.{Version}
use Rattle.shared_core_stream.specs.declared.encoding.item.Item.{Item}
use Rattle.stream_lines.specs.Printing.{item_size, items_size}
use Rattle.stream_visits.specs.Visits.{IsSmall}
use Rattle.stream_visits.proofs.Visiting.{size_more}
use Rattle.stream_summary.specs.Counts.{count_with, no_items}
use Rattle.stream_summary.specs.Laws.{count_of}
use Rattle.stream_summary.specs.Summary.{nothing_seen, seen_after, seen_by, seen_of, then_seen}
use Rattle.stream_summary.specs.Summary.{AllHaveRoom, HasRoom, Seen}
use Rattle.stream_summary.specs.declared.count.Count.{Count}
use Rattle.stream_summary.specs.declared.summary.Summary.{Summary}

-- what is known after one more item
pub after_more : (version : Version) (seen : Seen) (items : List Item) (item : Item)
    → seen_after version seen (items ++ item ∷ []) ≡ then_seen version (seen_after version seen items) item
after_more version seen [] item = refl
after_more version seen (first ∷ items) item = after_more version (then_seen version seen first) items item

pub one_more : (version : Version) (before after : Seen) (items : List Item) (item : Item)
    → after ≡ then_seen version before item → before ≡ seen_of version items
    → after ≡ seen_of version (items ++ item ∷ [])
one_more version before after items item is was =
    is ∙ ap (λ (s : Seen). then_seen version s item) was ∙ sym (after_more version nothing_seen items item)

-- No more items than these were counted, nor more bytes.
abbrev IsWithin : ℕ → ℕ → Count → Type 0
IsWithin items bytes count = (count.items ≤ items) × (count.bytes ≤ bytes)

within_with : (counted : Bool) (size items bytes : ℕ) (count : Count) → IsWithin items bytes count
    → IsWithin (items + 1) (bytes + size) (count_with counted size count)
within_with true size items bytes count within = (omega (arith, within.0), omega (arith, within.1))
within_with false size items bytes count within = (omega (arith, within.0), omega (arith, within.1))

-- Each count of what is known is within these.
abbrev AreWithinCounts : ℕ → ℕ → Seen → Type 0
AreWithinCounts items bytes seen =
    IsWithin items bytes seen.all × IsWithin items bytes seen.commands × IsWithin items bytes seen.notifications

within_then : (version : Version) (seen : Seen) (item : Item) (items bytes : ℕ) → AreWithinCounts items bytes seen
    → AreWithinCounts (items + 1) (bytes + item_size item) (then_seen version seen item)
within_then version seen item items bytes within = (
  within_with true (item_size item) items bytes seen.all within.0,
  within_with _ (item_size item) items bytes seen.commands within.1,
  within_with _ (item_size item) items bytes seen.notifications within.2,
)

within_after : (version : Version) (seen : Seen) (more : List Item) (items bytes : ℕ) (all whole : ℕ)
    → all ≡ items + length more → whole ≡ bytes + items_size more → AreWithinCounts items bytes seen
    → AreWithinCounts all whole (seen_after version seen more)
within_after version seen [] items bytes all whole one two within =
    let same : all ≡ items = omega (arith, one) in
    let also : whole ≡ bytes = omega (arith, two) in
    rw (same, also) within
within_after version seen (item ∷ more) items bytes all whole one two within =
    within_after version (then_seen version seen item) more (items + 1) (bytes + item_size item) all whole
    (omega (arith, one)) (omega (arith, two)) (within_then version seen item items bytes within)

room_of : (items bytes size : ℕ) (count : Count) → IsWithin items bytes count → items + 1 < 2 ^ 64
    → bytes + size < 2 ^ 127 → HasRoom size count
room_of items bytes size count within few small =
    (omega (arith, within.0, few), omega (arith, within.1, small))

-- few items leave room for one more
pub has_room : (version : Version) (items : List Item) (item : Item) (summary : Summary)
    → seen_by summary ≡ seen_of version items → IsSmall (items ++ item ∷ []) → AllHaveRoom (item_size item) summary
has_room version items item summary is small =
    let few : length items + 1 < 2 ^ 64 = omega (arith, small.0, length-append items (item ∷ [])) in
    let less : items_size items + item_size item < 2 ^ 127 = omega (arith, small.1, size_more items item) in
    let within : AreWithinCounts (length items) (items_size items) (seen_by summary) =
    subst (AreWithinCounts (length items) (items_size items)) (sym is)
    (within_after version nothing_seen items 0 0 (length items) (items_size items) (omega arith) (omega arith) (
      (omega arith, omega arith),
      (omega arith, omega arith),
      (omega arith, omega arith),
    )) in (
      room_of (length items) (items_size items) (item_size item) summary.all within.0 few less,
      room_of (length items) (items_size items) (item_size item) summary.commands within.1 few less,
      room_of (length items) (items_size items) (item_size item) summary.notifications within.2 few less,
    )

-- the bytes of all items are counted
bytes_after : (version : Version) (seen : Seen) (items : List Item)
    → (seen_after version seen items).all.bytes ≡ seen.all.bytes + items_size items
bytes_after version seen [] = omega arith
bytes_after version seen (item ∷ items) =
    omega (arith, bytes_after version (then_seen version seen item) items)

pub all_bytes : (version : Version) (items : List Item) (summary : Summary) → seen_by summary ≡ seen_of version items
    → summary.all.bytes ≡ items_size items
all_bytes version items summary is =
    omega (arith, ap (λ (s : Seen). s.all.bytes) is, bytes_after version nothing_seen items)

-- ---- what the counts are

-- Two counts as one.
abbrev plus : Count → Count → Count
plus one other = record { items = one.items + other.items; bytes = one.bytes + other.bytes }

-- A count of these numbers.
abbrev count : ℕ → ℕ → Count
count items bytes = record { items = items; bytes = bytes }

same_count : (items bytes more size : ℕ) → items ≡ more → bytes ≡ size
    → count items bytes ≡ count more size
same_count items bytes more size one two = rw (one, two) refl

plus_with : (counted : Bool) (size : ℕ) (one other : Count)
    → plus (count_with counted size one) other ≡ plus one (count_with counted size other)
plus_with true size one other = same_count _ _ _ _ (omega arith) (omega arith)
plus_with false size one other = refl

module _ (version : Version) (test : Item → Bool) (count_in : Seen → Count)
    (steps : (seen : Seen) (item : Item)
    → count_in (then_seen version seen item) ≡ count_with (test item) (item_size item) (count_in seen)) where
  counts_after : (seen : Seen) (items : List Item)
      → count_in (seen_after version seen items) ≡ plus (count_in seen) (count_of test items)
  counts_after seen [] = same_count _ _ _ _ (omega arith) (omega arith)
  counts_after seen (item ∷ items) =
      counts_after (then_seen version seen item) items
      ∙ ap (λ (c : Count). plus c (count_of test items)) (steps seen item)
      ∙ plus_with (test item) (item_size item) (count_in seen) (count_of test items)

  pub counts_are : count_in nothing_seen ≡ no_items → (items : List Item)
      → count_in (seen_of version items) ≡ count_of test items
  counts_are none items =
      counts_after nothing_seen items ∙ ap (λ (c : Count). plus c (count_of test items)) none
      ∙ same_count _ _ _ _ (omega arith) (omega arith)
