-- The bytes of a part encode the items that it keeps.
use Rattle.std.proofs.Common.{◌≡◌, ℕ, ◌+◌, ◌-◌, ◌≤◌, zero, suc, max, Bool, true, false, cond, is_some, List, [], ◌∷◌}
use Rattle.std.proofs.Common.{◌++◌, length, take, drop, Some, None, refl, sym, ap, ◌∙◌, subst, arith}
use Rattle.std.proofs.Common.{append-nil, append_assoc}
use Rattle.std.proofs.Math.Nat.{max-eq_left}
use Rattle.std.proofs.Math.Seq.{drop-append_seam, take-append_seam}
use Rattle.std.proofs.lemmas.List.{take-append-drop}
use Rattle.std.specs.Option.{option_map_or}
use Rattle.shared_core_base.specs.declared.version.Version.{Version}
use Rattle.shared_core_stream.specs.declared.encoding.item.Item.{Item}
use Rattle.shared_core_stream.specs.declared.encoding.item.Item.TheVariants.{Message, Unknown, Skipped}
use Rattle.shared_core_stream.specs.declared.encoding.raw_message.RawMessage.{RawMessage}
use Rattle.shared_core_stream.specs.Items.{AreItems, SplitsInto}
use Rattle.shared_core_stream.proofs.Items.{drop_exact}
use Rattle.stream_lines.specs.Printing.{items_size}
use Rattle.stream_lines.proofs.Progress.{then_long}
use Rattle.stream_parts.specs.Copying.{kept, ordered, slice}
use Rattle.stream_parts.specs.Parts.{before_command, is_command, is_start, located_in, part_of, start_of}
use Rattle.stream_parts.specs.Parts.{range_items, start_size, without_start}
use Rattle.stream_parts.specs.declared.range.Range.{Range}

sizes_join : (items others : List Item) → items_size (items ++ others) ≡ items_size items + items_size others
sizes_join [] others = omega arith
sizes_join (item ∷ items) others = omega (arith, sizes_join items others)

-- ---- the items before a command are at the front of all, and of those before a later command

begins_with : (index : ℕ) (items : List Item) → (after : List Item) × (items ≡ before_command index items ++ after)
begins_with index [] = ([], refl)
begins_with zero (item ∷ items) = by (is_command item) (begins_with zero items)
  where
    by : (b : Bool) → ((after : List Item) × (items ≡ before_command 0 items ++ after))
        → (after : List Item) × (item ∷ items ≡ cond b [] (item ∷ before_command 0 items) ++ after)
    by true next = (item ∷ items, refl)
    by false (after, is) = (after, ap (λ l. item ∷ l) is)
begins_with (suc index) (item ∷ items) = by (is_command item) (begins_with index items) (begins_with (suc index) items)
  where
    by : (b : Bool) → ((after : List Item) × (items ≡ before_command index items ++ after))
        → ((after : List Item) × (items ≡ before_command (suc index) items ++ after))
        → (after : List Item) × (item ∷ items ≡ item ∷ before_command (cond b index (suc index)) items ++ after)
    by true (after, is) next = (after, ap (λ l. item ∷ l) is)
    by false less (after, is) = (after, ap (λ l. item ∷ l) is)

grows : (from until : ℕ) (items : List Item) → from ≤ until
    → (more : List Item) × (before_command until items ≡ before_command from items ++ more)
grows from until [] order = ([], refl)
grows zero zero (item ∷ items) order = ([], sym (append-nil _))
grows zero (suc until) (item ∷ items) order = by (is_command item) (grows zero until items (omega arith))
    (grows zero (suc until) items (omega arith))
  where
    by : (b : Bool) → ((more : List Item) × (before_command until items ≡ before_command 0 items ++ more))
        → ((more : List Item) × (before_command (suc until) items ≡ before_command 0 items ++ more))
        → (more : List Item) × (item ∷ before_command (cond b until (suc until)) items
        ≡ cond b [] (item ∷ before_command 0 items) ++ more)
    by true less next = (item ∷ before_command until items, refl)
    by false less (more, is) = (more, ap (λ l. item ∷ l) is)
grows (suc from) zero (item ∷ items) order = absurd (omega (arith, order))
grows (suc from) (suc until) (item ∷ items) order = by (is_command item)
    (grows from until items (omega (arith, order))) (grows (suc from) (suc until) items order)
  where
    by : (b : Bool) → ((more : List Item) × (before_command until items ≡ before_command from items ++ more))
        → ((more : List Item) × (before_command (suc until) items ≡ before_command (suc from) items ++ more))
        → (more : List Item) × (item ∷ before_command (cond b until (suc until)) items
        ≡ item ∷ before_command (cond b from (suc from)) items ++ more)
    by true (more, is) next = (more, ap (λ l. item ∷ l) is)
    by false less (more, is) = (more, ap (λ l. item ∷ l) is)

-- ---- a run of bytes encodes a run of items

module _ (version : Version) where
  split : (front : List ℕ) (items others : List Item) → AreItems version front (items ++ others)
      → (a : List ℕ) × (b : List ℕ) × AreItems version a items × AreItems version b others × (front ≡ a ++ b)
  split front [] others are = ([], front, refl, are, refl)
  split front (item ∷ items) others (first, tail, is, are, whole) =
      let (a, b, is_a, is_b, splits) = split tail items others are in (
        first ++ a,
        b,
        (first, a, is, is_a, refl),
        is_b,
        whole ∙ ap (λ l. first ++ l) splits ∙ sym (append_assoc first a b),
      )

  join : (a b : List ℕ) (items others : List Item) → AreItems version a items → AreItems version b others
      → AreItems version (a ++ b) (items ++ others)
  join a b [] others none are = subst (λ l. AreItems version (l ++ b) others) (sym none) are
  join a b (item ∷ items) others (first, tail, is, are, whole) next = (
    first,
    tail ++ b,
    is,
    join tail b items others are next,
    ap (λ l. l ++ b) whole ∙ append_assoc first tail b,
  )

  long : (bytes : List ℕ) (items : List Item) → AreItems version bytes items → length bytes ≡ items_size items
  long bytes items are = omega (
    arith,
    then_long version bytes [] items (record { front = bytes; encoded = are; whole = sym (append-nil bytes) }),
  )

  run : (front rest : List ℕ) (before items after : List Item) → AreItems version front (before ++ (items ++ after))
      → AreItems version (slice (items_size before) (items_size before + items_size items) (front ++ rest)) items
  run front rest before items after are =
      let (a, tail, is_a, is_tail, whole) = split front before (items ++ after) are in
      let (b, c, is_b, is_c, splits) = split tail items after is_tail in
      let same : front ++ rest ≡ a ++ (b ++ (c ++ rest)) =
      ap (λ l. l ++ rest) (whole ∙ ap (λ l. a ++ l) splits) ∙ append_assoc a (b ++ c) rest
      ∙ ap (λ l. a ++ l) (append_assoc b c rest) in
      let dropped : drop (items_size before) (front ++ rest) ≡ b ++ (c ++ rest) =
      ap (drop (items_size before)) same ∙ drop_exact (items_size before) a (b ++ (c ++ rest)) (long a before is_a) in
      let count : (items_size before + items_size items) - items_size before ≡ length b =
      omega (arith, long b items is_b) in
      let taken : slice (items_size before) (items_size before + items_size items) (front ++ rest) ≡ b =
      ap (take ((items_size before + items_size items) - items_size before)) dropped
      ∙ ap (λ n. take n (b ++ (c ++ rest))) count ∙ take-append_seam b (c ++ rest) in
      subst (λ l. AreItems version l items) (sym taken) is_b

-- ---- the start message

start_item : List Item → List Item
start_item items = take (cond (is_some (start_of items)) 1 0) items

-- its size
start_long : (items : List Item)
    → items_size (start_item items) ≡ option_map_or (λ (message : RawMessage). 8 + length message.payload)
    (start_of items) 0
unfolding start_item
start_long [] = refl
start_long (Unknown code ∷ items) = refl
start_long (Skipped code payload ∷ items) = refl
start_long (Message message ∷ items) = by (is_start message.header.ty)
  where
    by : (b : Bool)
        → items_size (take (cond (is_some (cond b (Some message) None)) 1 0) (Message message ∷ items))
        ≡ option_map_or (λ (m : RawMessage). 8 + length m.payload) (cond b (Some message) None) 0
    by true = omega arith
    by false = refl

starts_with : (items : List Item) → items ≡ start_item items ++ without_start items
unfolding start_item
starts_with items = sym (take-append-drop (cond (is_some (start_of items)) 1 0) items)

-- ---- the part

module _ (version : Version) (range : Range) (stream : List ℕ) (items : List Item) (rest : List ℕ) (count : ℕ)
    (splits : SplitsInto version stream items rest) (order : range.from ≤ range.until) where
  abbrev front : List Item
  front = before_command 0 items

  -- the bytes from this offset to the first command, and those of the range, encode these items and those of the range
  two_runs : (after : ℕ) (before first : List Item) → before_command 0 items ≡ before ++ first
      → after ≡ items_size before
      → AreItems version (kept (ordered (record (part_of (located_in range items count)) { after = after })) stream)
      (first ++ range_items range items)
  two_runs after before first is at =
      let (g, grown) = grows 0 range.from items (omega arith) in
      let (w, wider) = grows range.from range.until items order in
      let (z, whole) = begins_with range.until items in
      let encoded = splits.items_then.encoded in
      let bytes = splits.items_then.front in
      let first_is : items ≡ before ++ (first ++ (g ++ (w ++ z))) =
      whole ∙ ap (λ l. l ++ z) (wider ∙ ap (λ l. l ++ w) (grown ∙ ap (λ l. l ++ g) is))
      ∙ append_assoc (((before ++ first) ++ g)) w z
      ∙ append_assoc (before ++ first) g (w ++ z)
      ∙ append_assoc before first (g ++ (w ++ z)) in
      let second_is : items ≡ before_command range.from items ++ (w ++ z) =
      whole ∙ ap (λ l. l ++ z) wider ∙ append_assoc (before_command range.from items) w z in
      let one = run version bytes rest before first (g ++ (w ++ z)) (subst (AreItems version bytes) first_is encoded) in
      let two = run version bytes rest (before_command range.from items) w z
      (subst (AreItems version bytes) second_is encoded) in
      let front_size : items_size (before_command 0 items) ≡ items_size before + items_size first =
      ap items_size is ∙ sizes_join before first in
      let from_size : items_size (before_command range.from items)
      ≡ items_size (before_command 0 items) + items_size g =
      ap items_size grown ∙ sizes_join (before_command 0 items) g in
      let until_size : items_size (before_command range.until items)
      ≡ items_size (before_command range.from items) + items_size w =
      ap items_size wider ∙ sizes_join (before_command range.from items) w in
      let one_max : max (items_size (before_command 0 items)) after ≡ items_size (before_command 0 items) =
      max-eq_left (omega (arith, at, front_size)) in
      let two_max : max (items_size (before_command range.from items)) (items_size (before_command 0 items))
      ≡ items_size (before_command range.from items) = max-eq_left (omega (arith, from_size)) in
      let three_max : max (items_size (before_command range.until items)) (items_size (before_command range.from items))
      ≡ items_size (before_command range.until items) = max-eq_left (omega (arith, until_size)) in
      let dropped : drop (length (before_command range.from items)) (before_command range.until items) ≡ w =
      ap (drop (length (before_command range.from items))) wider ∙ drop-append_seam (before_command range.from items)
      w in
      rw (one_max, two_max, three_max, dropped, front_size, until_size, at, splits.items_then.whole)
      (join version (slice (items_size before) (items_size before + items_size first) (bytes ++ rest))
      (slice (items_size (before_command range.from items)) (items_size (before_command range.from items)
      + items_size w) (bytes ++ rest)) first w one two)

  pub whole_has : AreItems version
      (kept (ordered (record (part_of (located_in range items count)) { after = 0 })) stream)
      (before_command 0 items ++ range_items range items)
  whole_has = two_runs 0 [] (before_command 0 items) refl refl

  pub part_has : AreItems version (kept (ordered (part_of (located_in range items count))) stream)
      (without_start (before_command 0 items) ++ range_items range items)
  part_has = two_runs (start_size (located_in range items count)) (start_item front) (without_start front)
      (starts_with front) (sym (start_long front))
