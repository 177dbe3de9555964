-- Items counted, and those before a command, where one item more comes.
use Rattle.std.proofs.Common.{◌≡◌, ℕ, ◌+◌, ◌<◌, ◌≤◌, zero, suc, Bool, true, false, cond, List, [], ◌∷◌, ◌++◌}
use Rattle.std.proofs.Common.{refl, sym, ap, ◌∙◌, subst, arith, zero-add}
use Rattle.std.specs.Prelude.{count_by, nat_le, ◌==◌, ◌&&◌, ◌-◌, ◌^◌, Option, None}
use Rattle.shared_core_stream.specs.declared.encoding.raw_message.RawMessage.{RawMessage}
use Rattle.std.proofs.lemmas.Bool.{leb-true, leb-false, ne_eqb}
use Rattle.std.proofs.lemmas.List.Sums.{count_by-le-length, sum_by-append, sum_by-cons}
use Rattle.shared_core_stream.specs.declared.encoding.item.Item.{Item}
use Rattle.stream_lines.specs.Printing.{item_size, items_size}
use Rattle.stream_parts.specs.declared.located.Located.{Located}
use Rattle.stream_parts.specs.declared.located.Totals.{Totals}
use Rattle.stream_parts.specs.declared.range.Range.{Range}
use Rattle.stream_parts.specs.Parts.{before_command, is_command, is_entry, located_in, start_of, start_of_item, IsSmall}
use Rattle.stream_parts.specs.Parts.{totals_of, totals_with}

-- the size of one item more
pub size_more : (items : List Item) (item : Item)
    → items_size (items ++ item ∷ []) ≡ items_size items + item_size item
size_more [] item = omega arith
size_more (first ∷ items) item = omega (arith, size_more items item)

-- a count of one item more
pub count_more : (p : Item → Bool) (items : List Item) (item : Item)
    → count_by p (items ++ item ∷ []) ≡ count_by p items + cond (p item) 1 0
count_more p items item =
    sum_by-append (λ x. cond (p x) 1 0) items (item ∷ [])
    ∙ ap (λ n. count_by p items + n) (zero-add (cond (p item) 1 0))

-- a count of items, the first one apart
count_cons : (p : Item → Bool) (item : Item) (items : List Item)
    → count_by p (item ∷ items) ≡ cond (p item) 1 0 + count_by p items
count_cons p item items = sum_by-cons (λ x. cond (p x) 1 0) item items

-- where there are no more commands than the index, all items are before that command
pub all_before : (index : ℕ) (items : List Item) → count_by is_command items ≤ index
    → before_command index items ≡ items
all_before index [] few = refl
all_before zero (item ∷ items) few =
    by (is_command item) (all_before zero items) (subst (λ n. n ≤ 0) (count_cons is_command item items) few)
  where
    by : (b : Bool) → (count_by is_command items ≤ 0 → before_command 0 items ≡ items)
        → cond b 1 0 + count_by is_command items ≤ 0
        → cond b [] (item ∷ before_command 0 items) ≡ item ∷ items
    by true next few = absurd (omega (arith, few))
    by false next few = ap (λ l. item ∷ l) (next (omega (arith, few)))
all_before (suc index) (item ∷ items) few =
    by (is_command item) (all_before index items) (all_before (suc index) items)
    (subst (λ n. n ≤ suc index) (count_cons is_command item items) few)
  where
    by : (b : Bool) → (count_by is_command items ≤ index → before_command index items ≡ items)
        → (count_by is_command items ≤ suc index → before_command (suc index) items ≡ items)
        → cond b 1 0 + count_by is_command items ≤ suc index
        → item ∷ before_command (cond b index (suc index)) items ≡ item ∷ items
    by true less next few = ap (λ l. item ∷ l) (less (omega (arith, few)))
    by false less next few = ap (λ l. item ∷ l) (next (omega (arith, few)))

-- where there are more, one item more changes nothing
pub stays_before : (index : ℕ) (items : List Item) (item : Item) → index < count_by is_command (items ++ item ∷ [])
    → before_command index (items ++ item ∷ []) ≡ before_command index items
stays_before zero [] item more = by (is_command item) more
  where
    by : (b : Bool) → 0 < 0 + cond b 1 0 → cond b [] (item ∷ []) ≡ []
    by true more = refl
    by false more = absurd (omega (arith, more))
stays_before (suc index) [] item more = by (is_command item) more
  where
    by : (b : Bool) → suc index < 0 + cond b 1 0 → before_command (suc index) (item ∷ []) ≡ []
    by true more = absurd (omega (arith, more))
    by false more = absurd (omega (arith, more))
stays_before zero (first ∷ items) item more =
    by (is_command first) (stays_before zero items item)
    (subst (λ n. 0 < n) (count_cons is_command first (items ++ item ∷ [])) more)
  where
    by : (b : Bool) → (0 < count_by is_command (items ++ item ∷ [])
        → before_command 0 (items ++ item ∷ []) ≡ before_command 0 items)
        → 0 < cond b 1 0 + count_by is_command (items ++ item ∷ [])
        → cond b [] (first ∷ before_command 0 (items ++ item ∷ [])) ≡ cond b [] (first ∷ before_command 0 items)
    by true next more = refl
    by false next more = ap (λ l. first ∷ l) (next (omega (arith, more)))
stays_before (suc index) (first ∷ items) item more =
    by (is_command first) (stays_before index items item) (stays_before (suc index) items item)
    (subst (λ n. suc index < n) (count_cons is_command first (items ++ item ∷ [])) more)
  where
    by : (b : Bool) → (index < count_by is_command (items ++ item ∷ [])
        → before_command index (items ++ item ∷ []) ≡ before_command index items)
        → (suc index < count_by is_command (items ++ item ∷ [])
        → before_command (suc index) (items ++ item ∷ []) ≡ before_command (suc index) items)
        → suc index < cond b 1 0 + count_by is_command (items ++ item ∷ [])
        → first ∷ before_command (cond b index (suc index)) (items ++ item ∷ [])
        ≡ first ∷ before_command (cond b index (suc index)) items
    by true less next more = ap (λ l. first ∷ l) (less (omega (arith, more)))
    by false less next more = ap (λ l. first ∷ l) (next (omega (arith, more)))

-- the items before a command, with one item more
pub before_more : (index : ℕ) (items : List Item) (item : Item)
    → before_command index (items ++ item ∷ [])
    ≡ cond (nat_le (count_by is_command (items ++ item ∷ [])) index) (items ++ item ∷ []) (before_command index items)
before_more index items item = by (nat_le (count_by is_command (items ++ item ∷ [])) index) refl
  where
    by : (b : Bool) → nat_le (count_by is_command (items ++ item ∷ [])) index ≡ b
        → before_command index (items ++ item ∷ [])
        ≡ cond (nat_le (count_by is_command (items ++ item ∷ [])) index) (items ++ item ∷ [])
        (before_command index items)
    by true is = rw is (all_before index (items ++ item ∷ []) (leb-true _ _ is))
    by false is = rw is (stays_before index items item (leb-false _ _ is))

-- what items amount to, with one item more
pub totals_more : (items : List Item) (item : Item)
    → totals_of (items ++ item ∷ []) ≡ totals_with (totals_of items) item
totals_more items item =
    let more = items ++ item ∷ [] in
    let commands : count_by is_command more ≡ count_by is_command items + cond (is_command item) 1 0 =
    count_more is_command items item in
    let entries : count_by is_entry more ≡ count_by is_entry items + cond (is_entry item) 1 0 =
    count_more is_entry items item in
    ap (λ n. totals n (count_by is_entry more) (items_size more)) commands
    ∙ ap (λ n. totals (count_by is_command items + cond (is_command item) 1 0) n (items_size more)) entries
    ∙ ap (totals (count_by is_command items + cond (is_command item) 1 0)
    (count_by is_entry items + cond (is_entry item) 1 0)) (size_more items item)
  where
    totals : ℕ → ℕ → ℕ → Totals
    totals commands entries size = record { commands = commands; entries = entries; size = size }

-- what the items before a command amount to, with one item more
pub before_with : (index : ℕ) (items : List Item) (item : Item) (all before : Totals)
    → all ≡ totals_with (totals_of items) item → before ≡ totals_of (before_command index items)
    → cond (nat_le all.commands index) all before ≡ totals_of (before_command index (items ++ item ∷ []))
before_with index items item all before is was =
    let more = items ++ item ∷ [] in
    ap (λ (a : Totals). cond (nat_le a.commands index) a before) (is ∙ sym (totals_more items item))
    ∙ ap (λ (b : Totals). cond (nat_le (count_by is_command more) index) (totals_of more) b) was
    ∙ by (nat_le (count_by is_command more) index)
    ∙ sym (ap totals_of (before_more index items item))
  where
    by : (b : Bool)
        → cond b (totals_of (items ++ item ∷ [])) (totals_of (before_command index items))
        ≡ totals_of (cond b (items ++ item ∷ []) (before_command index items))
    by true = refl
    by false = refl

-- the start message, with one item more
pub start_more : (items : List Item) (item : Item)
    → cond (items_size items == 0 && count_by is_command (items ++ item ∷ []) == 0) (start_of_item item)
    (start_of (before_command 0 items)) ≡ start_of (before_command 0 (items ++ item ∷ []))
start_more [] item = by (is_command item)
  where
    by : (b : Bool) → cond (0 + cond b 1 0 == 0) (start_of_item item) None ≡ start_of (cond b [] (item ∷ []))
    by true = refl
    by false = refl
start_more (first ∷ items) item =
    rw (ne_eqb (item_size first + items_size items) 0 (omega arith)) (by (is_command first))
  where
    by : (b : Bool)
        → start_of (cond b [] (first ∷ before_command 0 items))
        ≡ start_of (cond b [] (first ∷ before_command 0 (items ++ item ∷ [])))
    by true = refl
    by false = refl

-- what is located, of these parts
abbrev located : Option RawMessage → Totals → Totals → Totals → Totals → ℕ → Located
located start front from until all rest =
    record { start = start; front = front; from = from; until = until; all = all; rest = rest }

-- what was located, with one item more
abbrev pub located_with : Range → Located → Item → Located
located_with range before item = record {
  start = cond (before.all.size == 0 && (totals_with before.all item).commands == 0) (start_of_item item) before.start;
  front = cond (nat_le (totals_with before.all item).commands 0) (totals_with before.all item) before.front;
  from = cond (nat_le (totals_with before.all item).commands range.from) (totals_with before.all item) before.from;
  until = cond (nat_le (totals_with before.all item).commands range.until) (totals_with before.all item) before.until;
  all = totals_with before.all item;
  rest = before.rest;
}

-- where a range is among items, with one item more
pub noted : (range : Range) (items : List Item) (item : Item) (before after : Located)
    → before ≡ located_in range items 0 → after ≡ located_with range before item
    → after ≡ located_in range (items ++ item ∷ []) 0
noted range items item before after was is =
    let more = items ++ item ∷ [] in
    let with = totals_with before.all item in
    let all : with ≡ totals_with (totals_of items) item = ap (λ (l : Located). totals_with l.all item) was in
    let start : cond (before.all.size == 0 && with.commands == 0) (start_of_item item) before.start
    ≡ start_of (before_command 0 more) =
    ap (λ (l : Located). cond (l.all.size == 0 && (totals_with l.all item).commands == 0) (start_of_item item) l.start)
    was
    ∙ ap (λ n. cond (items_size items == 0 && n == 0) (start_of_item item) (start_of (before_command 0 items)))
    (sym (count_more is_command items item))
    ∙ start_more items item in
    let front = before_with 0 items item with before.front all (ap (λ (l : Located). l.front) was) in
    let from = before_with range.from items item with before.from all (ap (λ (l : Located). l.from) was) in
    let until = before_with range.until items item with before.until all (ap (λ (l : Located). l.until) was) in
    let every : with ≡ totals_of more = all ∙ sym (totals_more items item) in
    is
    ∙ ap (λ s. located s (located_with range before item).front (located_with range before item).from
    (located_with range before item).until with before.rest) start
    ∙ ap (λ t. located (start_of (before_command 0 more)) t (located_with range before item).from
    (located_with range before item).until with before.rest) front
    ∙ ap (λ t. located (start_of (before_command 0 more)) (totals_of (before_command 0 more)) t
    (located_with range before item).until with before.rest) from
    ∙ ap (λ t. located (start_of (before_command 0 more)) (totals_of (before_command 0 more))
    (totals_of (before_command range.from more)) t with before.rest) until
    ∙ ap (λ t. located (start_of (before_command 0 more)) (totals_of (before_command 0 more))
    (totals_of (before_command range.from more)) (totals_of (before_command range.until more)) t before.rest) every
    ∙ ap (located (start_of (before_command 0 more)) (totals_of (before_command 0 more))
    (totals_of (before_command range.from more)) (totals_of (before_command range.until more)) (totals_of more))
    (ap (λ (l : Located). l.rest) was)

-- so few items have room for one more
pub has_room : (items : List Item) (totals : Totals) → totals ≡ totals_of items → IsSmall items
    → (totals.commands < 2 ^ 64 - 1) × (totals.entries < 2 ^ 64 - 1) × (totals.size < 2 ^ 127)
has_room items totals is small = rw is (
  omega (arith, small.0, count_by-le-length is_command items),
  omega (arith, small.0, count_by-le-length is_entry items),
  small.1,
)
