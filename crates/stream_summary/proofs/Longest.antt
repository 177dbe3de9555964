-- The three longest payloads, where one item more comes.
use Rattle.std.proofs.Common.{◌≡◌, ℕ, ◌+◌, ◌<◌, ◌≤◌, Bool, true, false, cond, List, [], ◌∷◌, ◌++◌, length}
use Rattle.std.proofs.Common.{refl, sym, ap, ◌∙◌, subst, arith, length-append, append_assoc, append-nil}
use Rattle.std.proofs.Common.{⊎_elim, inl, inr}
use Rattle.std.specs.Prelude.{nat_le}
use Rattle.std.proofs.lemmas.Bool.{leb-true, leb-false}
use Rattle.shared_core_base.specs.declared.version.Version.{Version}
use Rattle.shared_core_stream.specs.declared.encoding.item.Item.{Item}
use Rattle.shared_core_stream.specs.Limits.{payload_length}
use Rattle.show_lines.specs.Lines.{item_name}
use Rattle.stream_summary.specs.Largest.{largest_with, nothing_large, Long, Longest}
use Rattle.stream_summary.specs.Laws.{count_longer, AreLongest, IsOneOf}
use Rattle.stream_summary.specs.Summary.{nothing_seen, seen_after, seen_of, then_seen, Seen}

-- ---- how many payloads are longer

one_at_most : (b : Bool) → cond b 0 1 ≤ 1
one_at_most true = omega arith
one_at_most false = omega arith

longer_more : (size : ℕ) (items : List Item) (item : Item)
    → count_longer size (items ++ item ∷ [])
    ≡ count_longer size items + cond (nat_le (payload_length item) size) 0 1
longer_more size [] item = omega arith
longer_more size (first ∷ items) item = omega (arith, longer_more size items item)

-- one that is not longer counts for nothing
within : (size most : ℕ) (items : List Item) (item : Item) → payload_length item ≤ size
    → count_longer size items ≤ most → count_longer size (items ++ item ∷ []) ≤ most
within size most items item short few =
    by (nat_le (payload_length item) size) refl (longer_more size items item)
  where
    by : (b : Bool) → nat_le (payload_length item) size ≡ b
        → count_longer size (items ++ item ∷ []) ≡ count_longer size items + cond b 0 1
        → count_longer size (items ++ item ∷ []) ≤ most
    by true is more = omega (arith, more, few)
    by false is more = absurd (omega (arith, short, leb-false _ _ is))

-- any other for one
one_more : (size most : ℕ) (items : List Item) (item : Item) → count_longer size items ≤ most
    → count_longer size (items ++ item ∷ []) ≤ most + 1
one_more size most items item few =
    omega (arith, longer_more size items item, one_at_most (nat_le (payload_length item) size), few)

-- fewer are longer than more
fewer : (small large : ℕ) (items : List Item) → small ≤ large → count_longer large items ≤ count_longer small items
fewer small large [] least = omega arith
fewer small large (item ∷ items) least =
    by (nat_le (payload_length item) small) (nat_le (payload_length item) large) refl refl
    (fewer small large items least)
  where
    by : (b d : Bool) → nat_le (payload_length item) small ≡ b → nat_le (payload_length item) large ≡ d
        → count_longer large items ≤ count_longer small items
        → cond d 0 1 + count_longer large items ≤ cond b 0 1 + count_longer small items
    by true true is also rest = omega (arith, rest)
    by false true is also rest = omega (arith, rest)
    by false false is also rest = omega (arith, rest)
    by true false is also rest = absurd (omega (arith, least, leb-true _ _ is, leb-false _ _ also))

-- ---- of which items they are

still_one : (version : Version) (items : List Item) (item : Item) (long : Long) → IsOneOf version items long
    → IsOneOf version (items ++ item ∷ []) long
still_one version items item long one = ⊎_elim (λ none. inl none)
    (λ found. let (before, other, after, is, same) = found in
    inr (
      before,
      other,
      after ++ item ∷ [],
      ap (λ (l : List Item). l ++ item ∷ []) is
          ∙ append_assoc before (other ∷ after) (item ∷ []),
      same,
    )) one

module _ (version : Version) (items : List Item) (item : Item) (longest : Longest)
    (are : AreLongest version items longest) where
  -- what comes
  abbrev coming : Long
  coming = record { size = payload_length item; text = item_name version (length items) item }

  new_one : IsOneOf version (items ++ item ∷ []) coming
  new_one = inr (items, item, [], refl, refl)

  -- the three, by the place of what comes
  stays : payload_length item ≤ longest.third.size → AreLongest version (items ++ item ∷ []) longest
  stays short = record {
    first = still_one version items item longest.first are.first;
    second = still_one version items item longest.second are.second;
    third = still_one version items item longest.third are.third;
    first_two = are.first_two;
    last_two = are.last_two;
    none_longer = within longest.first.size 0 items item (omega (arith, short, are.first_two, are.last_two))
        are.none_longer;
    one_longer = within longest.second.size 1 items item (omega (arith, short, are.last_two)) are.one_longer;
    two_longer = within longest.third.size 2 items item short are.two_longer;
  }

  comes_third : longest.third.size < payload_length item → payload_length item ≤ longest.second.size
      → AreLongest version (items ++ item ∷ [])
      (record { first = longest.first; second = longest.second; third = coming })
  comes_third long short = record {
    first = still_one version items item longest.first are.first;
    second = still_one version items item longest.second are.second;
    third = new_one;
    first_two = are.first_two;
    last_two = short;
    none_longer = within longest.first.size 0 items item (omega (arith, short, are.first_two)) are.none_longer;
    one_longer = within longest.second.size 1 items item short are.one_longer;
    two_longer = within (payload_length item) 2 items item (omega arith)
        (omega (arith, fewer longest.third.size (payload_length item) items (omega (arith, long)), are.two_longer));
  }

  comes_second : longest.second.size < payload_length item → payload_length item ≤ longest.first.size
      → AreLongest version (items ++ item ∷ [])
      (record { first = longest.first; second = coming; third = longest.second })
  comes_second long short = record {
    first = still_one version items item longest.first are.first;
    second = new_one;
    third = still_one version items item longest.second are.second;
    first_two = short;
    last_two = omega (arith, long);
    none_longer = within longest.first.size 0 items item short are.none_longer;
    one_longer = within (payload_length item) 1 items item (omega arith)
        (omega (arith, fewer longest.second.size (payload_length item) items (omega (arith, long)), are.one_longer));
    two_longer = one_more longest.second.size 1 items item are.one_longer;
  }

  comes_first : longest.first.size < payload_length item
      → AreLongest version (items ++ item ∷ [])
      (record { first = coming; second = longest.first; third = longest.second })
  comes_first long = record {
    first = new_one;
    second = still_one version items item longest.first are.first;
    third = still_one version items item longest.second are.second;
    first_two = omega (arith, long);
    last_two = are.first_two;
    none_longer = within (payload_length item) 0 items item (omega arith)
        (omega (arith, fewer longest.first.size (payload_length item) items (omega (arith, long)), are.none_longer));
    one_longer = one_more longest.first.size 0 items item are.none_longer;
    two_longer = one_more longest.second.size 1 items item are.one_longer;
  }

  with_more : AreLongest version (items ++ item ∷ []) (largest_with coming longest)
  with_more = by (nat_le (payload_length item) longest.third.size) (nat_le (payload_length item) longest.second.size)
      (nat_le (payload_length item) longest.first.size) refl refl refl
    where
      by : (c b a : Bool) → nat_le (payload_length item) longest.third.size ≡ c
          → nat_le (payload_length item) longest.second.size ≡ b → nat_le (payload_length item) longest.first.size ≡ a
          → AreLongest version (items ++ item ∷ []) (cond c longest
          (cond b (record { first = longest.first; second = longest.second; third = coming })
          (cond a (record { first = longest.first; second = coming; third = longest.second })
          (record { first = coming; second = longest.first; third = longest.second }))))
      by true b a is also last = stays (leb-true _ _ is)
      by false true a is also last = comes_third (leb-false _ _ is) (leb-true _ _ also)
      by false false true is also last = comes_second (leb-false _ _ also) (leb-true _ _ last)
      by false false false is also last = comes_first (leb-false _ _ last)

-- ---- of all items

nothing_yet : (version : Version) → AreLongest version [] nothing_large
nothing_yet version = record {
  first = inl refl;
  second = inl refl;
  third = inl refl;
  first_two = omega arith;
  last_two = omega arith;
  none_longer = omega arith;
  one_longer = omega arith;
  two_longer = omega arith;
}

after : (version : Version) (done items : List Item) (seen : Seen) → seen.all.items ≡ length done
    → AreLongest version done seen.largest → AreLongest version (done ++ items) (seen_after version seen items).largest
after version done [] seen counted are = subst (λ (l : List Item). AreLongest version l seen.largest)
    (sym (append-nil done)) are
after version done (item ∷ items) seen counted are =
    subst (λ (l : List Item). AreLongest version l (seen_after version (then_seen version seen item) items).largest)
    (append_assoc done (item ∷ []) items)
    (after version (done ++ item ∷ []) items (then_seen version seen item)
    (omega (arith, counted, length-append done (item ∷ [])))
    (subst (λ n. AreLongest version (done ++ item ∷ [])
    (largest_with (record { size = payload_length item; text = item_name version n item }) seen.largest)) (sym counted)
    (with_more version done item seen.largest are)))

pub are_longest : (version : Version) (items : List Item)
    → AreLongest version items (seen_of version items).largest
are_longest version items = after version [] items nothing_seen refl (nothing_yet version)
