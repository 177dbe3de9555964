-- Awaited ids in their order, which depends only on the set.
use Rattle.std.proofs.Common.{◌≡◌, ℕ, ◌+◌, ◌<◌, List, [], ◌∷◌, ◌++◌, length, get_or, map, codes, Bool, true, false}
use Rattle.std.proofs.Common.{◌||◌, ◌==◌, if◌then◌else◌, nat_eq, Option, Some, None, ⊎_elim, refl, sym, ap, ◌∙◌, arith}
use Rattle.std.proofs.Common.{rules}
use Rattle.std.proofs.lemmas.Bool.{cases_Bool}
use Rattle.std.proofs.lemmas.Cmp.{eq_by_cmp_equiv}
use Rattle.std.proofs.lemmas.List.Folds.{flat_map-map}
use Rattle.std.proofs.lemmas.List.{length-map}
use Rattle.std.proofs.lemmas.List.Sorted.{list_any-IsPermutation, IsPermutation-refl}
use Rattle.std.proofs.lemmas.Map.Lookups.{btree_set_from_contains, exact_bytes}
use Rattle.std.proofs.Math.ListN.{get_or-map}
use Rattle.std.proofs.lemmas.Map.Keys.{apart_from_distinct, IsDistinct-IsPermutation, sorted_from_all_adjacent}
use Rattle.std.specs.declared.cmp.Ordering.{Ordering}
use Rattle.std.specs.declared.cmp.Ordering.TheVariants.{Less, Equal, Greater}
use Rattle.std.specs.List.Sorted.{IsPermutation, IsSortedByKey, IsStrictlySortedBy}
use Rattle.std.specs.BTreeSet.{BTreeSet}
use Rattle.std.specs.Cmp.Lexicographic.{pointwise, slice_cmp, texts_ties, same_text, nat_list_cmp_total}
use Rattle.std.specs.Fmt.{decimal}
use Rattle.std.specs.HashMap.{HashMap, get, get_by}
use Rattle.std.specs.HashSet.{HashSet, IsSameSet}
use Rattle.std.specs.List.{list_any, flat_map, IsDistinct}
use Rattle.std.specs.Ordering.{eq_by_cmp, is_eq, is_lt, nat_cmp, ordering_reverse}
use Rattle.shared_core_base.specs.Error.{notification_metadata_text}
use Rattle.shared_core_base.specs.declared.error.NotificationMetadata.{NotificationMetadata}
use Rattle.shared_core_errors.specs.Awaited.{order_key, IsInOrder}
use Rattle.shared_core_errors.specs.Uncompleted.{id_text, line_text, lines_text}
use Rattle.shared_core_parts.specs.declared.notification_template.Id.{Id}
use Rattle.shared_core_parts.specs.declared.notification_template.Id.TheVariants.{CompletionId, SignalId, SignalName}
use Rattle.shared_core_parts.specs.contracts.notification_template.IdPartialEq.TheImpl as ids

abbrev id_eq : Id → Id → Bool
id_eq = ids.eq-value.it

abbrev compare_ids : Id → Id → Ordering
compare_ids a b = slice_cmp nat_cmp (order_key a) (order_key b)

-- whether two lists tie in the order of lists
abbrev is_same_key : List ℕ → List ℕ → Bool
is_same_key = eq_by_cmp (slice_cmp nat_cmp)

-- ids are equal if and only if the lists by which they are ordered are
equal_keys : (a b : Id) → id_eq a b ≡ is_same_key (order_key a) (order_key b)
equal_keys a b = by a b ∙ texts_ties (order_key a) (order_key b)
  where
    by : (a b : Id) → id_eq a b ≡ pointwise nat_eq (order_key a) (order_key b)
    by (CompletionId m) (CompletionId n) = search rules
    by (CompletionId m) (SignalName t) = refl
    by (CompletionId m) (SignalId n) = grind arith
    by (SignalName s) (CompletionId n) = refl
    by (SignalName s) (SignalName t) = search rules
    by (SignalName s) (SignalId n) = grind arith
    by (SignalId m) (CompletionId n) = grind arith
    by (SignalId m) (SignalName t) = grind arith
    by (SignalId m) (SignalId n) = grind arith

-- ---- the ids of a set are in order once they are sorted

id_eq_flips : (a b : Id) → id_eq a b ≡ id_eq b a
id_eq_flips a b = equal_keys a b ∙ (eq_by_cmp_equiv nat_list_cmp_total).symm (order_key a) (order_key b) ∙ sym
    (equal_keys b a)

-- an id that does not come after another, and differs from it, comes before it
less_from_sorted : (a b : Id) → is_lt (compare_ids b a) ≡ false → id_eq a b ≡ false → compare_ids a b ≡ Less
less_from_sorted a b after differ = by _ refl
  where
    by : (r : Ordering) → compare_ids a b ≡ r → compare_ids a b ≡ Less
    by Less e = e
    by Equal e = absurd (let no : true ≡ false = ap is_eq (sym e) ∙ sym (equal_keys a b) ∙ differ in cc)
    by Greater e =
        let flipped = nat_list_cmp_total.antisymm (order_key b) (order_key a) in
        absurd (let no : true ≡ false = ap (λ r. is_lt (ordering_reverse r)) (sym e) ∙ ap is_lt (sym flipped) ∙ after in
        cc)

-- sorted ids that differ ascend strictly
ascending : (xs : List Id) → IsSortedByKey order_key (slice_cmp nat_cmp) xs → IsDistinct id_eq xs → IsStrictlySortedBy
    (slice_cmp nat_cmp) (map order_key xs)
ascending xs sorted distinct =
    let d = CompletionId 0 in
    sorted_from_all_adjacent nat_list_cmp_total (map order_key xs) (order_key d) (λ k more.
    let within : k + 1 < length xs = omega (arith, more, length-map xs order_key) in
    let differ = apart_from_distinct id_eq xs k (k + 1) d distinct (omega arith) within in
    rw (get_or-map order_key xs k d, get_or-map order_key xs (k + 1) d)
    (less_from_sorted (get_or xs k d) (get_or xs (k + 1) d) (sorted k d (omega arith) within) differ))

pub in_order : (keys xs : List Id) → IsPermutation keys xs → IsSortedByKey order_key (slice_cmp nat_cmp) xs → IsDistinct
    id_eq keys → IsInOrder keys xs
in_order keys xs same sorted distinct = record {
  same = same;
  ascending = ascending xs sorted (IsDistinct-IsPermutation id_eq id_eq_flips keys xs same distinct);
}

-- no ids are in order
pub none_in_order : (keys xs : List Id) → length keys ≡ 0 → xs ≡ [] → IsInOrder keys xs
unfolding IsStrictlySortedBy
none_in_order [] [] none empty = record { same = IsPermutation-refl []; ascending = tt }
none_in_order [] (x ∷ xs) none empty = absurd (cc)
none_in_order (key ∷ keys) xs none empty = absurd (cc)

-- ---- sets with the same ids are in the same order

abbrev has_id : List Id → Id → Bool
has_id xs id = list_any (id_eq id) xs

abbrev has_key : List Id → List ℕ → Bool
has_key xs key = list_any (is_same_key key) (map order_key xs)

has_key_of_id : (id : Id) (xs : List Id) → has_key xs (order_key id) ≡ has_id xs id
has_key_of_id id [] = refl
has_key_of_id id (x ∷ xs) = λ i. sym (equal_keys id x) i || has_key_of_id id xs i

-- a key that a list of ids has is the key of an id
id_of_key : (key : List ℕ) (xs : List Id) → has_key xs key ≡ true → (id : Id) × (key ≡ order_key id)
id_of_key key [] e = absurd (let no : false ≡ true = e in cc)
id_of_key key (x ∷ xs) e = ⊎_elim
    (λ tie. (x, same_text key (order_key x) (sym (texts_ties key (order_key x) ∙ tie))))
    (λ no_tie. id_of_key key xs (rw no_tie at e))
    (cases_Bool (is_same_key key (order_key x)))

same_keys : (xs ys : List Id) → ((id : Id) → has_id xs id ≡ has_id ys id) → (key : List ℕ) → has_key xs key ≡ has_key ys
    key
same_keys xs ys same key = by _ _ refl refl
  where
    at_id : (id : Id) → key ≡ order_key id → has_key xs key ≡ has_key ys key
    at_id id is = rw is (has_key_of_id id xs ∙ same id ∙ sym (has_key_of_id id ys))

    by : (p q : Bool) → has_key xs key ≡ p → has_key ys key ≡ q → has_key xs key ≡ has_key ys key
    by true q e f = let found = id_of_key key xs e in at_id found.0 found.1
    by false true e f = let found = id_of_key key ys f in at_id found.0 found.1
    by false false e f = e ∙ sym f

pub same_order : {S : Type 0} (a b : HashSet Id S) → IsSameSet id_eq a b → (xs ys : List Id) → IsInOrder a.keys xs →
    IsInOrder b.keys ys
    → map order_key xs ≡ map order_key ys
same_order a b same xs ys of_a of_b =
    let ids_same : (id : Id) → has_id xs id ≡ has_id ys id =
    λ id. sym (list_any-IsPermutation (id_eq id) a.keys xs of_a.same) ∙ same id ∙ list_any-IsPermutation (id_eq id)
    b.keys ys of_b.same in
    let keys_of_a : BTreeSet (List ℕ) = record { keys = map order_key xs } in
    let keys_of_b : BTreeSet (List ℕ) = record { keys = map order_key ys } in
    btree_set_from_contains nat_list_cmp_total keys_of_a keys_of_b of_a.ascending of_b.ascending
    (same_keys xs ys ids_same) exact_bytes

-- ---- ids in the same order make the same lines

abbrev first : List ℕ → ℕ
first [] = 0
first (x ∷ xs) = x

-- the text of the id that has this key
abbrev key_text : List ℕ → List ℕ
key_text [] = []
key_text (kind ∷ rest) = if kind == 0 then codes "completion id " ++ decimal (first rest)
    else (if kind == 1 then codes "Named signal: " ++ rest
    else codes "signal [" ++ (decimal (if kind == 2 then first rest else 1) ++ codes "]"))

text_of_key : (id : Id) → id_text id ≡ key_text (order_key id)
text_of_key (CompletionId n) = refl
text_of_key (SignalName name) = refl
text_of_key (SignalId n) = ⊎_elim (λ one. let is : n ≡ 1 = grind arith in rw is refl) (λ other. rw other refl)
    (cases_Bool (n == 1))

abbrev line_with : List ℕ → Option NotificationMetadata → List ℕ
line_with text (Some known) = codes "\n - " ++ notification_metadata_text known
line_with text None = codes "\n - " ++ text

line_is : (id : Id) (known : Option NotificationMetadata) → line_text id known ≡ line_with (id_text id) known
line_is id (Some known) = refl
line_is id None = refl

module _ {S : Type 0} (metadata : HashMap Id NotificationMetadata S) where
  -- the line of the id that has this key
  abbrev key_line : List ℕ → List ℕ
  key_line key = line_with (key_text key) (get_by (λ id. is_same_key key (order_key id)) metadata)

  line_of_key : (id : Id) → line_text id (get id_eq metadata id) ≡ key_line (order_key id)
  line_of_key id = line_is id _ ∙ (λ i. line_with (text_of_key id i) (get_by (λ x. equal_keys id x i) metadata))

  lines_of_keys : (xs : List Id) → lines_text (get id_eq metadata) xs ≡ flat_map key_line (map order_key xs)
  lines_of_keys xs = (λ i. flat_map (λ id. line_of_key id i) xs) ∙ sym (flat_map-map key_line order_key xs)

  pub same_lines : (xs ys : List Id) → map order_key xs ≡ map order_key ys → lines_text (get id_eq metadata) xs ≡
      lines_text (get id_eq metadata) ys
  same_lines xs ys same = lines_of_keys xs ∙ ap (flat_map key_line) same ∙ sym (lines_of_keys ys)
