-- Items and members that are read one by one.
use Rattle.std.proofs.Common.{◌≡◌, ℕ, suc, ◌+◌, List, [], ◌∷◌, ◌++◌, length, Option, Some, None, append_assoc}
use Rattle.std.proofs.Common.{append-nil}
use Rattle.std.proofs.Common.{refl, sym, ap, ◌∙◌, arith, length-append}
use Rattle.json.specs.Token.{Token}
use Rattle.json.specs.Json.{Json, Items, no_items, item, Members, no_members, member, parse_map}
use Rattle.json_table.specs.Entries.{Entry, key, end_array, end_object, value_len}
use Rattle.json_table.specs.Entries.{value_entries, items_entries, members_entries}
use Rattle.json_table.proofs.Lengths.{length-value_entries}

-- The items that were read, and then these.
abbrev pub and_items : Items → Items → Items
and_items no_items rest = rest
and_items (item j js) rest = item j (and_items js rest)

-- The members that were read, and then these.
abbrev pub and_members : Members → Members → Members
and_members no_members rest = rest
and_members (member k j ms) rest = member k j (and_members ms rest)

pub and_items-no_items : (js : Items) → and_items js no_items ≡ js
and_items-no_items no_items = refl
and_items-no_items (item j js) = ap (item j) (and_items-no_items js)

pub and_members-no_members : (ms : Members) → and_members ms no_members ≡ ms
and_members-no_members no_members = refl
and_members-no_members (member k j ms) = ap (member k j) (and_members-no_members ms)

and_item : (js : Items) (j : Json) (rest : Items) → and_items js (item j rest) ≡ and_items (and_items js (item j
    no_items)) rest
and_item no_items j rest = refl
and_item (item i js) j rest = ap (item i) (and_item js j rest)

and_member : (ms : Members) (k : List ℕ) (j : Json) (rest : Members) → and_members ms (member k j rest) ≡ and_members
    (and_members ms (member k j no_members)) rest
and_member no_members k j rest = refl
and_member (member l i ms) k j rest = ap (member l i) (and_member ms k j rest)

pub none_yet_items : (r : Option (Items × List Token)) → r ≡ parse_map (and_items no_items) r
none_yet_items None = refl
none_yet_items (Some p) = refl

pub none_yet_members : (r : Option (Members × List Token)) → r ≡ parse_map (and_members no_members) r
none_yet_members None = refl
none_yet_members (Some p) = refl

pub more_items : (js : Items) (j : Json) (r : Option (Items × List Token)) → parse_map (and_items js) (parse_map (item
    j) r) ≡ parse_map (and_items (and_items js (item j no_items))) r
more_items js j None = refl
more_items js j (Some p) = ap (λ is. Some (is, p.1)) (and_item js j p.0)

pub more_members : (ms : Members) (k : List ℕ) (j : Json) (r : Option (Members × List Token)) →
    parse_map (and_members ms) (parse_map (member k j) r) ≡ parse_map (and_members (and_members ms (member k j
    no_members))) r
more_members ms k j None = refl
more_members ms k j (Some p) = ap (λ is. Some (is, p.1)) (and_member ms k j p.0)

-- The entries of items without the closing bracket.
abbrev pub items_front : ℕ → Items → List Entry
items_front at no_items = []
items_front at (item j js) = value_entries at j ++ items_front (at + value_len j) js

-- The entries of members without the closing bracket.
abbrev pub members_front : ℕ → Members → List Entry
members_front at no_members = []
members_front at (member k j ms) = key k ∷ (value_entries (suc at) j ++ members_front (suc at + value_len j) ms)

pub items_closed : (at : ℕ) (js : Items) → items_front at js ++ end_array ∷ [] ≡ items_entries at js
unfolding items_entries
items_closed at no_items = refl
items_closed at (item j js) =
    append_assoc (value_entries at j) (items_front (at + value_len j) js) (end_array ∷ [])
    ∙ ap (λ es. value_entries at j ++ es) (items_closed (at + value_len j) js)

pub members_closed : (at : ℕ) (ms : Members) → members_front at ms ++ end_object ∷ [] ≡ members_entries at ms
unfolding members_entries
members_closed at no_members = refl
members_closed at (member k j ms) =
    let next = suc at + value_len j in
    ap (λ es. key k ∷ es) (append_assoc (value_entries (suc at) j) (members_front next ms) (end_object ∷ [])
    ∙ ap (λ es. value_entries (suc at) j ++ es) (members_closed next ms))

pub items_front-and_item : (at : ℕ) (js : Items) (j : Json) → items_front at (and_items js (item j no_items)) ≡
    items_front at js ++ value_entries (at + length (items_front at js)) j
items_front-and_item at no_items j =
    let place : at ≡ at + 0 = omega arith in append-nil (value_entries at j) ∙ ap (λ n. value_entries n j) place
items_front-and_item at (item i js) j =
    let front = value_entries at i in
    let next = at + value_len i in
    let place : next + length (items_front next js) ≡ at + length (front ++ items_front next js) =
    omega (arith, length-append front (items_front next js), length-value_entries at i) in
    ap (λ es. front ++ es) (items_front-and_item next js j ∙ ap (λ n. items_front next js ++ value_entries n j) place)
    ∙ sym (append_assoc front (items_front next js) (value_entries (at + length (front ++ items_front next js)) j))

pub members_front-and_member : (at : ℕ) (ms : Members) (k : List ℕ) (j : Json) → members_front at (and_members ms
    (member k j no_members)) ≡ members_front at ms ++ key k ∷ value_entries (suc (at + length (members_front at ms))) j
members_front-and_member at no_members k j =
    let place : suc at ≡ suc (at + 0) = omega arith in
    ap (λ es. key k ∷ es) (append-nil (value_entries (suc at) j) ∙ ap (λ n. value_entries n j) place)
members_front-and_member at (member l i ms) k j =
    let front = value_entries (suc at) i in
    let next = suc at + value_len i in
    let tail = members_front next ms in
    let place : suc (next + length tail) ≡ suc (at + length (key l ∷ (front ++ tail))) =
    omega (arith, length-append front tail, length-value_entries (suc at) i) in
    ap (λ es. key l ∷ (front ++ es)) (members_front-and_member next ms k j
    ∙ ap (λ n. tail ++ key k ∷ value_entries n j) place)
    ∙ ap (λ es. key l ∷ es) (sym (append_assoc front tail (key k ∷ value_entries (suc (at + length (key l ∷ (front ++
    tail)))) j)))
