-- What the node at a place says of the value, the items or the members that begin there.
use Rattle.std.proofs.Common.{◌≡◌, ◌≢◌, ℕ, suc, ◌+◌, ◌-◌, ◌≤◌, ◌<◌, List, [], ◌∷◌, ◌++◌, length, drop, map}
use Rattle.std.proofs.Common.{slice_index_or, ◌⊎◌, inl, inr, refl, sym, ap, ◌∙◌, subst, arith, append_assoc}
use Rattle.std.proofs.Common.{length-append}
use Rattle.std.proofs.lemmas.List.{drop_more, drop_all, drop_at, drop-drop, get_or-map, length-map, length-drop}
use Rattle.std.proofs.lemmas.Bool.{cases_lt}
use Rattle.std.specs.Borrow.{Bor}
use Rattle.json.specs.Json as json
use Rattle.json.specs.Json.{Json, Items, no_items, item, Members, no_members, member}
use Rattle.json.specs.declared.tape.Node.{Node}
use Rattle.json.specs.declared.tape.Node.TheVariants.{Null, Bool as Boolean, Number, String, Array, EndArray, Object}
use Rattle.json.specs.declared.tape.Node.TheVariants.{EndObject, Key}
use Rattle.json_table.specs.Back.{value_of-value_entries, items_of-items_entries, members_of-members_entries}
use Rattle.json_table.specs.Entries as spec
use Rattle.json_table.specs.Entries.{value_len, items_len, members_len, value_entries, items_entries, members_entries}
use Rattle.json_table.specs.Entries.{place_after, value_of, items_of, members_of}
use Rattle.json_table.specs.Views.{entry_view, entries_from, BeginsValue, BeginsItems, BeginsMembers}
use Rattle.json_table.proofs.Lengths.{length-value_entries, length-items_entries}

-- ---- values, items and members by their entries

pub seen_value : (nodes : List Node) (at : ℕ) (j : Json) → BeginsValue nodes at j → value_of (entries_from at nodes) ≡ j
seen_value nodes at j h = ap value_of h.1 ∙ value_of-value_entries at j h.0

pub seen_items : (nodes : List Node) (at : ℕ) (js : Items) → BeginsItems nodes at js →
    items_of (entries_from at nodes) ≡ js
seen_items nodes at js h = ap items_of h.1 ∙ items_of-items_entries at js h.0

pub seen_members : (nodes : List Node) (at end : ℕ) (ms : Members) → BeginsMembers nodes at end ms →
    members_of (entries_from at nodes) ≡ ms
seen_members nodes at end ms h = ap members_of h.1 ∙ members_of-members_entries at ms h.0

-- ---- the entry of a value itself, and those after it

own : ℕ → Json → spec.Entry
own at json.null = spec.null
own at (json.boolean b) = spec.boolean b
own at (json.number s) = spec.number s
own at (json.string s) = spec.string s
own at (json.array js) = spec.array (at + suc (items_len js))
own at (json.object ms) = spec.object (at + suc (members_len ms))

inner : ℕ → Json → List spec.Entry
inner at json.null = []
inner at (json.boolean b) = []
inner at (json.number s) = []
inner at (json.string s) = []
inner at (json.array js) = items_entries (suc at) js
inner at (json.object ms) = members_entries (suc at) ms

own_inner : (at : ℕ) (j : Json) → value_entries at j ≡ own at j ∷ inner at j
unfolding value_entries own inner
own_inner at json.null = refl
own_inner at (json.boolean b) = refl
own_inner at (json.number s) = refl
own_inner at (json.string s) = refl
own_inner at (json.array js) = refl
own_inner at (json.object ms) = refl

after_own : (at : ℕ) (j : Json) → place_after at (own at j) ≡ at + value_len j
unfolding value_len own
after_own at json.null = omega arith
after_own at (json.boolean b) = omega arith
after_own at (json.number s) = omega arith
after_own at (json.string s) = omega arith
after_own at (json.array js) = refl
after_own at (json.object ms) = refl

own_no_end : (at : ℕ) (j : Json) → own at j ≡ spec.end_array → ⊥
unfolding own
own_no_end at json.null e = cc
own_no_end at (json.boolean b) e = cc
own_no_end at (json.number s) e = cc
own_no_end at (json.string s) e = cc
own_no_end at (json.array js) e = cc
own_no_end at (json.object ms) e = cc

-- ---- the node at a place

abbrev pub node : List Node → ℕ → Node
node nodes at = slice_index_or nodes at (Object 0)

module _ (nodes : List Node) (at : ℕ) (e : spec.Entry) (es : List spec.Entry) (begin : entries_from at nodes ≡ e ∷ es)
  where
    within : (at < length nodes) ⊎ (length nodes ≤ at) → at < length nodes
    within (inl h) = h
    within (inr h) =
        let none = sym (drop_all at (map entry_view nodes) (omega (arith, h, length-map nodes entry_view))) ∙ begin in
        absurd cc

    pub inside : at < length nodes
    inside = within (cases_lt at (length nodes))

    there : entries_from at nodes ≡ entry_view (node nodes at) ∷ entries_from (at + 1) nodes
    there =
        drop_more (map entry_view nodes) at (entry_view (Object 0)) (omega (arith, inside, length-map nodes entry_view))
        ∙ ap (λ x. x ∷ entries_from (at + 1) nodes) (get_or-map entry_view nodes at (Object 0) (entry_view (Object 0))
        inside)

    pub seen_entry : entry_view (node nodes at) ≡ e
    seen_entry = let both = sym there ∙ begin in cc

    pub seen_later : entries_from (suc at) nodes ≡ es
    seen_later =
        let both = sym there ∙ begin in
        let tail : entries_from (at + 1) nodes ≡ es = cc in
        let on : suc at ≡ at + 1 = omega arith in
        ap (λ n. entries_from n nodes) on ∙ tail

past : (nodes : List Node) (at n : ℕ) (front rest : List spec.Entry) → entries_from at nodes ≡ front ++ rest
    → length front ≡ n → entries_from (at + n) nodes ≡ rest
past nodes at n front rest e l =
    sym (drop-drop n at (map entry_view nodes)) ∙ ap (drop n) e ∙ drop_at front rest n l

-- ---- a value

module _ (nodes : List Node) (at : ℕ) (j : Json) (h : BeginsValue nodes at j) where
  value_begins : entries_from at nodes ≡ own at j ∷ (inner at j ++ h.0)
  value_begins = h.1 ∙ ap (λ es. es ++ h.0) (own_inner at j)

  pub value_inside : at < length nodes
  value_inside = inside nodes at (own at j) (inner at j ++ h.0) value_begins

  value_entry : entry_view (node nodes at) ≡ own at j
  value_entry = seen_entry nodes at (own at j) (inner at j ++ h.0) value_begins

  value_later : entries_from (suc at) nodes ≡ inner at j ++ h.0
  value_later = seen_later nodes at (own at j) (inner at j ++ h.0) value_begins

  pub value_past : entries_from (at + value_len j) nodes ≡ h.0
  value_past = past nodes at (value_len j) (value_entries at j) h.0 h.1 (length-value_entries at j)

  pub value_after : place_after at (entry_view (node nodes at)) ≡ at + value_len j
  value_after = ap (place_after at) value_entry ∙ after_own at j

-- The place after a node that is neither an array nor an object.
pub plain_after : (at : ℕ) (n : Node) → ((end : ℕ) → n ≡ Array end → ⊥) → ((end : ℕ) → n ≡ Object end → ⊥)
    → place_after at (entry_view n) ≡ at + 1
plain_after at Null a o = omega arith
plain_after at (Boolean b) a o = omega arith
plain_after at (Number s) a o = omega arith
plain_after at (String s) a o = omega arith
plain_after at (Array end) a o = absurd (a end refl)
plain_after at EndArray a o = omega arith
plain_after at (Object end) a o = absurd (o end refl)
plain_after at EndObject a o = omega arith
plain_after at (Key s) a o = omega arith

-- What a node says of the value that begins with it.
abbrev Says : List Node → ℕ → Node → Json → Type 0
Says nodes at Null j = j ≡ json.null
Says nodes at (Boolean b) j = j ≡ json.boolean b
Says nodes at (Number s) j = j ≡ json.number s.now
Says nodes at (String s) j = j ≡ json.string s.now
Says nodes at (Array end) j = (js : Items) × (j ≡ json.array js) × BeginsItems nodes (at + 1) js
Says nodes at EndArray j = ⊥
Says nodes at (Object end) j = (ms : Members) × (j ≡ json.object ms) × BeginsMembers nodes (at + 1) end ms
Says nodes at EndObject j = ⊥
Says nodes at (Key s) j = ⊥

module _ (nodes : List Node) (at : ℕ) where
  next_place : suc at ≡ at + 1
  next_place = omega arith

  by_own : (n : Node) (j : Json) (rest : List spec.Entry) → entry_view n ≡ own at j
      → entries_from (suc at) nodes ≡ inner at j ++ rest → Says nodes at n j
  unfolding own inner
  by_own Null json.null rest e l = refl
  by_own Null (json.boolean b) rest e l = absurd cc
  by_own Null (json.number s) rest e l = absurd cc
  by_own Null (json.string s) rest e l = absurd cc
  by_own Null (json.array js) rest e l = absurd cc
  by_own Null (json.object ms) rest e l = absurd cc
  by_own (Boolean c) json.null rest e l = absurd cc
  by_own (Boolean c) (json.boolean b) rest e l = cc
  by_own (Boolean c) (json.number s) rest e l = absurd cc
  by_own (Boolean c) (json.string s) rest e l = absurd cc
  by_own (Boolean c) (json.array js) rest e l = absurd cc
  by_own (Boolean c) (json.object ms) rest e l = absurd cc
  by_own (Number t) json.null rest e l = absurd cc
  by_own (Number t) (json.boolean b) rest e l = absurd cc
  by_own (Number t) (json.number s) rest e l = cc
  by_own (Number t) (json.string s) rest e l = absurd cc
  by_own (Number t) (json.array js) rest e l = absurd cc
  by_own (Number t) (json.object ms) rest e l = absurd cc
  by_own (String t) json.null rest e l = absurd cc
  by_own (String t) (json.boolean b) rest e l = absurd cc
  by_own (String t) (json.number s) rest e l = absurd cc
  by_own (String t) (json.string s) rest e l = cc
  by_own (String t) (json.array js) rest e l = absurd cc
  by_own (String t) (json.object ms) rest e l = absurd cc
  by_own (Array end) json.null rest e l = absurd cc
  by_own (Array end) (json.boolean b) rest e l = absurd cc
  by_own (Array end) (json.number s) rest e l = absurd cc
  by_own (Array end) (json.string s) rest e l = absurd cc
  by_own (Array end) (json.array js) rest e l = (js, refl, subst (λ n. BeginsItems nodes n js) next_place (rest, l))
  by_own (Array end) (json.object ms) rest e l = absurd cc
  by_own EndArray j rest e l = own_no_end at j (sym e)
  by_own (Object end) json.null rest e l = absurd cc
  by_own (Object end) (json.boolean b) rest e l = absurd cc
  by_own (Object end) (json.number s) rest e l = absurd cc
  by_own (Object end) (json.string s) rest e l = absurd cc
  by_own (Object end) (json.array js) rest e l = absurd cc
  by_own (Object end) (json.object ms) rest e l =
      let last : end ≡ at + suc (members_len ms) = cc in
      (ms, refl, subst (λ n. BeginsMembers nodes n end ms) next_place (rest, l, last ∙ omega arith))
  by_own EndObject json.null rest e l = cc
  by_own EndObject (json.boolean b) rest e l = cc
  by_own EndObject (json.number s) rest e l = cc
  by_own EndObject (json.string s) rest e l = cc
  by_own EndObject (json.array js) rest e l = cc
  by_own EndObject (json.object ms) rest e l = cc
  by_own (Key t) json.null rest e l = cc
  by_own (Key t) (json.boolean b) rest e l = cc
  by_own (Key t) (json.number s) rest e l = cc
  by_own (Key t) (json.string s) rest e l = cc
  by_own (Key t) (json.array js) rest e l = cc
  by_own (Key t) (json.object ms) rest e l = cc

  -- The value that begins at a place, by the node there.
  pub says : (n : Node) (j : Json) → BeginsValue nodes at j → node nodes at ≡ n → Says nodes at n j
  says n j h is =
      by_own n j h.0 (ap entry_view (sym is) ∙ value_entry nodes at j h) (value_later nodes at j h)

  -- One of the nodes with which no value begins is not there, or the value is null.
  pub no_other : (j : Json) → BeginsValue nodes at j → (node nodes at ≡ Null) ⊎ (((s : Bor (List ℕ)) × (node nodes at ≡
      Key s)) ⊎ ((node nodes at ≡ EndArray) ⊎ (node nodes at ≡ EndObject))) → j ≡ json.null
  no_other j h (inl is) = says Null j h is
  no_other j h (inr (inl is)) = absurd (says (Key is.0) j h is.1)
  no_other j h (inr (inr (inl is))) = absurd (says EndArray j h is)
  no_other j h (inr (inr (inr is))) = absurd (says EndObject j h is)

  -- ---- items

  pub end_of_items : (js : Items) → BeginsItems nodes at js → node nodes at ≡ EndArray → js ≡ no_items
  unfolding items_entries
  end_of_items no_items h is = refl
  end_of_items (item j js) h is =
      let first = value_entry nodes at j (
        items_entries (at + value_len j) js ++ h.0,
        h.1
            ∙ append_assoc (value_entries at j) (items_entries (at + value_len j) js) h.0,
      ) in
      absurd (own_no_end at j (sym first ∙ ap entry_view is))

  pub items_inside : (js : Items) → BeginsItems nodes at js → at < length nodes
  unfolding items_entries
  items_inside no_items h = inside nodes at spec.end_array h.0 h.1
  items_inside (item j js) h =
      value_inside nodes at j (
        items_entries (at + value_len j) js ++ h.0,
        h.1
            ∙ append_assoc (value_entries at j) (items_entries (at + value_len j) js) h.0,
      )

  is_end : (n : Node) → entry_view n ≡ spec.end_array → n ≡ EndArray
  is_end Null e = absurd cc
  is_end (Boolean b) e = absurd cc
  is_end (Number s) e = absurd cc
  is_end (String s) e = absurd cc
  is_end (Array end) e = absurd cc
  is_end EndArray e = refl
  is_end (Object end) e = absurd cc
  is_end EndObject e = absurd cc
  is_end (Key s) e = absurd cc

  pub no_items_end : BeginsItems nodes at no_items → node nodes at ≡ EndArray
  unfolding items_entries
  no_items_end h = is_end (node nodes at) (seen_entry nodes at spec.end_array h.0 h.1)

  pub some_items : (js : Items) → BeginsItems nodes at js → js ≡ no_items → node nodes at ≢ EndArray → ⊥
  some_items js h none going = going (no_items_end (subst (BeginsItems nodes at) none h))

  pub items_within : (js : Items) → BeginsItems nodes at js → items_len js ≤ length nodes - at
  items_within js h = omega (
    arith,
    ap length h.1,
    length-append (items_entries at js) h.0,
    length-items_entries at js,
    length-drop at (map entry_view nodes),
    length-map nodes entry_view,
  )

  -- If there are items, there is a first one.
  abbrev pub FirstItem : Items → Type 0
  FirstItem js = (j : Json) × (left : Items) × (js ≡ item j left) × BeginsValue nodes at j
      × BeginsItems nodes (at + value_len j) left

  pub first_item : (js : Items) → BeginsItems nodes at js → js ≢ no_items → FirstItem js
  unfolding items_entries
  first_item no_items h some = absurd (some refl)
  first_item (item j js) h some =
      let rest = items_entries (at + value_len j) js ++ h.0 in
      let first : BeginsValue nodes at j = (
        rest,
        h.1
            ∙ append_assoc (value_entries at j) (items_entries (at + value_len j) js) h.0,
      ) in
      (j, js, refl, first, (h.0, value_past nodes at j first))

  -- ---- members

  pub members_inside : (end : ℕ) (ms : Members) → BeginsMembers nodes at end ms → at < length nodes
  unfolding members_entries
  members_inside end no_members h = inside nodes at spec.end_object h.0 h.1
  members_inside end (member k j ms) h = inside nodes at (spec.key k) _ h.1

  is_key : (n : Node) (k : List ℕ) → entry_view n ≡ spec.key k → (s : Bor (List ℕ)) × (n ≡ Key s)
  is_key Null k e = absurd cc
  is_key (Boolean b) k e = absurd cc
  is_key (Number s) k e = absurd cc
  is_key (String s) k e = absurd cc
  is_key (Array end) k e = absurd cc
  is_key EndArray k e = absurd cc
  is_key (Object end) k e = absurd cc
  is_key EndObject k e = absurd cc
  is_key (Key s) k e = (s, refl)

  is_last : (n : Node) → entry_view n ≡ spec.end_object → n ≡ EndObject
  is_last Null e = absurd cc
  is_last (Boolean b) e = absurd cc
  is_last (Number s) e = absurd cc
  is_last (String s) e = absurd cc
  is_last (Array end) e = absurd cc
  is_last EndArray e = absurd cc
  is_last (Object end) e = absurd cc
  is_last EndObject e = refl
  is_last (Key s) e = absurd cc

  pub no_key : (end : ℕ) (ms : Members) → BeginsMembers nodes at end ms → ((s : Bor (List ℕ)) → node nodes at ≡ Key s
      → ⊥) → ms ≡ no_members
  unfolding members_entries
  no_key end no_members h never = refl
  no_key end (member k j ms) h never =
      let key = is_key (node nodes at) k (seen_entry nodes at (spec.key k) _ h.1) in absurd (never key.0 key.1)

  pub end_of_members : (end : ℕ) (ms : Members) → BeginsMembers nodes at end ms → node nodes at ≡ EndObject → ms ≡
      no_members
  unfolding members_entries
  end_of_members end no_members h is = refl
  end_of_members end (member k j ms) h is =
      let key = sym (seen_entry nodes at (spec.key k) _ h.1) ∙ ap entry_view is in absurd cc

  pub no_members_end : (end : ℕ) → BeginsMembers nodes at end no_members → node nodes at ≡ EndObject
  unfolding members_entries
  no_members_end end h = is_last (node nodes at) (seen_entry nodes at spec.end_object h.0 h.1)

  pub some_members : (end : ℕ) (ms : Members) → BeginsMembers nodes at end ms → ms ≡ no_members → node nodes at ≢
      EndObject → ⊥
  some_members end ms h none going = going (no_members_end end (subst (BeginsMembers nodes at end) none h))

  -- After a member the others begin.
  pub left_members : (end : ℕ) (k : List ℕ) (j : Json) (ms : Members) → BeginsMembers nodes at end (member k j ms)
      → BeginsValue nodes (suc at) j × BeginsMembers nodes (suc at + value_len j) end ms
  unfolding members_entries members_len
  left_members end k j ms h =
      let next = suc at + value_len j in
      let tail = members_entries next ms in
      let first : BeginsValue nodes (suc at) j = (
        tail ++ h.0,
        seen_later nodes at (spec.key k) _ h.1
            ∙ append_assoc (value_entries (suc at) j) tail h.0,
      ) in
      (first, (h.0, value_past nodes (suc at) j first, omega (arith, h.2)))

  -- Members that begin with a key have a first one.
  abbrev pub FirstMember : ℕ → Members → List ℕ → Type 0
  FirstMember end ms k = (j : Json) × (left : Members) × (ms ≡ member k j left) × BeginsValue nodes (at + 1) j
      × BeginsMembers nodes (at + 1 + value_len j) end left

  pub first_member : (end : ℕ) (ms : Members) (s : Bor (List ℕ)) → BeginsMembers nodes at end ms
      → node nodes at ≡ Key s → FirstMember end ms s.now
  unfolding members_entries members_len
  first_member end no_members s h is =
      let key = sym (seen_entry nodes at spec.end_object h.0 h.1) ∙ ap entry_view is in absurd cc
  first_member end (member k j ms) s h is =
      let key = sym (seen_entry nodes at (spec.key k) _ h.1) ∙ ap entry_view is in
      let same : k ≡ s.now = cc in
      let parts = left_members end k j ms h in (
        j,
        ms,
        ap (λ x. member x j ms) same,
        subst (λ n. BeginsValue nodes n j) next_place parts.0,
        subst (λ n. BeginsMembers nodes (n + value_len j) end ms) next_place parts.1,
      )
