-- How many entries and tokens there are of a value.
use Rattle.std.proofs.Common.{◌≡◌, ℕ, suc, ◌+◌, ◌≤◌, ◌<◌, length, refl, sym, ap, ◌∙◌, arith}
use Rattle.std.proofs.Common.{length-append}
use Rattle.std.proofs.lemmas.List.{length-map}
use Rattle.json.specs.Json as json
use Rattle.json.specs.Json.{Json, Items, no_items, item, Members, no_members, member}
use Rattle.json.specs.Tree.{json_tokens}
use Rattle.json_table.specs.Back.{value_entries-tokens}
use Rattle.json_table.specs.Counts.{items_count}
use Rattle.json_table.specs.Entries.{token_of, value_len, items_len, members_len, value_entries, items_entries}
use Rattle.json_table.specs.Entries.{members_entries}

mutual
  unfolding value_len value_entries

  pub length-value_entries : (at : ℕ) (j : Json) → length (value_entries at j) ≡ value_len j
  length-value_entries at json.null = refl
  length-value_entries at (json.boolean b) = refl
  length-value_entries at (json.number s) = refl
  length-value_entries at (json.string s) = refl
  length-value_entries at (json.array js) = ap suc (length-items_entries (suc at) js)
  length-value_entries at (json.object ms) = ap suc (length-members_entries (suc at) ms)

  pub length-items_entries : (at : ℕ) (js : Items) → length (items_entries at js) ≡ items_len js
  length-items_entries at no_items = refl
  length-items_entries at (item j js) = omega (
    arith,
    length-append (value_entries at j) (items_entries (at + value_len j) js),
    length-value_entries at j,
    length-items_entries (at + value_len j) js,
  )

  pub length-members_entries : (at : ℕ) (ms : Members) → length (members_entries at ms) ≡ members_len ms
  length-members_entries at no_members = refl
  length-members_entries at (member k j ms) = omega (
    arith,
    length-append (value_entries (suc at) j) (members_entries (suc at + value_len j) ms),
    length-value_entries (suc at) j,
    length-members_entries (suc at + value_len j) ms,
  )

pub length-json_tokens : (j : Json) → length (json_tokens j) ≡ value_len j
length-json_tokens j =
    ap length (sym (value_entries-tokens 0 j)) ∙ length-map (value_entries 0 j) token_of ∙ length-value_entries 0 j

-- A value has an entry at least.
pub some_entry : (j : Json) → 0 < value_len j
unfolding value_len
some_entry json.null = omega arith
some_entry (json.boolean b) = omega arith
some_entry (json.number s) = omega arith
some_entry (json.string s) = omega arith
some_entry (json.array js) = omega arith
some_entry (json.object ms) = omega arith

-- There are no more items than entries.
pub few_items : (js : Items) → items_count js ≤ items_len js
unfolding items_len
few_items no_items = omega arith
few_items (item j js) = omega (arith, few_items js, some_entry j)
