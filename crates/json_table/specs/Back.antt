-- A value has no entries except its own: they give it back.
use Rattle.std.proofs.Common.{◌≡◌, ℕ, suc, ◌≤◌, List, ◌∷◌, ◌++◌, length, map, refl, ap, ap₂}
use Rattle.std.proofs.Common.{◌∙◌, arith, length-append}
use Rattle.std.proofs.lemmas.List.{map-append}
use Rattle.json.specs.Token.{Token}
use Rattle.json.specs.Json as json
use Rattle.json.specs.Json.{Json, Items, no_items, item, Members, no_members, member, value}
use Rattle.json.specs.Tree.{json_tokens, items_tokens, members_tokens, depth, items_depth, members_depth}
use Rattle.json.proofs.Printed.Trees.{value-json_tokens}
use Rattle.json_table.specs.Entries.{Entry, token_of, value_entries, items_entries, members_entries}
use Rattle.json_table.specs.Entries.{value_or_null, first_value, items_of_array, members_of_object}
use Rattle.json_table.specs.Entries.{value_of, items_of, members_of}

-- A value is nested less deep than it has tokens.
mutual
  deep_value : (j : Json) → depth j ≤ length (json_tokens j)
  deep_value json.null = omega arith
  deep_value (json.boolean b) = omega arith
  deep_value (json.number s) = omega arith
  deep_value (json.string s) = omega arith
  deep_value (json.array js) = omega (arith, deep_items js)
  deep_value (json.object ms) = omega (arith, deep_members ms)

  deep_items : (js : Items) → items_depth js ≤ length (items_tokens js)
  deep_items no_items = omega arith
  deep_items (item j js) = omega (arith, deep_value j, deep_items js, length-append (json_tokens j) (items_tokens js))

  deep_members : (ms : Members) → members_depth ms ≤ length (members_tokens ms)
  deep_members no_members = omega arith
  deep_members (member k j ms) = omega (
    arith,
    deep_value j,
    deep_members ms,
    length-append (json_tokens j)
        (members_tokens ms),
  )

-- The tokens of a value begin with it.
pub first_value-json_tokens : (j : Json) (rest : List Token) → first_value (json_tokens j ++ rest) ≡ j
first_value-json_tokens j rest =
    ap value_or_null (value-json_tokens j (length (json_tokens j ++ rest)) rest (omega (
      arith,
      deep_value j,
      length-append (json_tokens j) rest,
    )))

-- The entries of a value are of its tokens.
mutual
  unfolding value_entries

  pub value_entries-tokens : (at : ℕ) (j : Json) → map token_of (value_entries at j) ≡ json_tokens j
  value_entries-tokens at json.null = refl
  value_entries-tokens at (json.boolean b) = refl
  value_entries-tokens at (json.number s) = refl
  value_entries-tokens at (json.string s) = refl
  value_entries-tokens at (json.array js) = ap (λ ts. Token.begin_array ∷ ts) (items_entries-tokens (suc at) js)
  value_entries-tokens at (json.object ms) = ap (λ ts. Token.begin_object ∷ ts) (members_entries-tokens (suc at) ms)

  pub items_entries-tokens : (at : ℕ) (js : Items) → map token_of (items_entries at js) ≡ items_tokens js
  items_entries-tokens at no_items = refl
  items_entries-tokens at (item j js) =
      map-append token_of (value_entries at j) (items_entries _ js)
      ∙ ap₂ (λ xs ys. xs ++ ys) (value_entries-tokens at j) (items_entries-tokens _ js)

  pub members_entries-tokens : (at : ℕ) (ms : Members) → map token_of (members_entries at ms) ≡ members_tokens ms
  members_entries-tokens at no_members = refl
  members_entries-tokens at (member k j ms) =
      ap (λ ts. Token.key k ∷ ts) (map-append token_of (value_entries (suc at) j) (members_entries _ ms)
      ∙ ap₂ (λ xs ys. xs ++ ys) (value_entries-tokens (suc at) j) (members_entries-tokens _ ms))

pub value_of-value_entries : (at : ℕ) (j : Json) (rest : List Entry) → value_of (value_entries at j ++ rest) ≡ j
unfolding value_of
value_of-value_entries at j rest =
    ap first_value (map-append token_of (value_entries at j) rest
    ∙ ap (λ ts. ts ++ map token_of rest) (value_entries-tokens at j)) ∙ first_value-json_tokens j (map token_of rest)

pub items_of-items_entries : (at : ℕ) (js : Items) (rest : List Entry) → items_of (items_entries at js ++ rest) ≡ js
unfolding items_of
items_of-items_entries at js rest =
    ap (λ ts. items_of_array (first_value (Token.begin_array ∷ ts))) (map-append token_of (items_entries at js) rest
    ∙ ap (λ ts. ts ++ map token_of rest) (items_entries-tokens at js))
    ∙ ap items_of_array (first_value-json_tokens (json.array js) (map token_of rest))

pub members_of-members_entries : (at : ℕ) (ms : Members) (rest : List Entry) → members_of (members_entries at ms ++
    rest) ≡ ms
unfolding members_of
members_of-members_entries at ms rest =
    ap (λ ts. members_of_object (first_value (Token.begin_object ∷ ts))) (map-append token_of (members_entries at ms)
    rest ∙ ap (λ ts. ts ++ map token_of rest) (members_entries-tokens at ms))
    ∙ ap members_of_object (first_value-json_tokens (json.object ms) (map token_of rest))
