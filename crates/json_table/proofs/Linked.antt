-- The nodes of a tape are the entries of its value.
use Rattle.std.proofs.Common.{◌≡◌, ℕ, suc, ◌+◌, ◌≤◌, ◌<◌, List, ◌∷◌, ◌++◌, length, drop, map, get_or, refl}
use Rattle.std.proofs.Common.{sym, ap, ap₂, ◌∙◌, arith, length-append, append_assoc}
use Rattle.std.proofs.lemmas.List.{drop_more, drop_all, drop_at, drop-drop, get_or-map, length-map, length-drop}
use Rattle.std.proofs.lemmas.Bool.{cases_lt}
use Rattle.std.proofs.Common.{◌⊎◌, inl, inr}
use Rattle.json.specs.Token.{Token}
use Rattle.json.specs.Json as json
use Rattle.json.specs.Json.{Json, Items, no_items, item, Members, no_members, member, value}
use Rattle.json.specs.Tape.{node_token, Passes, LinkAt, Linked}
use Rattle.json.specs.Tree.{json_tokens, items_tokens, members_tokens, depth}
use Rattle.json.specs.declared.tape.Node.{Node}
use Rattle.json.specs.declared.tape.Node.TheVariants.{Null, Bool, Number, String, Array, EndArray, Object}
use Rattle.json.specs.declared.tape.Node.TheVariants.{EndObject, Key}
use Rattle.json.proofs.Found.{one_reading, Some_inj}
use Rattle.json.proofs.Grammar.{left_some}
use Rattle.json.proofs.Printed.Trees.{value-json_tokens}
use Rattle.json_table.specs.Entries as spec
use Rattle.json_table.specs.Entries.{value_len, items_len, members_len, value_entries, items_entries, members_entries}
use Rattle.json_table.specs.Views.{entry_view}
use Rattle.json_table.proofs.Lengths.{length-json_tokens}

-- The place that a node of an array or an object has.
abbrev link : Node → ℕ
link Null = 0
link (Bool b) = 0
link (Number s) = 0
link (String s) = 0
link (Array end) = end
link EndArray = 0
link (Object end) = end
link EndObject = 0
link (Key s) = 0

-- The entry of a token, with the place of an array or an object.
abbrev entry_of : ℕ → Token → spec.Entry
entry_of end Token.begin_object = spec.object end
entry_of end Token.end_object = spec.end_object
entry_of end Token.begin_array = spec.array end
entry_of end Token.end_array = spec.end_array
entry_of end (Token.key s) = spec.key s
entry_of end (Token.string s) = spec.string s
entry_of end (Token.number s) = spec.number s
entry_of end (Token.boolean b) = spec.boolean b
entry_of end Token.null = spec.null
entry_of end Token.bad = spec.null

seen : (n : Node) → entry_view n ≡ entry_of (link n) (node_token n)
seen Null = refl
seen (Bool b) = refl
seen (Number s) = refl
seen (String s) = refl
seen (Array end) = refl
seen EndArray = refl
seen (Object end) = refl
seen EndObject = refl
seen (Key s) = refl

array_link : (all : List Token) (i : ℕ) (n : Node) → node_token n ≡ Token.begin_array → LinkAt all i n → Passes all i
    (link n)
array_link all i Null e h = absurd cc
array_link all i (Bool b) e h = absurd cc
array_link all i (Number s) e h = absurd cc
array_link all i (String s) e h = absurd cc
array_link all i (Array end) e h = h
array_link all i EndArray e h = absurd cc
array_link all i (Object end) e h = absurd cc
array_link all i EndObject e h = absurd cc
array_link all i (Key s) e h = absurd cc

object_link : (all : List Token) (i : ℕ) (n : Node) → node_token n ≡ Token.begin_object → LinkAt all i n → Passes all i
    (link n)
object_link all i Null e h = absurd cc
object_link all i (Bool b) e h = absurd cc
object_link all i (Number s) e h = absurd cc
object_link all i (String s) e h = absurd cc
object_link all i (Array end) e h = absurd cc
object_link all i EndArray e h = absurd cc
object_link all i (Object end) e h = h
object_link all i EndObject e h = absurd cc
object_link all i (Key s) e h = absurd cc

-- A link past a value leads to the place after it.
passed : (all : List Token) (at end : ℕ) (j : Json) (rest : List Token) → drop at all ≡ json_tokens j ++ rest →
    Passes all at end → end ≡ at + value_len j
passed all at end j rest is link =
    let d = link.0 in
    let found = left_some (value d (drop at all)) (drop end all) link.1 in
    let other = ap (value (depth j)) is ∙ value-json_tokens j (depth j) rest (omega arith) in
    let left : rest ≡ drop end all =
    ap (λ (x : Json × List Token). x.1) (Some_inj _ _ (one_reading (depth j) d (drop at all) _ _ other found.1)) in
    omega (
      arith,
      link.2,
      link.3,
      ap length is,
      ap length left,
      length-append (json_tokens j) rest,
      length-json_tokens j,
      length-drop at all,
      length-drop end all,
    )

module _ (nodes : List Node) (linked : Linked (map node_token nodes) 0 nodes) where
  abbrev tokens : List Token
  tokens = map node_token nodes

  abbrev entries : List spec.Entry
  entries = map entry_view nodes

  abbrev node : ℕ → Node
  node at = get_or nodes at Null

  within : (at : ℕ) (t : Token) (ts : List Token) → drop at tokens ≡ t ∷ ts → (at < length nodes) ⊎ (length nodes ≤ at)
      → at < length nodes
  within at t ts e (inl h) = h
  within at t ts e (inr h) =
      let none = sym (drop_all at tokens (omega (arith, h, length-map nodes node_token))) ∙ e in absurd cc

  module _ (at : ℕ) (t : Token) (ts : List Token) (e : drop at tokens ≡ t ∷ ts) where
    inside : at < length nodes
    inside = within at t ts e (cases_lt at (length nodes))

    token_there : drop at tokens ≡ node_token (node at) ∷ drop (at + 1) tokens
    token_there =
        drop_more tokens at (node_token Null) (omega (arith, inside, length-map nodes node_token))
        ∙ ap (λ x. x ∷ drop (at + 1) tokens) (get_or-map node_token nodes at Null (node_token Null) inside)

    is_token : node_token (node at) ≡ t
    is_token = let both = sym token_there ∙ e in cc

    later : drop (suc at) tokens ≡ ts
    later =
        let both = sym token_there ∙ e in
        let tail : drop (at + 1) tokens ≡ ts = cc in
        let on : suc at ≡ at + 1 = omega arith in
        ap (λ n. drop n tokens) on ∙ tail

    entry_there : drop at entries ≡ entry_of (link (node at)) t ∷ drop (suc at) entries
    entry_there =
        let on : at + 1 ≡ suc at = omega arith in
        drop_more entries at spec.null (omega (arith, inside, length-map nodes entry_view))
        ∙ ap₂ (λ x n. x ∷ drop n entries) (get_or-map entry_view nodes at Null spec.null inside ∙ seen (node at)
        ∙ ap (entry_of (link (node at))) is_token) on

    links : LinkAt tokens at (node at)
    links = linked at (omega arith) inside

  -- After what begins with some tokens.
  past : (at n : ℕ) (front rest : List Token) → drop at tokens ≡ front ++ rest → length front ≡ n → drop (at + n) tokens
      ≡ rest
  past at n front rest e l = sym (drop-drop n at tokens) ∙ ap (drop n) e ∙ drop_at front rest n l

  scalar : (at : ℕ) (t : Token) (ts : List Token) (e : drop at tokens ≡ t ∷ ts) → drop at entries ≡ entry_of (link
      (node at)) t ∷ drop (at + 1) entries
  scalar at t ts e =
      let on : suc at ≡ at + 1 = omega arith in
      entry_there at t ts e ∙ ap (λ n. entry_of (link (node at)) t ∷ drop n entries) on

  mutual
    unfolding value_len value_entries

    pub value_placed : (j : Json) (at : ℕ) (rest : List Token) → drop at tokens ≡ json_tokens j ++ rest
        → drop at entries ≡ value_entries at j ++ drop (at + value_len j) entries
    value_placed json.null at rest e = scalar at Token.null rest e
    value_placed (json.boolean b) at rest e = scalar at (Token.boolean b) rest e
    value_placed (json.number s) at rest e = scalar at (Token.number s) rest e
    value_placed (json.string s) at rest e = scalar at (Token.string s) rest e
    value_placed (json.array js) at rest e =
        let ts = items_tokens js ++ rest in
        let end = passed tokens at (link (node at)) (json.array js) rest e (array_link tokens at (node at) (is_token at
        Token.begin_array ts e) (links at Token.begin_array ts e)) in
        entry_there at Token.begin_array ts e
        ∙ ap₂ (λ n es. spec.array n ∷ es) end (items_placed js (suc at) rest (later at Token.begin_array ts e))
        ∙ ap (λ n. spec.array (at + suc (items_len js)) ∷ (items_entries (suc at) js ++ drop n entries)) (omega arith)
    value_placed (json.object ms) at rest e =
        let ts = members_tokens ms ++ rest in
        let end = passed tokens at (link (node at)) (json.object ms) rest e (object_link tokens at (node at) (is_token
        at Token.begin_object ts e) (links at Token.begin_object ts e)) in
        entry_there at Token.begin_object ts e
        ∙ ap₂ (λ n es. spec.object n ∷ es) end (members_placed ms (suc at) rest (later at Token.begin_object ts e))
        ∙ ap (λ n. spec.object (at + suc (members_len ms)) ∷ (members_entries (suc at) ms ++ drop n entries)) (omega
        arith)

    pub items_placed : (js : Items) (at : ℕ) (rest : List Token) → drop at tokens ≡ items_tokens js ++ rest
        → drop at entries ≡ items_entries at js ++ drop (at + items_len js) entries
    items_placed no_items at rest e = scalar at Token.end_array rest e
    items_placed (item j js) at rest e =
        let split = e ∙ append_assoc (json_tokens j) (items_tokens js) rest in
        let next = at + value_len j in
        value_placed j at (items_tokens js ++ rest) split
        ∙ ap (λ es. value_entries at j ++ es) (items_placed js next rest (past at (value_len j) (json_tokens j) _ split
        (length-json_tokens j)))
        ∙ sym (append_assoc (value_entries at j) (items_entries next js) (drop (next + items_len js) entries))
        ∙ ap (λ n. (value_entries at j ++ items_entries next js) ++ drop n entries) (omega arith)

    pub members_placed : (ms : Members) (at : ℕ) (rest : List Token) → drop at tokens ≡ members_tokens ms ++ rest
        → drop at entries ≡ members_entries at ms ++ drop (at + members_len ms) entries
    members_placed no_members at rest e = scalar at Token.end_object rest e
    members_placed (member k j ms) at rest e =
        let ts = (json_tokens j ++ members_tokens ms) ++ rest in
        let split = later at (Token.key k) ts e ∙ append_assoc (json_tokens j) (members_tokens ms) rest in
        let next = suc at + value_len j in
        entry_there at (Token.key k) ts e
        ∙ ap (λ es. spec.key k ∷ es) (value_placed j (suc at) (members_tokens ms ++ rest) split
        ∙ ap (λ es. value_entries (suc at) j ++ es) (members_placed ms next rest (past (suc at) (value_len j)
        (json_tokens j) _ split (length-json_tokens j)))
        ∙ sym (append_assoc (value_entries (suc at) j) (members_entries next ms) (drop (next + members_len ms) entries))
        ∙ ap (λ n. (value_entries (suc at) j ++ members_entries next ms) ++ drop n entries) (omega arith))
