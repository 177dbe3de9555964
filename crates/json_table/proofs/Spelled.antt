-- What is read of tokens has these tokens.
use Rattle.std.proofs.Common.{◌≡◌, ℕ, zero, suc, ◌≤◌, List, [], ◌∷◌, ◌++◌, length, Option, Some, None, append_assoc}
use Rattle.std.proofs.Common.{append-nil, refl, sym, ap, ◌∙◌, subst, arith, option_and_then}
use Rattle.std.specs.Prelude.{⊤, IsSome}
use Rattle.json.specs.Token.{Token}
use Rattle.json.specs.Json as json
use Rattle.json.specs.Json.{Json, Items, item, Members, member, Parse, parse_map}
use Rattle.json.specs.Json.{after_end_array, read_key, items_step, members_step, items, members, value_with, value}
use Rattle.json.specs.Json.{if_last, max_depth, document}
use Rattle.json.specs.Lex.{tokens}
use Rattle.json.specs.Tree.{json_tokens, items_tokens, members_tokens}
use Rattle.json.proofs.Found.{Some_inj}
use Rattle.json.proofs.Grammar.{closed_array, read_key_is}
use Rattle.json.proofs.Nesting.{value-depth}
use Rattle.json.proofs.Printed.Trees.{value-json_tokens}
use Rattle.json_table.specs.Codes.{json_tokens_back}
use Rattle.json_table.specs.Entries.{first_value}

-- Where something is read, the tokens are its own and then the rest.
abbrev Spells : {A : Type 0} → (A → List Token) → List Token → Option (A × List Token) → Type 0
Spells f ts None = ⊤
Spells f ts (Some x) = ts ≡ f x.0 ++ x.1

-- What is read first, and then what is read of the rest.
spells_both : {A B : Type 0} (f : A → List Token) (g : B → List Token) (h : A → B) (front ts rest : List Token)
    (o : Option (A × List Token)) → ((a : A) → g (h a) ≡ front ++ f a) → ts ≡ front ++ rest → Spells f rest o
    → Spells g ts (parse_map h o)
spells_both f g h front ts rest None more e s = tt
spells_both f g h front ts rest (Some x) more e s =
    e ∙ ap (λ r. front ++ r) s ∙ sym (append_assoc front (f x.0) x.1) ∙ ap (λ xs. xs ++ x.1) (sym (more x.0))

module _ (p : Parse Json) (spelled : (ts : List Token) → Spells json_tokens ts (p ts)) where
  module _ (more : Parse Items) (then : (ts : List Token) → Spells items_tokens ts (more ts)) (ts : List Token) where
    item_spelled : (o : Option (Json × List Token)) → Spells json_tokens ts o
        → Spells items_tokens ts (option_and_then (λ x. parse_map (item x.0) (more x.1)) o)
    item_spelled None s = tt
    item_spelled (Some x) s =
        spells_both items_tokens items_tokens (item x.0) (json_tokens x.0) ts x.1 (more x.1) (λ js. refl) s (then x.1)

    items_turn : (end : Option (List Token)) → after_end_array ts ≡ end
        → Spells items_tokens ts (items_step p more ts end)
    items_turn (Some r) e = closed_array ts r e
    items_turn None e = item_spelled (p ts) (spelled ts)

  items_spelled : (n : ℕ) (ts : List Token) → Spells items_tokens ts (items p n ts)
  unfolding items
  items_spelled zero ts = tt
  items_spelled (suc n) ts = items_turn (items p n) (items_spelled n) ts (after_end_array ts) refl

  module _ (more : Parse Members) (then : (ts : List Token) → Spells members_tokens ts (more ts)) (ts : List Token)
    where
      member_spelled : (k : List ℕ) (r : List Token) → ts ≡ Token.key k ∷ r → (o : Option (Json × List Token))
          → Spells json_tokens r o
          → Spells members_tokens ts (option_and_then (λ x. parse_map (member k x.0) (more x.1)) o)
      member_spelled k r e None s = tt
      member_spelled k r e (Some x) s =
          spells_both members_tokens members_tokens (member k x.0) (Token.key k ∷ json_tokens x.0) ts x.1 (more x.1)
          (λ ms. refl) (e ∙ ap (λ us. Token.key k ∷ us) s) (then x.1)

      members_turn : (found : Option (Option (List ℕ) × List Token)) → read_key ts ≡ found
          → Spells members_tokens ts (option_and_then (λ x. members_step p more x.0 x.1) found)
      members_turn None e = tt
      members_turn (Some (None, r)) e = read_key_is ts None r e
      members_turn (Some (Some k, r)) e = member_spelled k r (read_key_is ts (Some k) r e) (p r) (spelled r)

  members_spelled : (n : ℕ) (ts : List Token) → Spells members_tokens ts (members p n ts)
  unfolding members
  members_spelled zero ts = tt
  members_spelled (suc n) ts = members_turn (members p n) (members_spelled n) ts (read_key ts) refl

with_spelled : (a : Parse Items) (o : Parse Members) → ((ts : List Token) → Spells items_tokens ts (a ts))
    → ((ts : List Token) → Spells members_tokens ts (o ts)) → (ts : List Token)
    → Spells json_tokens ts (value_with a o ts)
with_spelled a o h i [] = tt
with_spelled a o h i (Token.begin_object ∷ ts) =
    spells_both members_tokens json_tokens json.object (Token.begin_object ∷ []) _ ts (o ts) (λ ms. refl) refl (i ts)
with_spelled a o h i (Token.end_object ∷ ts) = tt
with_spelled a o h i (Token.begin_array ∷ ts) =
    spells_both items_tokens json_tokens json.array (Token.begin_array ∷ []) _ ts (a ts) (λ js. refl) refl (h ts)
with_spelled a o h i (Token.end_array ∷ ts) = tt
with_spelled a o h i (Token.key s ∷ ts) = tt
with_spelled a o h i (Token.string s ∷ ts) = refl
with_spelled a o h i (Token.number s ∷ ts) = refl
with_spelled a o h i (Token.boolean b ∷ ts) = refl
with_spelled a o h i (Token.null ∷ ts) = refl
with_spelled a o h i (Token.bad ∷ ts) = tt

value_spelled : (d : ℕ) (ts : List Token) → Spells json_tokens ts (value d ts)
unfolding value
value_spelled zero ts = with_spelled (λ us. None) (λ us. None) (λ us. tt) (λ us. tt) ts
value_spelled (suc d) ts =
    with_spelled (λ us. items (value d) (length us) us) (λ us. members (value d) (length us) us)
    (λ us. items_spelled (value d) (value_spelled d) (length us) us)
    (λ us. members_spelled (value d) (value_spelled d) (length us) us) ts

-- Tokens with which a value begins are its own and then the rest.
pub spelled : (d : ℕ) (ts rest : List Token) (j : Json) → value d ts ≡ Some (j, rest) → ts ≡ json_tokens j ++ rest
spelled d ts rest j e = subst (Spells json_tokens ts) e (value_spelled d ts)

none_or_some : {A : Type 0} {a : A} → None ≡ Some a → ⊥
none_or_some e = cc

last : (o : Option (Json × List Token)) (j : Json) → option_and_then (λ x. if_last x.0 x.1) o ≡ Some j → o ≡ Some (
  j,
  [],
)
last None j e = absurd (none_or_some e)
last (Some (i, [])) j e = ap (λ x. Some (x, [])) (Some_inj i j e)
last (Some (i, t ∷ ts)) j e = absurd (none_or_some e)

-- The tokens of a text are those of the value that it is.
pub document_spelled : (text : List ℕ) (j : Json) → document text ≡ Some j → tokens text ≡ json_tokens j
document_spelled text j e =
    spelled max_depth (tokens text) [] j (last (value max_depth (tokens text)) j e) ∙ append-nil (json_tokens j)

-- A text that is a value is that of its tokens.
pub document_of_tokens : (text : List ℕ) → IsSome (document text) → document text ≡ Some (first_value (tokens text))
document_of_tokens text h = by_value (document text) refl h
  where
    by_value : (o : Option Json) → document text ≡ o → IsSome o → document text ≡ Some (first_value (tokens text))
    by_value None e some = absurd cc
    by_value (Some j) e some =
        e ∙ ap Some (sym (ap first_value (document_spelled text j e) ∙ json_tokens_back j))

pub document_value : (text : List ℕ) → IsSome (document text) → (j : Json) × (tokens text ≡ json_tokens j)
document_value text h =
    let e = document_of_tokens text h in
    (first_value (tokens text), document_spelled text (first_value (tokens text)) e)

-- A text that is a value is read where values may be nested deeper, too.
pub document_deeper : (text : List ℕ) (j : Json) (d : ℕ) → max_depth ≤ d → document text ≡ Some j
    → value d (tokens text) ≡ Some (j, [])
document_deeper text j d h e =
    let ts = tokens text in
    let nested = value-depth max_depth ts [] j (last (value max_depth ts) j e) in
    ap (value d) (document_spelled text j e ∙ sym (append-nil (json_tokens j)))
    ∙ value-json_tokens j d [] (omega (arith, h, nested))
