-- The text that is printed for a JSON value is read as this value.
use Rattle.std.proofs.Common.{◌≡◌, ◌≤◌, ℕ, List, [], ◌∷◌, ◌++◌, Bool, false, Some, IsUtf8, refl, sym, ◌+◌, ◌%◌, ◌^◌}
use Rattle.std.proofs.Common.{◌<◌, ◌&&◌, true, decimal, arith, nat_lt}
use Rattle.std.specs.Prelude.{nat_le}
use Rattle.std.proofs.lemmas.Bool.{le-leb, lt-ltb}
use Rattle.std.proofs.lemmas.Fmt.{decimal_by_steps_wide}
use Rattle.shared_core_wire.proofs.Runs.{and_split, and_join}
use Rattle.std.proofs.lemmas.Str.{IsUtf8-append, IsUtf8-nil, is_utf8-from_IsUtf8}
use Rattle.json.specs.Token.{Token}
use Rattle.json.specs.Json.{Json, null, boolean, number, string, array, object, Items, no_items, item, Members}
use Rattle.json.specs.Json.{no_members, member}
use Rattle.json.specs.Tree.{json_tokens, items_tokens, members_tokens, depth}
use Rattle.json.specs.Print.{print, print_from, separator, token_text, ends, IsNumber, ArePrintable}
use Rattle.json.proofs.Printed.Tokens.{tokens-print}
use Rattle.json.proofs.Printed.Utf8.{are_ascii, IsUtf8-are_ascii, IsUtf8-quoted, IsUtf8-key, IsUtf8-boolean}
use Rattle.json.proofs.Printed.Utf8.{IsUtf8-separator}
use Rattle.shared_core_json_reader.specs.Reading.{json_of_text}
use Rattle.shared_core_json_reader.proofs.LawOfJson.{whole_value}
use Rattle.shared_core_json_reader.proofs.Whole.{IsText, of_tokens}

-- ---- what can be printed

-- each byte is one of ASCII, and none of its control characters
abbrev pub are_visible : List ℕ → Bool
are_visible [] = true
are_visible (x ∷ xs) = (nat_le 32 x && nat_lt x 128) && are_visible xs

visible_ascii : (xs : List ℕ) → are_visible xs ≡ true → are_ascii xs ≡ true
visible_ascii [] h = refl
visible_ascii (x ∷ xs) h = let e = and_split _ _ h in and_join _ _ (and_split _ _ e.0).1 (visible_ascii xs e.1)

visible_join : (xs ys : List ℕ) → are_visible xs ≡ true → are_visible ys ≡ true → are_visible (xs ++ ys) ≡ true
visible_join [] ys h g = g
visible_join (x ∷ xs) ys h g = let e = and_split _ _ h in and_join _ _ e.0 (visible_join xs ys e.1 g)

digit_visible : (m : ℕ) → m < 10 → are_visible ((48 + m) ∷ []) ≡ true
digit_visible m l = and_join _ _ (and_join _ _ (le-leb 32 (48 + m) (omega arith)) (lt-ltb (48 + m) 128 (omega arith)))
    refl

pub visible_decimal : (n : ℕ) → n < 2 ^ 128 → are_visible (decimal n) ≡ true
visible_decimal n small =
    decimal_by_steps_wide (λ m ds. are_visible ds ≡ true) (λ m l. digit_visible m l)
    (λ m ds l h. visible_join ds ((48 + m % 10) ∷ []) h (digit_visible (m % 10) (omega arith))) n (omega arith)

-- each number is the text of one, and all is UTF-8
abbrev mutual
  pub MayPrint : Json → Type 0
  MayPrint null = Unit {0}
  MayPrint (boolean b) = Unit {0}
  MayPrint (number s) = IsNumber s × (are_visible s ≡ true)
  MayPrint (string s) = IsUtf8 s
  MayPrint (array js) = ItemsMay js
  MayPrint (object ms) = MembersMay ms

  pub ItemsMay : Items → Type 0
  ItemsMay no_items = Unit {0}
  ItemsMay (item j js) = MayPrint j × ItemsMay js

  pub MembersMay : Members → Type 0
  MembersMay no_members = Unit {0}
  MembersMay (member k j ms) = IsUtf8 k × MayPrint j × MembersMay ms

abbrev pub TokenMay : Token → Type 0
TokenMay Token.begin_object = Unit {0}
TokenMay Token.end_object = Unit {0}
TokenMay Token.begin_array = Unit {0}
TokenMay Token.end_array = Unit {0}
TokenMay (Token.key s) = IsUtf8 s
TokenMay (Token.string s) = IsUtf8 s
TokenMay (Token.number s) = IsNumber s × (are_visible s ≡ true)
TokenMay (Token.boolean b) = Unit {0}
TokenMay Token.null = Unit {0}
TokenMay Token.bad = ⊥

abbrev pub TokensMay : List Token → Type 0
TokensMay [] = Unit {0}
TokensMay (t ∷ ts) = TokenMay t × TokensMay ts

may_join : (ts us : List Token) → TokensMay ts → TokensMay us → TokensMay (ts ++ us)
may_join [] us h g = g
may_join (t ∷ ts) us h g = (h.0, may_join ts us h.1 g)

mutual
  pub tokens_may : (j : Json) → MayPrint j → TokensMay (json_tokens j)
  tokens_may null h = (tt, tt)
  tokens_may (boolean b) h = (tt, tt)
  tokens_may (number s) h = (h, tt)
  tokens_may (string s) h = (h, tt)
  tokens_may (array js) h = (tt, items_may js h)
  tokens_may (object ms) h = (tt, members_may ms h)

  items_may : (js : Items) → ItemsMay js → TokensMay (items_tokens js)
  items_may no_items h = (tt, tt)
  items_may (item j js) h = may_join (json_tokens j) (items_tokens js) (tokens_may j h.0) (items_may js h.1)

  members_may : (ms : Members) → MembersMay ms → TokensMay (members_tokens ms)
  members_may no_members h = (tt, tt)
  members_may (member k j ms) h = (
    h.0,
    may_join (json_tokens j) (members_tokens ms) (tokens_may j h.1)
        (members_may ms h.2),
  )

are_printable : (ts : List Token) → TokensMay ts → ArePrintable ts
unfolding ArePrintable
are_printable [] h = tt
are_printable (Token.begin_object ∷ ts) h = (tt, are_printable ts h.1)
are_printable (Token.end_object ∷ ts) h = (tt, are_printable ts h.1)
are_printable (Token.begin_array ∷ ts) h = (tt, are_printable ts h.1)
are_printable (Token.end_array ∷ ts) h = (tt, are_printable ts h.1)
are_printable (Token.key s ∷ ts) h = (tt, are_printable ts h.1)
are_printable (Token.string s ∷ ts) h = (tt, are_printable ts h.1)
are_printable (Token.number s ∷ ts) h = (h.0.0, are_printable ts h.1)
are_printable (Token.boolean b ∷ ts) h = (tt, are_printable ts h.1)
are_printable (Token.null ∷ ts) h = (tt, are_printable ts h.1)
are_printable (Token.bad ∷ ts) h = absurd h.0

token_utf8 : (t : Token) → TokenMay t → IsUtf8 (token_text t)
token_utf8 Token.begin_object h = IsUtf8-are_ascii (123 ∷ []) refl
token_utf8 Token.end_object h = IsUtf8-are_ascii (125 ∷ []) refl
token_utf8 Token.begin_array h = IsUtf8-are_ascii (91 ∷ []) refl
token_utf8 Token.end_array h = IsUtf8-are_ascii (93 ∷ []) refl
token_utf8 (Token.key s) h = IsUtf8-key s h
token_utf8 (Token.string s) h = IsUtf8-quoted s h
token_utf8 (Token.number s) h = IsUtf8-are_ascii s (visible_ascii s h.1)
token_utf8 (Token.boolean b) h = IsUtf8-boolean b
token_utf8 Token.null h = IsUtf8-are_ascii (110 ∷ 117 ∷ 108 ∷ 108 ∷ []) refl
token_utf8 Token.bad h = absurd h

printed_utf8 : (after : Bool) (ts : List Token) → TokensMay ts → IsUtf8 (print_from after ts)
unfolding print_from
printed_utf8 after [] h = IsUtf8-nil
printed_utf8 after (t ∷ ts) h =
    IsUtf8-append (separator after t) (token_text t ++ print_from (ends t) ts) (IsUtf8-separator after t)
    (IsUtf8-append (token_text t) (print_from (ends t) ts) (token_utf8 t h.0) (printed_utf8 (ends t) ts h.1))

-- ---- what is printed is read again

pub printed_back : (j : Json) → MayPrint j → depth j ≤ 1000 → json_of_text (print (json_tokens j)) ≡ Some j
printed_back j h d =
    let ts = tokens_may j h in
    let is : IsText (print (json_tokens j)) (json_tokens j) = record {
      utf8 = is_utf8-from_IsUtf8 (print (json_tokens j)) (printed_utf8 false (json_tokens j) ts);
      lexed = sym (tokens-print (json_tokens j) (are_printable (json_tokens j) ts));
    } in
    of_tokens (print (json_tokens j)) (json_tokens j) (Some j) is (whole_value j d)
