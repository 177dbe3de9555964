-- The tokens of a value are good ones.
use Rattle.std.proofs.Common.{List, [], ◌∷◌, ◌++◌, refl}
use Rattle.json.specs.Token.{Token}
use Rattle.json.specs.Json.{Json, null, boolean, number, string, array, object, Items, no_items, item, Members}
use Rattle.json.specs.Json.{no_members, member}
use Rattle.json.specs.Tree.{json_tokens, items_tokens, members_tokens}
use Rattle.dump_lines.specs.Spread.{AreGood}

both : (ts us : List Token) → AreGood ts → AreGood us → AreGood (ts ++ us)
both [] us h k = k
both (t ∷ ts) us h k = (h.0, both ts us h.1 k)

mutual
  pub good_tokens : (j : Json) → AreGood (json_tokens j)
  good_tokens null = (refl, tt)
  good_tokens (boolean b) = (refl, tt)
  good_tokens (number s) = (refl, tt)
  good_tokens (string s) = (refl, tt)
  good_tokens (array js) = (refl, good_items js)
  good_tokens (object ms) = (refl, good_members ms)

  good_items : (js : Items) → AreGood (items_tokens js)
  good_items no_items = (refl, tt)
  good_items (item j js) = both _ _ (good_tokens j) (good_items js)

  good_members : (ms : Members) → AreGood (members_tokens ms)
  good_members no_members = (refl, tt)
  good_members (member k j ms) = (refl, both _ _ (good_tokens j) (good_members ms))
