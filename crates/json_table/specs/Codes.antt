-- How the logic stores a value, items and members: as their tokens.
use Rattle.std.proofs.Common.{◌≡◌, List, [], sym, ap, ◌∙◌, append-nil}
use Rattle.std.specs.Coded.{Coded, code_by}
use Rattle.json.specs.Token.{Token, tokens_code}
use Rattle.json.specs.Json.{Json, Items, Members, array, object}
use Rattle.json.specs.Tree.{json_tokens}
use Rattle.json_table.specs.Entries.{first_value, items_of_array, members_of_object}
use Rattle.json_table.specs.Back.{first_value-json_tokens}

pub json_tokens_back : (j : Json) → first_value (json_tokens j) ≡ j
json_tokens_back j = ap first_value (sym (append-nil (json_tokens j))) ∙ first_value-json_tokens j []

abbrev pub value_code : Coded Json
value_code = code_by (List Token) tokens_code json_tokens first_value json_tokens_back

abbrev pub items_code : Coded Items
items_code =
    code_by (List Token) tokens_code (λ js. json_tokens (array js)) (λ ts. items_of_array (first_value ts))
    (λ js. ap items_of_array (json_tokens_back (array js)))

abbrev pub members_code : Coded Members
members_code =
    code_by (List Token) tokens_code (λ ms. json_tokens (object ms)) (λ ts. members_of_object (first_value ts))
    (λ ms. ap members_of_object (json_tokens_back (object ms)))
