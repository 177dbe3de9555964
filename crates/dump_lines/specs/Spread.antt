-- The text of an object, on one line or on several.
use Rattle.std.specs.Prelude.{◌≡◌, Bool, true, ℕ, List, [], ◌∷◌, if◌then◌else◌, ⊤}
use Rattle.json.specs.Align.{is_good}
use Rattle.json.specs.Json.{Json}
use Rattle.json.specs.Layout.{pretty}
use Rattle.json.specs.Print.{print}
use Rattle.json.specs.Token.{Token}
use Rattle.json.specs.Tree.{json_tokens}

-- The text of these tokens: without spaces on one line, or with one line per member and element, indented by two spaces
-- a level.
abbrev pub tokens_text : Bool → List Token → List ℕ
tokens_text is_pretty tokens = if is_pretty then pretty tokens else print tokens

-- The text of an object.
abbrev pub json_text : Bool → Json → List ℕ
json_text is_pretty json = tokens_text is_pretty (json_tokens json)

-- None of the tokens says that a text is no JSON.
abbrev pub AreGood : List Token → Type 0
AreGood [] = ⊤
AreGood (t ∷ ts) = (is_good t ≡ true) × AreGood ts
