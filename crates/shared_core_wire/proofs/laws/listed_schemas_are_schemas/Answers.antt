use Rattle.std.proofs.Common.{◌≡◌, ℕ, zero, suc, List, [], ◌∷◌, true, refl}
use Rattle.std.specs.List.{list_all}
use Rattle.shared_core_wire.specs.Schema.{Row, table_of, is_schema}
use Rattle.shared_core_wire.proofs.Runs.{and_split}
use Rattle.shared_core_wire.proofs.laws.listed_schemas_are_schemas.Goals as goal

each_is_schema : (schemas : List (List Row)) → list_all is_schema schemas ≡ true → (s : ℕ) → is_schema
    (table_of schemas s) ≡ true
each_is_schema [] h s = refl
each_is_schema (rows ∷ schemas) h zero = (and_split _ _ h).0
each_is_schema (rows ∷ schemas) h (suc s) = each_is_schema schemas (and_split _ _ h).1 s

pub returns : goal.returns
returns c = each_is_schema
