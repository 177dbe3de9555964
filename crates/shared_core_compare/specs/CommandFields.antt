-- What a table of commands says of each.
use Rattle.std.specs.Prelude.{ℕ, List}

-- The fields of a command that are not compared, and those that are printed. A field is identified by its number, a
-- printed oneof by the least number of its members.
pub record CommandFields : Type 0 where
  -- never compared, since replay may change them
  pub not_compared : List ℕ
  -- payloads, which are not compared if payloads are ignored
  pub payloads : List ℕ
  -- printed in this order under these names, if they differ
  pub printed : List (ℕ × List ℕ)
