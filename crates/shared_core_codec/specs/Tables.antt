-- Tables of schemas by which payloads can be checked.
use Rattle.std.specs.Prelude.{◌≡◌, ℕ, zero, suc, Bool, true, false, ◌&&◌, not, List, [], ◌∷◌, refl}
use Rattle.std.specs.List.{list_all}
use Rattle.shared_core_wire.specs.Schema.{Kind, Row, Table, Message, Plain, is_schema, table_of}
use Rattle.shared_core_wire.specs.Acceptance.{accepts_payload}
use Rattle.shared_core_codec.specs.Table.{schemas, table as protocol}

-- Whether a kind is a message.
abbrev pub is_message : Kind → Bool
is_message (Message s) = true
is_message k = false

-- Whether a row may hold nothing: a plain message may not.
abbrev pub may_be_empty : Row → Bool
may_be_empty (Plain n k) = not (is_message k)
may_be_empty row = true

-- Whether rows are those of a message: their numbers are field numbers, no two fields share one, and no message field
-- is a plain one.
abbrev pub are_rows : List Row → Bool
are_rows rows = is_schema rows && list_all may_be_empty rows

-- Every entry of the table has such rows. A message kind names one of them, since a table has an entry at each number.
abbrev pub IsTable : Table → Type 0
IsTable table = (s : ℕ) → are_rows (table s) ≡ true

-- The payload, whose records are at nesting depth 0, is well-formed for a schema of the table. Depth 100 is the
-- greatest.
abbrev pub IsAcceptedIn : Table → ℕ → List ℕ → Type 0
IsAcceptedIn table s payload = accepts_payload table 100 s payload ≡ true

-- ---- tables of lists

both : (b c : Bool) → (b && c) ≡ true → (b ≡ true) × (c ≡ true)
both true c h = (refl, h)
both false c h = absurd cc

-- The table of a list is one if each item of the list is such rows.
pub each_is_rows : (all : List (List Row)) → list_all are_rows all ≡ true → IsTable (table_of all)
each_is_rows [] h s = refl
each_is_rows (rows ∷ all) h zero = (both _ _ h).0
each_is_rows (rows ∷ all) h (suc s) = each_is_rows all (both _ _ h).1 s

-- The table of the protocol is one.
pub protocol_is_table : IsTable protocol
protocol_is_table = each_is_rows schemas refl
