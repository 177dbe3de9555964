-- No plain field of a schema is a message.
use Rattle.std.proofs.Common.{◌≡◌, ℕ, zero, suc, List, [], ◌∷◌, Bool, true, false, ◌&&◌, refl}
use Rattle.std.specs.List.{list_all}
use Rattle.shared_core_wire.specs.Schema.{Kind, Row, U32, U64, Boolean, Enumeration, Text, ByteString, Message}
use Rattle.shared_core_wire.specs.Schema.{Plain, Optional, Repeated, OneOf, table_of}
use Rattle.shared_core_wire.proofs.Runs.{and_split}
use Rattle.shared_core_codec.specs.Table.{schemas, table}

-- a kind whose default is there
abbrev pub is_scalar : Kind → Bool
is_scalar U32 = true
is_scalar U64 = true
is_scalar Boolean = true
is_scalar Enumeration = true
is_scalar Text = true
is_scalar ByteString = true
is_scalar (Message s) = false

-- no plain field is a message
unfoldable pub plain_scalars : List Row → Bool
plain_scalars [] = true
plain_scalars (Plain n k ∷ rows) = is_scalar k && plain_scalars rows
plain_scalars (Optional n k ∷ rows) = plain_scalars rows
plain_scalars (Repeated n k ∷ rows) = plain_scalars rows
plain_scalars (OneOf members ∷ rows) = plain_scalars rows

each_has : (all : List (List Row)) → list_all plain_scalars all ≡ true → (s : ℕ) → plain_scalars (table_of all s) ≡ true
unfolding plain_scalars
each_has [] h s = refl
each_has (rows ∷ all) h zero = (and_split _ _ h).0
each_has (rows ∷ all) h (suc s) = each_has all (and_split _ _ h).1 s

pub have_scalars : (s : ℕ) → plain_scalars (table s) ≡ true
unfolding plain_scalars
have_scalars s = each_has schemas refl s
