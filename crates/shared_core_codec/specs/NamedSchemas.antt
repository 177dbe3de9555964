-- The schemas that message kinds name.
use Rattle.std.specs.Prelude.{ℕ, Bool, List, [], ◌∷◌, length, flat_map, nat_lt}
use Rattle.std.specs.List.{list_all}
use Rattle.shared_core_wire.specs.Schema.{Kind, Row, U32, U64, Boolean, Enumeration, Text, ByteString, Message, Plain}
use Rattle.shared_core_wire.specs.Schema.{Optional, Repeated, OneOf}
use Rattle.shared_core_codec.specs.Table.{schemas}

-- The schema that a message kind names.
abbrev pub schema_of_kind : Kind → List ℕ
schema_of_kind U32 = []
schema_of_kind U64 = []
schema_of_kind Boolean = []
schema_of_kind Enumeration = []
schema_of_kind Text = []
schema_of_kind ByteString = []
schema_of_kind (Message s) = s ∷ []

-- The schemas that the message kinds of a row name.
abbrev pub named_schemas : Row → List ℕ
named_schemas (Plain n k) = schema_of_kind k
named_schemas (Optional n k) = schema_of_kind k
named_schemas (Repeated n k) = schema_of_kind k
named_schemas (OneOf members) = flat_map (λ m. schema_of_kind m.1) members

-- Whether each message kind of some rows names a schema of the table.
abbrev pub names_schemas : List Row → Bool
names_schemas rows = list_all (λ s. nat_lt s (length schemas)) (flat_map named_schemas rows)
