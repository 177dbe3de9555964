-- The fields of all levels of a value, those of nested messages after the field that holds them.
use Rattle.std.specs.Prelude.{ℕ, zero, suc, ◌+◌, List, [], ◌∷◌, flat_map}
use Rattle.shared_core_wire.specs.Schema.{Kind, Message}
use Rattle.shared_core_wire.specs.Value.{Part, Parts, Nested}
use Rattle.shared_core_wire.specs.Canonical.{levels}
use Rattle.shared_core_codec.specs.Table.{table}
use Rattle.shared_core_fields.specs.Fields.{FieldPart, message_fields}

-- A field, and how deep the message is that it is of.
abbrev pub LevelField : Type 0
LevelField = ℕ × FieldPart

-- The fields within a part of a kind, where `nested` has those of a message.
abbrev pub within_part : (ℕ → Parts → List LevelField) → Part → Kind → List LevelField
within_part nested (Nested ps) (Message s) = nested s ps
within_part nested p k = []

-- The fields within a field, likewise.
abbrev pub within_field : (ℕ → Parts → List LevelField) → FieldPart → List LevelField
within_field nested f = within_part nested f.2 f.1.0

-- A field at a level, and then the fields within it, where messages are nested at most `left` deep in it.
unfoldable pub field_entries : ℕ → ℕ → FieldPart → List LevelField
field_entries zero level f = (level, f) ∷ []
field_entries (suc left) level f =
    (level, f) ∷ within_field (λ s v. flat_map (field_entries left (level + 1)) (message_fields (table s) v)) f

-- The fields of a value of the schema s, which is at a level, and those within them.
abbrev pub message_entries : ℕ → ℕ → Parts → List LevelField
message_entries level s v = flat_map (field_entries (levels v) level) (message_fields (table s) v)
