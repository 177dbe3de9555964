-- Which messages of a set are the protocol's.
use Rattle.std.specs.Prelude.{◌≡◌, ℕ, nat_lt, if◌then◌else◌, List, map, Option, Some, None, Result, Ok, Err}
use Rattle.std.specs.Prelude.{slice_get}
use Rattle.std.specs.Option.{option_flatten}
use Rattle.descriptor_set.specs.declared.set.DescriptorSet.{DescriptorSet}
use Rattle.schema_lines.specs.declared.error.SchemaError.{SchemaError}
use Rattle.schema_lines.specs.declared.error.SchemaError.TheVariants as error
use Rattle.schema_lines.specs.declared.pairs.Pairs.{Pairs}
use Rattle.schema_lines.specs.declared.renames.RenameFault.{RenameFault}
use Rattle.schema_lines.specs.Chosen.{choices}
use Rattle.schema_lines.specs.MessageNames.{message_codes}
use Rattle.schema_lines.specs.Named.{with_suspensions}
use Rattle.schema_lines.specs.Sayings.{sayings_of}

-- The message of a set that payloads of each schema are read by, from those of the names.
unfoldable pub read_of : DescriptorSet → List (Option ℕ) → List (Option ℕ)
read_of set own = choices (sayings_of set.messages.items own) message_codes own

-- The message for a schema, if there is one.
abbrev pub found_at : List (Option ℕ) → ℕ → Option ℕ
found_at found schema = option_flatten (slice_get found schema)

-- The pairs of a set and renames. An allocation may fail.
abbrev pub FindsPairs : DescriptorSet → Result (List (Option ℕ)) (ℕ × RenameFault) → Result Pairs SchemaError → Type 0
FindsPairs set wanted (Ok pairs) =
    (wanted ≡ Ok pairs.named.items) × (pairs.own.items ≡ with_suspensions pairs.named.items)
    × (pairs.read.items ≡ read_of set (with_suspensions pairs.named.items))
FindsPairs set wanted (Err (error.Rename index fault)) = wanted ≡ Err (index, fault)
FindsPairs set wanted (Err error.OutOfMemory) = Unit {0}
FindsPairs set wanted (Err other) = ⊥

-- The index of a message as one of a schema.
abbrev pub schema_of : Option ℕ → Option ℕ
schema_of None = None
schema_of (Some index) = if nat_lt index 0x1_0000_0000 then Some index else None

-- The message that payloads of each schema are read by, if no rename is wrong.
abbrev pub schemas_in : DescriptorSet → Result (List (Option ℕ)) (ℕ × RenameFault)
    → Result (List (Option ℕ)) (ℕ × RenameFault)
schemas_in set (Err wrong) = Err wrong
schemas_in set (Ok named) = Ok (map schema_of (read_of set (with_suspensions named)))
