-- The result of the call on the fields of a payload.
use Rattle.std.specs.Prelude.{◌≡◌, ℕ, ◌≤◌, nat_lt, true, false, List, length, Result, Ok, Err}
use Rattle.shared_core_codec.specs.Table.{schemas}
use Rattle.shared_core_codec.specs.Payloads.{IsAccepted, payload_meaning}
use Rattle.shared_core_codec.specs.Canonicity.{IsCanonical}
use Rattle.shared_core_fields.specs.declared.table.FieldEntry.{FieldEntry}
use Rattle.shared_core_fields.specs.Rows.{table_rows, WritesRows}
use Rattle.journal_c_api.specs.declared.outcome.CallError.{CallError}
use Rattle.journal_c_api.specs.declared.outcome.CallError.TheVariants.{Malformed, NotCanonical, UnknownSchema}

-- The result of journal_fields, and what it writes: the count of the rows of what the payload means, and entries of
-- exactly these rows, as many as there is room for. UnknownSchema if no schema has the number, otherwise Malformed if
-- the payload is not well-formed, or NotCanonical if it is and is not canonical; after each of them the slice is
-- unchanged.
abbrev pub WritesFields : ℕ → List ℕ → List FieldEntry → List FieldEntry → Result ℕ CallError → Type 0
WritesFields s payload old new (Ok count) =
    (nat_lt s (length schemas) ≡ true) × IsCanonical s payload × (count ≤ length payload)
    × (count ≡ length (table_rows s (payload_meaning s payload)))
    × WritesRows payload (table_rows s (payload_meaning s payload)) 0 old new
WritesFields s payload old new (Err UnknownSchema) = (nat_lt s (length schemas) ≡ false) × (new ≡ old)
WritesFields s payload old new (Err Malformed) =
    (nat_lt s (length schemas) ≡ true) × ¬ (IsAccepted s payload) × (new ≡ old)
WritesFields s payload old new (Err NotCanonical) =
    (nat_lt s (length schemas) ≡ true) × IsAccepted s payload × ¬ (IsCanonical s payload) × (new ≡ old)
WritesFields s payload old new (Err error) = ⊥
