-- The payload of a table, written at the front of a slice.
use Rattle.std.specs.Prelude.{◌≡◌, ℕ, List, ◌++◌, map, length, drop, nat_le, if◌then◌else◌, Ok}
use Rattle.shared_core_codec.specs.Canonicity.{IsCanonical}
use Rattle.shared_core_codec.specs.Payloads.{payload_meaning}
use Rattle.shared_core_fields.specs.Rows.{table_rows}
use Rattle.shared_core_fields.specs.declared.table.FieldEntry.{FieldEntry}
use Rattle.shared_core_fields_writer.specs.Tables.{given_row, given_rows}
use Rattle.shared_core_fields_writer.specs.Walk.{entries_payload}

-- A slice with these bytes at its front, if it is as long, otherwise as it was.
abbrev pub with_front : List ℕ → List ℕ → List ℕ
with_front bytes old = if nat_le (length bytes) (length old) then bytes ++ drop (length bytes) old else old

-- A table gives this payload, which is canonical, means what the table says, has this length, and is written.
pub record WritesPayload (s : ℕ) (es : List FieldEntry) (bytes old new : List ℕ) (size : ℕ) (payload : List ℕ)
    : Type 0 where
  pub gives : entries_payload s es bytes ≡ Ok payload
  pub canonical : IsCanonical s payload
  pub meaning : given_rows bytes s 0 es ≡ map given_row (table_rows s (payload_meaning s payload))
  pub has : size ≡ length payload
  pub written : new ≡ with_front payload old
