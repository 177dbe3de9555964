-- The schemas of the protocol's messages are schemas.
use Rattle.std.proofs.Common.{◌≡◌, ℕ, true}
use Rattle.shared_core_wire.specs.Schema.{is_schema}
use Rattle.shared_core_wire.proofs.Runs.{and_split}
use Rattle.shared_core_codec.specs.Table.{table}
use Rattle.shared_core_codec.specs.Tables.{IsTable, protocol_is_table}

pub is_table : IsTable table
is_table = protocol_is_table

pub are_schemas : (s : ℕ) → is_schema (table s) ≡ true
are_schemas s = (and_split _ _ (is_table s)).0
