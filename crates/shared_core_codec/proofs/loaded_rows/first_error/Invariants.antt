use Rattle.std.proofs.Common.{◌≡◌, ◌+◌, length}
use Rattle.shared_core_codec.specs.LoadedRows.{schemas_view}
use Rattle.shared_core_codec.specs.TableErrors.{error_from, table_error}
use Rattle.shared_core_codec.proofs.loaded_rows.first_error.Given as goal

abbrev pub invariant-loop-rows : goal.invariant-loop-rows
invariant-loop-rows l = (l.schema + length l.rest ≡ length l.schemas) × (error_from (length l.schemas) l.schema
    (schemas_view l.rest) ≡ table_error (schemas_view l.schemas))

abbrev pub decreases-loop-rows : goal.decreases-loop-rows
decreases-loop-rows l = length l.rest
