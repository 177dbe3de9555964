use Rattle.std.proofs.Common.{◌≡◌, ◌++◌, length, map}
use Rattle.shared_core_codec.specs.LoadedRows.{schemas_view}
use Rattle.descriptor_set.specs.Tables.{field_rows, schemas_of}
use Rattle.descriptor_set.specs.TableErrors.{unknown_from, unknown_of}
use Rattle.descriptor_set.proofs.table.all_rows_of.Given as goal

abbrev pub invariant-loop-message : goal.invariant-loop-message
invariant-loop-message l =
    (schemas_view l.schemas.items ++ map (field_rows l.set) l.rest ≡ schemas_of l.set)
    × (unknown_from l.set l.rest ≡ unknown_of l.set)

abbrev pub decreases-loop-message : goal.decreases-loop-message
decreases-loop-message l = length l.rest
