use Rattle.std.proofs.Common.{◌≡◌, length}
use Rattle.shared_core_codec.specs.LoadedRows.{rows_view}
use Rattle.shared_core_codec.specs.TableErrors.{rows_fault}
use Rattle.shared_core_codec.proofs.loaded_rows.rows_fault.Given as goal

abbrev pub invariant-loop-row : goal.invariant-loop-row
invariant-loop-row l = rows_fault l.count (rows_view l.rest) ≡ rows_fault l.count (rows_view l.rows)

abbrev pub decreases-loop-row : goal.decreases-loop-row
decreases-loop-row l = length l.rest
