use Rattle.std.proofs.Common.{◌≡◌, ◌+◌, ◌++◌, length}
use Rattle.shared_core_codec.specs.LoadedRows.{rows_view}
use Rattle.shared_core_codec.specs.RowIndexes.{places_from}
use Rattle.shared_core_codec.proofs.row_index.number_places.Given as goal

abbrev pub invariant-loop-row : goal.invariant-loop-row
invariant-loop-row l = (l.place + length l.rest ≡ length l.rows) × (l.index.items ++ places_from l.place
    (rows_view l.rest) ≡ places_from 0 (rows_view l.rows))

abbrev pub decreases-loop-row : goal.decreases-loop-row
decreases-loop-row l = length l.rest
