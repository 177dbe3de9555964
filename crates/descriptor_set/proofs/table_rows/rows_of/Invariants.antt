use Rattle.std.proofs.Common.{◌≡◌, ◌++◌, [], length}
use Rattle.shared_core_codec.specs.LoadedRows.{rows_view}
use Rattle.descriptor_set.specs.Tables.{rows_from}
use Rattle.descriptor_set.proofs.table_rows.rows_of.Given as goal

abbrev pub invariant-loop-first : goal.invariant-loop-first
invariant-loop-first l = rows_view l.rows.items ++ rows_from l.seen.items l.rest ≡ rows_from [] l.fields

abbrev pub decreases-loop-first : goal.decreases-loop-first
decreases-loop-first l = length l.rest
