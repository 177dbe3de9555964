use Rattle.std.proofs.Common.{◌≡◌, None, drop}
use Rattle.shared_core_canonical.specs.Found.{found_records}
use Rattle.shared_core_canonical.specs.Rows.{last_over}
use Rattle.shared_core_canonical.specs.Singles.{last_view}
use Rattle.shared_core_canonical.proofs.single.read_last.Given as goal

abbrev pub invariant-loop-found : goal.invariant-loop-found
invariant-loop-found g l =
    last_over (g.R.SchemaRow.view l.row) (last_view l.last l.joined.items)
    (found_records (drop l.found-index l.source.records.now)) ≡
    last_over (g.R.SchemaRow.view l.row) None (found_records l.source.records.now)
