use Rattle.std.proofs.Common.{◌≡◌, drop, map}
use Rattle.shared_core_canonical.specs.Found.{place_in}
use Rattle.shared_core_canonical.proofs.found.find_row.Given as goal

abbrev pub invariant-loop-place : goal.invariant-loop-place
invariant-loop-place g l =
    place_in (map g.R.SchemaRow.view l.rows) 0 l.number ≡
    place_in (map g.R.SchemaRow.view (drop l.place l.rows)) l.place l.number
