use Rattle.std.proofs.Common.{◌≡◌, ◌+◌, ◌∙◌, List, map, drop, ap, arith}
use Rattle.std.proofs.lemmas.List.{drop-map}
use Rattle.shared_core_wire.specs.Schema.{Row}
use Rattle.shared_core_canonical.specs.Found.{place_in}
use Rattle.shared_core_canonical.proofs.RowsFound.{rows_passed}
use Rattle.shared_core_canonical.proofs.found.find_row.Goals as goal

pub loop-place-init : goal.loop-place-init
loop-place-init g c =
    let view = g.R.SchemaRow.view in
    let n = c.args.number in
    let start : 0 + c.args.before ≡ c.args.before = omega arith in
    rows_passed (map view c.args.rows.now) c.args.before 0 n c.requires.lack
    ∙ (ap (λ place. place_in (drop c.args.before (map view c.args.rows.now)) place n) start
    ∙ ap (λ (rows : List Row). place_in rows c.args.before n) (drop-map view c.args.before c.args.rows.now))
