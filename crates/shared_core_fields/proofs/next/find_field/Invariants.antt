use Rattle.std.proofs.Common.{◌≡◌, length, map}
use Rattle.shared_core_codec.specs.Canonicity.{next_field}
use Rattle.shared_core_fields.proofs.next.find_field.Given as goal

abbrev pub invariant-loop-row : goal.invariant-loop-row
invariant-loop-row g l = next_field (map g.R.SchemaRow.view l.rest) l.number ≡ next_field (map g.R.SchemaRow.view
    l.rows)
    l.number

abbrev pub decreases-loop-row : goal.decreases-loop-row
decreases-loop-row g l = length l.rest
