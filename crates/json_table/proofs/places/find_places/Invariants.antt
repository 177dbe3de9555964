use Rattle.json_table.specs.Counts.{members_count}
use Rattle.json_table.proofs.Placing.{Steps}
use Rattle.json_table.proofs.places.find_places.Given as goal

abbrev pub invariant-loop-next : goal.invariant-loop-next
invariant-loop-next g l = Steps (g.N.Names.finds l.names) g.row.COUNT l.members l.rest l.places l.are_several

abbrev pub decreases-loop-next : goal.decreases-loop-next
decreases-loop-next g l = members_count l.rest
