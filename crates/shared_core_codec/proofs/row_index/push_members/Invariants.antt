use Rattle.std.proofs.Common.{◌≡◌, ◌++◌, length, map}
use Rattle.shared_core_codec.specs.ProgramRows.{field_view}
use Rattle.shared_core_codec.specs.RowIndexes.{places_of}
use Rattle.shared_core_codec.proofs.row_index.push_members.Given as goal

abbrev pub invariant-loop-member : goal.invariant-loop-member
invariant-loop-member l =
    l.index.items ++ places_of l.place (map (λ m. m.0) (map field_view l.rest)) ≡
    l.initial.index.items ++ places_of l.place (map (λ m. m.0) (map field_view l.members))

abbrev pub decreases-loop-member : goal.decreases-loop-member
decreases-loop-member l = length l.rest
