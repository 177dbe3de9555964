use Rattle.std.proofs.Common.{◌≡◌, ◌++◌, length}
use Rattle.descriptor_set.specs.Tables.{formed_in, unknown_in}
use Rattle.descriptor_set.proofs.table_rows.formed_of.Given as goal

abbrev pub invariant-loop-field : goal.invariant-loop-field
invariant-loop-field l =
    (l.formed.items ++ formed_in l.set l.rest ≡ formed_in l.set l.message.fields.items)
    × (unknown_in l.set l.rest ≡ unknown_in l.set l.message.fields.items)

abbrev pub decreases-loop-field : goal.decreases-loop-field
decreases-loop-field l = length l.rest
