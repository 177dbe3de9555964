use Rattle.std.proofs.Common.{◌≡◌, ◌++◌, length, map}
use Rattle.shared_core_codec.specs.ProgramRows.{field_view}
use Rattle.descriptor_set.specs.Tables.{members_of}
use Rattle.descriptor_set.proofs.table_rows.append_members.Given as goal

abbrev pub invariant-loop-formed : goal.invariant-loop-formed
invariant-loop-formed l =
    map field_view l.members.items ++ members_of l.oneof l.rest
    ≡ map field_view l.fn.members.items ++ members_of l.oneof l.fields

abbrev pub decreases-loop-formed : goal.decreases-loop-formed
decreases-loop-formed l = length l.rest
