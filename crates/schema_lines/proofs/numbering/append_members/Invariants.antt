use Rattle.std.proofs.Common.{◌≡◌, ◌++◌, length}
use Rattle.schema_lines.specs.Entries.{members_of}
use Rattle.schema_lines.proofs.numbering.append_members.Given as goal

abbrev pub invariant-loop-field : goal.invariant-loop-field
invariant-loop-field l =
    l.row.items ++ members_of l.oneof l.rest ≡ l.fn.row.items ++ members_of l.oneof l.fields

abbrev pub decreases-loop-field : goal.decreases-loop-field
decreases-loop-field l = length l.rest
