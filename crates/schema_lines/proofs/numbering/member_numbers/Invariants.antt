use Rattle.std.proofs.Common.{◌≡◌, ◌++◌, length, map}
use Rattle.shared_core_codec.specs.ProgramRows.{field_view}
use Rattle.schema_lines.specs.Entries.{member_numbers}
use Rattle.schema_lines.proofs.numbering.member_numbers.Given as goal

abbrev pub invariant-loop-member : goal.invariant-loop-member
invariant-loop-member l =
    l.own.items ++ member_numbers (map field_view l.rest) ≡ member_numbers (map field_view l.members)

abbrev pub decreases-loop-member : goal.decreases-loop-member
decreases-loop-member l = length l.rest
