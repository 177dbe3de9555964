use Rattle.std.proofs.Common.{◌≡◌}
use Rattle.json_table.specs.Counts.{members_count}
use Rattle.make_lines.specs.Members.{members_fault}
use Rattle.make_lines.proofs.members.first_fault.Given as goal

abbrev pub invariant-loop-key : goal.invariant-loop-key
invariant-loop-key l = members_fault l.rest ≡ members_fault l.members

abbrev pub decreases-loop-key : goal.decreases-loop-key
decreases-loop-key l = members_count l.rest
