use Rattle.std.proofs.Common.{◌≡◌}
use Rattle.json_table.specs.Counts.{members_count}
use Rattle.make_lines.specs.Members.{has_key}
use Rattle.make_lines.proofs.members.has_key.Given as goal

abbrev pub invariant-loop-other : goal.invariant-loop-other
invariant-loop-other l = has_key l.key l.rest ≡ has_key l.key l.members

abbrev pub decreases-loop-other : goal.decreases-loop-other
decreases-loop-other l = members_count l.rest
