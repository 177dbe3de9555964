use Rattle.std.proofs.Common.{◌≡◌, ◌≤◌, ◌+◌, length}
use Rattle.schema_lines.specs.Sayings.{same_count}
use Rattle.schema_lines.proofs.codes.same_count.Given as goal

abbrev pub invariant-loop-message : goal.invariant-loop-message
invariant-loop-message l =
    (l.count + same_count l.sayings l.rest l.left ≡ same_count l.sayings l.named l.codes)
    × (l.count + length l.rest ≤ length l.named)

abbrev pub decreases-loop-message : goal.decreases-loop-message
decreases-loop-message l = length l.rest
