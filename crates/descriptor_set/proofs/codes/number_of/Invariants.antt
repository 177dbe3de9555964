use Rattle.std.proofs.Common.{◌≡◌, ◌≤◌, length}
use Rattle.descriptor_set.specs.Codes.{digits_after}
use Rattle.descriptor_set.proofs.codes.number_of.Given as goal

abbrev pub invariant-loop-first : goal.invariant-loop-first
invariant-loop-first l =
    (digits_after l.base l.number l.rest ≡ digits_after l.base 0 l.digits) × (l.number ≤ 65536)

abbrev pub decreases-loop-first : goal.decreases-loop-first
decreases-loop-first l = length l.rest
