use Rattle.std.proofs.Common.{◌≡◌, ◌-◌, length, drop}
use Rattle.make_lines.specs.Places.{names, index_in, place_of}
use Rattle.make_lines.proofs.members.place_of.Given as goal

abbrev pub invariant-loop-place : goal.invariant-loop-place
invariant-loop-place l = index_in (drop l.place names) l.place l.key ≡ place_of l.key

abbrev pub decreases-loop-place : goal.decreases-loop-place
decreases-loop-place l = length l.names - l.place
