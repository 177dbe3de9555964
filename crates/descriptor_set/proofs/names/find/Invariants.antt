use Rattle.std.proofs.Common.{◌-◌, ◌≡◌, ◌≤◌, map, length}
use Rattle.descriptor_set.specs.Found.{halved, index_of}
use Rattle.descriptor_set.proofs.names.find.Given as goal

abbrev pub invariant-loop-low : goal.invariant-loop-low
invariant-loop-low g l =
    (l.high ≤ length l.items)
    × (halved (l.high - l.low) (map g.T.Named.name_bytes l.items) l.name l.low l.high
    ≡ index_of (map g.T.Named.name_bytes l.items) l.name)

abbrev pub decreases-loop-low : goal.decreases-loop-low
decreases-loop-low g l = l.high - l.low
