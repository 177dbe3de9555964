use Rattle.std.proofs.Common.{◌≡◌, ◌≤◌, ◌-◌, ◌++◌, drop, length, take}
use Rattle.shared_core_canonical.specs.Places.{front_at}
use Rattle.shared_core_canonical.proofs.places.front_at.Given as goal

abbrev pub invariant-loop-count : goal.invariant-loop-count
invariant-loop-count g l = record {
  within : l.count ≤ length l.rest;
  front : front_at l.place l.rest ≡ take l.count l.rest ++ front_at l.place (drop l.count l.rest);
}

abbrev pub decreases-loop-count : goal.decreases-loop-count
decreases-loop-count g l = length l.rest - l.count
