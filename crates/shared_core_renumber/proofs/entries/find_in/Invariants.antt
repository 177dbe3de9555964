use Rattle.std.proofs.Common.{◌≡◌, length}
use Rattle.shared_core_renumber.specs.Entries.{find_from, find_in}
use Rattle.shared_core_renumber.proofs.entries.find_in.Given as goal

abbrev pub invariant-loop-entry : goal.invariant-loop-entry
invariant-loop-entry l = find_from l.schema l.number l.before l.place l.rest ≡ find_in l.schema l.number l.own

abbrev pub decreases-loop-entry : goal.decreases-loop-entry
decreases-loop-entry l = length l.rest
