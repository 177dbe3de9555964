use Rattle.std.proofs.Common.{◌≡◌, length}
use Rattle.shared_core_renumber.specs.Entries.{from_schema}
use Rattle.shared_core_renumber.proofs.entries.from_schema.Given as goal

abbrev pub invariant-loop-entry : goal.invariant-loop-entry
invariant-loop-entry l = from_schema l.schema l.rest ≡ from_schema l.schema l.entries

abbrev pub decreases-loop-entry : goal.decreases-loop-entry
decreases-loop-entry l = length l.rest
