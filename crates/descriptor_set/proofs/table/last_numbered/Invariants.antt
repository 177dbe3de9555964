use Rattle.std.proofs.Common.{◌≡◌, None, length}
use Rattle.std.specs.Option.{option_copied}
use Rattle.descriptor_set.specs.TableErrors.{last_numbered}
use Rattle.descriptor_set.proofs.table.last_numbered.Given as goal

abbrev pub invariant-loop-field : goal.invariant-loop-field
invariant-loop-field l =
    last_numbered (option_copied l.found) l.number l.rest ≡ last_numbered None l.number l.fields

abbrev pub decreases-loop-field : goal.decreases-loop-field
decreases-loop-field l = length l.rest
