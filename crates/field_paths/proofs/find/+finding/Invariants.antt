use Rattle.std.proofs.Common.{◌≡◌, ◌+◌, ◌*◌, ◌-◌}
use Rattle.shared_core_codec.specs.Payloads.{payload_meaning}
use Rattle.shared_core_fields.specs.Views.{fields_left}
use Rattle.field_paths.specs.Paths.{found_among, found_at}
use Rattle.field_paths.proofs.find.+finding.Given as goal

abbrev pub decreases-find_within : goal.decreases-find_within
decreases-find_within l = 2 * l.levels + 1

abbrev pub decreases-find_in : goal.decreases-find_in
decreases-find_in l = 2 * l.levels

abbrev pub invariant-find_in-loop-field : goal.invariant-find_in-loop-field
invariant-find_in-loop-field l = found_among (found_at (l.levels - 1)) l.payload.schema l.path l.before l.index
    (fields_left l.field-iterator)
    ≡ found_at l.levels l.payload.schema (payload_meaning l.payload.schema l.payload.bytes.now) l.path
