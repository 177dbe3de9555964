use Rattle.std.proofs.Common.{◌≡◌, ◌+◌, ◌*◌, ◌-◌, ◌++◌}
use Rattle.std.specs.Prelude.{flat_map, string_bytes}
use Rattle.shared_core_codec.specs.Payloads.{payload_meaning}
use Rattle.shared_core_fields.specs.Views.{fields_left}
use Rattle.stream_summary.specs.Labels.{label, labels}
use Rattle.stream_summary.proofs.labels.+labels.Given as goal

abbrev pub decreases-push_field : goal.decreases-push_field
decreases-push_field l = 2 * l.levels + 1

abbrev pub decreases-push_fields : goal.decreases-push_fields
decreases-push_fields l = 2 * l.levels

abbrev pub invariant-push_fields-loop-field : goal.invariant-push_fields-loop-field
invariant-push_fields-loop-field l = string_bytes l.line ++ flat_map (label (l.levels - 1) l.payload.schema)
    (fields_left l.field-iterator)
    ≡ string_bytes l.initial.line ++ labels l.levels l.payload.schema
    (payload_meaning l.payload.schema l.payload.bytes.now)
