use Rattle.std.proofs.Common.{◌≡◌}
use Rattle.shared_core_codec.specs.Payloads.{payload_meaning}
use Rattle.shared_core_fields.specs.Views.{fields_left}
use Rattle.show_lines.specs.Contents.{has_failure, value_fields}
use Rattle.show_lines.proofs.facts.has_failure.Given as goal

abbrev pub invariant-loop-field : goal.invariant-loop-field
invariant-loop-field l = has_failure (fields_left l.field-iterator) ≡ has_failure
    (value_fields l.payload.schema (payload_meaning l.payload.schema l.payload.bytes.now))
