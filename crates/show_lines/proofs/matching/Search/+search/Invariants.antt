use Rattle.std.proofs.Common.{◌≡◌, ◌+◌, ◌*◌, ◌-◌}
use Rattle.std.specs.List.{list_any}
use Rattle.shared_core_codec.specs.Payloads.{payload_meaning}
use Rattle.shared_core_fields.specs.Views.{fields_left}
use Rattle.show_lines.specs.Filter.{field_passes, fields_pass}
use Rattle.show_lines.proofs.matching.Search.+search.Given as goal

abbrev pub decreases-field_passes : goal.decreases-field_passes
decreases-field_passes l = 2 * l.levels + 1

abbrev pub decreases-fields_pass : goal.decreases-fields_pass
decreases-fields_pass l = 2 * l.levels

abbrev pub invariant-fields_pass-loop-field : goal.invariant-fields_pass-loop-field
invariant-fields_pass-loop-field l =
    list_any (field_passes l.self.test.now (l.levels - 1) l.payload.schema) (fields_left l.field-iterator)
    ≡ fields_pass l.self.test.now l.levels l.payload.schema
    (payload_meaning l.payload.schema l.payload.bytes.now)
