use Rattle.std.proofs.Common.{◌≡◌, map, drop}
use Rattle.shared_core_json_reader.specs.Rows.{enum_field_view, values_in, enum_values}
use Rattle.shared_core_json_reader.proofs.rows.values_of.Given as goal

abbrev pub invariant-loop-field : goal.invariant-loop-field
invariant-loop-field l = values_in (map enum_field_view (drop l.field-index l.field-items)) l.schema l.number ≡
    enum_values l.schema l.number
