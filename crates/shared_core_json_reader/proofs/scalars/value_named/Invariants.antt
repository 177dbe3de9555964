use Rattle.std.proofs.Common.{◌≡◌, map, drop}
use Rattle.shared_core_json_reader.specs.Rows.{value_view}
use Rattle.shared_core_json_reader.specs.Scalars.{value_named}
use Rattle.shared_core_json_reader.proofs.scalars.value_named.Given as goal

abbrev pub invariant-loop-value : goal.invariant-loop-value
invariant-loop-value l = value_named (map value_view (drop l.value-index l.values)) l.name ≡ value_named
    (map value_view l.values) l.name
