use Rattle.std.proofs.Common.{◌≡◌, drop}
use Rattle.shared_core_json_reader.specs.LoadedEnums.{values_view}
use Rattle.shared_core_json_reader.specs.Scalars.{value_named}
use Rattle.shared_core_json_reader.proofs.loaded_enums.value_named.Given as goal

abbrev pub invariant-loop-value : goal.invariant-loop-value
invariant-loop-value l =
    value_named (values_view (drop l.value-index l.values)) l.name ≡ value_named (values_view l.values) l.name
