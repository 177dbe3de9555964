use Rattle.std.proofs.Common.{◌≡◌, ◌++◌, length, map}
use Rattle.shared_core_json_reader.specs.LoadedEnums.{values_view}
use Rattle.descriptor_set.specs.TableEnums.{value_of, values_of}
use Rattle.descriptor_set.proofs.table_enums.values_of.Given as goal

abbrev pub invariant-loop-value : goal.invariant-loop-value
invariant-loop-value l =
    values_view l.values.items ++ map value_of l.rest ≡ values_of l.descriptor

abbrev pub decreases-loop-value : goal.decreases-loop-value
decreases-loop-value l = length l.rest
