use Rattle.std.proofs.Common.{◌≡◌, ◌++◌, length, map}
use Rattle.shared_core_json_reader.specs.LoadedEnums.{all_values_view}
use Rattle.descriptor_set.specs.TableEnums.{all_values, values_of}
use Rattle.descriptor_set.proofs.table_enums.all_values.Given as goal

abbrev pub invariant-loop-descriptor : goal.invariant-loop-descriptor
invariant-loop-descriptor l =
    all_values_view l.values.items ++ map values_of l.rest ≡ all_values l.set

abbrev pub decreases-loop-descriptor : goal.decreases-loop-descriptor
decreases-loop-descriptor l = length l.rest
