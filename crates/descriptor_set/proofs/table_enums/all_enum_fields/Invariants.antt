use Rattle.std.proofs.Common.{◌≡◌, ◌++◌, length, map}
use Rattle.shared_core_json_reader.specs.LoadedEnums.{all_fields_view}
use Rattle.descriptor_set.specs.TableEnums.{all_enum_fields, message_enums}
use Rattle.descriptor_set.proofs.table_enums.all_enum_fields.Given as goal

abbrev pub invariant-loop-message : goal.invariant-loop-message
invariant-loop-message l =
    all_fields_view l.fields.items ++ map (message_enums l.set) l.rest ≡ all_enum_fields l.set

abbrev pub decreases-loop-message : goal.decreases-loop-message
decreases-loop-message l = length l.rest
