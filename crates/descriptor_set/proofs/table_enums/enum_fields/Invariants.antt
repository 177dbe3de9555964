use Rattle.std.proofs.Common.{◌≡◌, ◌++◌, length}
use Rattle.shared_core_json_reader.specs.LoadedEnums.{fields_view}
use Rattle.descriptor_set.specs.TableEnums.{enum_fields}
use Rattle.descriptor_set.proofs.table_enums.enum_fields.Given as goal

abbrev pub invariant-loop-field : goal.invariant-loop-field
invariant-loop-field l =
    fields_view l.found.items ++ enum_fields l.set l.rest ≡ enum_fields l.set l.fields

abbrev pub decreases-loop-field : goal.decreases-loop-field
decreases-loop-field l = length l.rest
