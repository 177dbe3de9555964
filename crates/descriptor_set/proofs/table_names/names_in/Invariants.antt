use Rattle.std.proofs.Common.{◌≡◌, ◌++◌, length, map}
use Rattle.shared_core_json.specs.LoadedNames.{digits_view, names_view}
use Rattle.descriptor_set.specs.TableNames.{digits_by, names_in}
use Rattle.descriptor_set.proofs.table_names.names_in.Given as goal

abbrev pub invariant-loop-field : goal.invariant-loop-field
invariant-loop-field l =
    (names_view l.names.items ++ names_in l.set l.rest ≡ names_in l.set l.fields)
    × (map digits_view l.names.items ++ digits_by l.set l.rest ≡ digits_by l.set l.fields)

abbrev pub decreases-loop-field : goal.decreases-loop-field
decreases-loop-field l = length l.rest
