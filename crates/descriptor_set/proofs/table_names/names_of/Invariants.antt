use Rattle.std.proofs.Common.{◌≡◌, ◌++◌, length, map}
use Rattle.shared_core_json.specs.LoadedNames.{all_digits_view, all_names_view}
use Rattle.descriptor_set.specs.TableNames.{all_digits, all_names, message_digits, message_names_in}
use Rattle.descriptor_set.proofs.table_names.names_of.Given as goal

abbrev pub invariant-loop-message : goal.invariant-loop-message
invariant-loop-message l =
    (all_names_view l.names.items ++ map (message_names_in l.set) l.rest ≡ all_names l.set)
    × (all_digits_view l.names.items ++ map (message_digits l.set) l.rest ≡ all_digits l.set)

abbrev pub decreases-loop-message : goal.decreases-loop-message
decreases-loop-message l = length l.rest
