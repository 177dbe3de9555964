use Rattle.std.proofs.Common.{◌≡◌, drop}
use Rattle.shared_core_json.specs.LoadedNames.{names_view, unsorted_after}
use Rattle.shared_core_json.proofs.loaded_names.first_unsorted.Given as goal

abbrev pub invariant-loop-name : goal.invariant-loop-name
invariant-loop-name l = unsorted_after l.before (names_view (drop l.name-index l.names)) ≡ unsorted_after 0
    (names_view l.names)
