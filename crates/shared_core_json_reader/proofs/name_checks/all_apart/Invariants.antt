use Rattle.std.proofs.Common.{◌≡◌, drop}
use Rattle.std.specs.List.{list_all}
use Rattle.shared_core_json.specs.LoadedNames.{names_view}
use Rattle.shared_core_json_reader.specs.Readable.{are_apart}
use Rattle.shared_core_json_reader.proofs.name_checks.all_apart.Given as goal

abbrev pub invariant-loop-name : goal.invariant-loop-name
invariant-loop-name l =
    list_all (λ x. list_all (are_apart x) (names_view l.names)) (names_view (drop l.name-index l.names))
    ≡ list_all (λ x. list_all (are_apart x) (names_view l.names)) (names_view l.names)
