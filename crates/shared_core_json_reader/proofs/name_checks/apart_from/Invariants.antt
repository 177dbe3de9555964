use Rattle.std.proofs.Common.{◌≡◌, drop}
use Rattle.std.specs.List.{list_all}
use Rattle.shared_core_json.specs.LoadedNames.{name_view, names_view}
use Rattle.shared_core_json_reader.specs.Readable.{are_apart}
use Rattle.shared_core_json_reader.proofs.name_checks.apart_from.Given as goal

abbrev pub invariant-loop-other : goal.invariant-loop-other
invariant-loop-other l =
    list_all (are_apart (name_view l.name)) (names_view (drop l.other-index l.names))
    ≡ list_all (are_apart (name_view l.name)) (names_view l.names)
