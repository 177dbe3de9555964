use Rattle.std.proofs.Common.{◌≡◌, drop}
use Rattle.shared_core_json.specs.LoadedNames.{names_view}
use Rattle.shared_core_json_reader.specs.Readable.{are_found}
use Rattle.shared_core_json_reader.proofs.name_checks.are_found.Given as goal

abbrev pub invariant-loop-name : goal.invariant-loop-name
invariant-loop-name l =
    are_found (names_view l.names) (names_view (drop l.name-index l.names))
    ≡ are_found (names_view l.names) (names_view l.names)
