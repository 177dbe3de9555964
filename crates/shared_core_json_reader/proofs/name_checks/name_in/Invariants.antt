use Rattle.std.proofs.Common.{◌≡◌, drop}
use Rattle.shared_core_json.specs.LoadedNames.{names_view}
use Rattle.shared_core_json.specs.Fields.{name_in}
use Rattle.shared_core_json_reader.proofs.name_checks.name_in.Given as goal

abbrev pub invariant-loop-name : goal.invariant-loop-name
invariant-loop-name l =
    name_in (names_view (drop l.name-index l.names)) l.number
    ≡ name_in (names_view l.names) l.number
