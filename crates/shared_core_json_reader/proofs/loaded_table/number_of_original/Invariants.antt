use Rattle.std.proofs.Common.{◌≡◌, drop}
use Rattle.shared_core_json.specs.LoadedNames.{names_view}
use Rattle.shared_core_json_reader.specs.Reading.{original_name}
use Rattle.shared_core_json_reader.specs.Places.{number_by}
use Rattle.shared_core_json_reader.proofs.loaded_table.number_of_original.Given as goal

abbrev pub invariant-loop-name : goal.invariant-loop-name
invariant-loop-name l =
    number_by original_name (names_view (drop l.name-index l.names)) l.key
    ≡ number_by original_name (names_view l.names) l.key
