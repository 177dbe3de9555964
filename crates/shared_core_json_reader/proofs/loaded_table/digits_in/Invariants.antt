use Rattle.std.proofs.Common.{◌≡◌, drop, map}
use Rattle.shared_core_json.specs.LoadedNames.{digits_in, digits_view}
use Rattle.shared_core_json_reader.proofs.loaded_table.digits_in.Given as goal

abbrev pub invariant-loop-name : goal.invariant-loop-name
invariant-loop-name l =
    digits_in (map digits_view (drop l.name-index l.names)) l.number
    ≡ digits_in (map digits_view l.names) l.number
