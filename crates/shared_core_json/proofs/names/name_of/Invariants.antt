use Rattle.std.proofs.Common.{◌≡◌, map, drop}
use Rattle.shared_core_json.specs.Fields.{name_view, names_of, name_in, name_of}
use Rattle.shared_core_json.proofs.names.name_of.Given as goal

abbrev pub invariant-loop-name : goal.invariant-loop-name
invariant-loop-name l =
    name_in (map name_view (drop l.name-index l.name-items)) l.number ≡ name_of (names_of l.schema) l.number
