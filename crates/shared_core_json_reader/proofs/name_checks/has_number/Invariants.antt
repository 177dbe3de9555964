use Rattle.std.proofs.Common.{◌≡◌, drop}
use Rattle.shared_core_wire.specs.Schema.{includes}
use Rattle.shared_core_json.specs.LoadedNames.{names_view}
use Rattle.shared_core_json_reader.specs.Readable.{numbers_of}
use Rattle.shared_core_json_reader.proofs.name_checks.has_number.Given as goal

abbrev pub invariant-loop-name : goal.invariant-loop-name
invariant-loop-name l =
    includes (numbers_of (names_view (drop l.name-index l.names))) l.number
    ≡ includes (numbers_of (names_view l.names)) l.number
