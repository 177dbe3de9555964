use Rattle.std.proofs.Common.{◌≡◌, drop}
use Rattle.std.specs.List.{list_all}
use Rattle.shared_core_wire.specs.Schema.{includes, all_numbers}
use Rattle.shared_core_codec.specs.LoadedRows.{rows_view}
use Rattle.shared_core_json.specs.LoadedNames.{names_view}
use Rattle.shared_core_json_reader.specs.Readable.{numbers_of}
use Rattle.shared_core_json_reader.proofs.name_checks.are_own.Given as goal

abbrev pub invariant-loop-name : goal.invariant-loop-name
invariant-loop-name l =
    list_all (includes (all_numbers (rows_view l.rows))) (numbers_of (names_view (drop l.name-index l.names)))
    ≡ list_all (includes (all_numbers (rows_view l.rows))) (numbers_of (names_view l.names))
