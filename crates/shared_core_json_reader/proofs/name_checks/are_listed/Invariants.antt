use Rattle.std.proofs.Common.{◌≡◌, drop}
use Rattle.std.specs.List.{list_all}
use Rattle.shared_core_wire.specs.Schema.{includes, all_numbers}
use Rattle.shared_core_codec.specs.LoadedRows.{rows_view}
use Rattle.shared_core_json.specs.LoadedNames.{names_view}
use Rattle.shared_core_json_reader.specs.Readable.{numbers_of}
use Rattle.shared_core_json_reader.proofs.name_checks.are_listed.Given as goal

abbrev pub invariant-loop-row : goal.invariant-loop-row
invariant-loop-row l =
    list_all (includes (numbers_of (names_view l.names))) (all_numbers (rows_view (drop l.row-index l.rows)))
    ≡ list_all (includes (numbers_of (names_view l.names))) (all_numbers (rows_view l.rows))
