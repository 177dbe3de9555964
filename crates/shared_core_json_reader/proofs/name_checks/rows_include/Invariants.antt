use Rattle.std.proofs.Common.{◌≡◌, drop}
use Rattle.shared_core_wire.specs.Schema.{includes, all_numbers}
use Rattle.shared_core_codec.specs.LoadedRows.{rows_view}
use Rattle.shared_core_json_reader.proofs.name_checks.rows_include.Given as goal

abbrev pub invariant-loop-row : goal.invariant-loop-row
invariant-loop-row l =
    includes (all_numbers (rows_view (drop l.row-index l.rows))) l.number
    ≡ includes (all_numbers (rows_view l.rows)) l.number
