use Rattle.std.proofs.Common.{◌≡◌, ◌+◌, length}
use Rattle.shared_core_codec.specs.LoadedRows.{schemas_view}
use Rattle.shared_core_json.specs.LoadedNames.{all_names_view}
use Rattle.shared_core_json_reader.specs.Readable.{unreadable_from}
use Rattle.shared_core_json_reader.proofs.name_checks.first_unreadable.Given as goal

abbrev pub invariant-loop-rows : goal.invariant-loop-rows
invariant-loop-rows l = (l.schema + length l.rest ≡ length l.schemas)
    × (unreadable_from l.schema (all_names_view l.names) (schemas_view l.rest)
    ≡ unreadable_from 0 (all_names_view l.initial.names) (schemas_view l.schemas))

abbrev pub decreases-loop-rows : goal.decreases-loop-rows
decreases-loop-rows l = length l.rest
