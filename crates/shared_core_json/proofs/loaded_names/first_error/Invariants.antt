use Rattle.std.proofs.Common.{◌≡◌, ◌+◌, length}
use Rattle.shared_core_json.specs.LoadedNames.{all_names_view, error_from, name_error}
use Rattle.shared_core_json.proofs.loaded_names.first_error.Given as goal

abbrev pub invariant-loop-own : goal.invariant-loop-own
invariant-loop-own l = (l.schema + length l.rest ≡ length l.names) × (error_from l.schema (all_names_view l.rest)
    ≡ name_error (all_names_view l.names))

abbrev pub decreases-loop-own : goal.decreases-loop-own
decreases-loop-own l = length l.rest
