use Rattle.std.proofs.Common.{◌≡◌, [], ◌≤◌, ◌+◌}
use Rattle.json_table.specs.Counts.{items_count}
use Rattle.shared_core_json_reader.specs.Rows.{in_schema}
use Rattle.shared_core_json_reader.specs.Appended.{run_bytes, after}
use Rattle.shared_core_json_reader.specs.FirstError.{run_error}
use Rattle.shared_core_json_reader.proofs.payload.append_numbers.Given as goal

abbrev pub invariant-loop-index : goal.invariant-loop-index
invariant-loop-index g l =
    let object = l.object in
    let field = in_schema (g.T.ReadableSchemas.format object.schemas.now) object.places.schema l.field in
    (after l.walk.out.items (run_bytes field l.items) ≡ after l.initial.walk.out.items (run_bytes field
    l.initial.items))
    × (run_error field l.index l.items ≡ run_error field 0 l.initial.items)
    × (l.walk.trail.items ≡ [])
    × (items_count l.items + l.index ≤ l.index-end)
