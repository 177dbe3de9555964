use Rattle.std.proofs.Common.{◌≡◌, [], ◌≤◌, ◌+◌, ◌*◌, drop, map, false}
use Rattle.json_table.specs.Counts.{items_count}
use Rattle.shared_core_json_reader.specs.Rows.{in_schema, named_row, named_members, named_rows}
use Rattle.shared_core_json_reader.specs.Appended.{items_bytes, oneof_bytes, rows_bytes, message_bytes, after}
use Rattle.shared_core_json_reader.specs.FirstError.{items_error, oneof_error, rows_error, message_error}
use Rattle.shared_core_json_reader.proofs.payload.+message.Given as goal

abbrev pub decreases-append_message : goal.decreases-append_message
decreases-append_message g l = 9 * l.levels

abbrev pub decreases-append_object : goal.decreases-append_object
decreases-append_object g l = 9 * l.left + 8

abbrev pub decreases-append_members : goal.decreases-append_members
decreases-append_members g l = 9 * l.left + 7

abbrev pub decreases-append_rows : goal.decreases-append_rows
decreases-append_rows g l = 9 * l.object.now.left + 6

abbrev pub decreases-append_row : goal.decreases-append_row
decreases-append_row g l = 9 * l.object.now.left + 5

abbrev pub decreases-append_given : goal.decreases-append_given
decreases-append_given g l = 9 * l.object.now.left + 4

abbrev pub decreases-append_oneof : goal.decreases-append_oneof
decreases-append_oneof g l = 9 * l.object.now.left + 4

abbrev pub decreases-append_list : goal.decreases-append_list
decreases-append_list g l = 9 * l.object.now.left + 4

abbrev pub decreases-append_array : goal.decreases-append_array
decreases-append_array g l = 9 * l.object.now.left + 3

abbrev pub decreases-append_items : goal.decreases-append_items
decreases-append_items g l = 9 * l.object.now.left + 2

abbrev pub decreases-append_value : goal.decreases-append_value
decreases-append_value g l = 9 * l.object.now.left + 1

abbrev pub invariant-append_rows-loop-row : goal.invariant-append_rows-loop-row
invariant-append_rows-loop-row g l =
    let object = l.object in
    let format = g.T.ReadableSchemas.format object.schemas.now in
    let all = named_rows format object.places.schema in
    let left = map (named_row format object.places.schema) (map g.T.Row.SchemaRow.view (drop l.row-index l.rows)) in
    (after l.walk.out.items (rows_bytes (message_bytes format object.left) object.members left)
    ≡ after l.initial.walk.out.items (rows_bytes (message_bytes format object.left) object.members all))
    × (rows_error (message_error format object.left) object.members left
    ≡ rows_error (message_error format object.left) object.members all)
    × (l.walk.trail.items ≡ [])

abbrev pub invariant-append_oneof-loop-field : goal.invariant-append_oneof-loop-field
invariant-append_oneof-loop-field g l =
    let object = l.object in
    let format = g.T.ReadableSchemas.format object.schemas.now in
    let all = named_members format object.places.schema l.fields in
    let left = named_members format object.places.schema (drop l.field-index l.fields) in
    (after l.walk.out.items (oneof_bytes (message_bytes format object.left) object.members l.held left)
    ≡ after l.initial.walk.out.items (oneof_bytes (message_bytes format object.left) object.members false all))
    × (oneof_error (message_error format object.left) object.members l.held left
    ≡ oneof_error (message_error format object.left) object.members false all)
    × (l.walk.trail.items ≡ [])

abbrev pub invariant-append_items-loop-index : goal.invariant-append_items-loop-index
invariant-append_items-loop-index g l =
    let object = l.object in
    let format = g.T.ReadableSchemas.format object.schemas.now in
    let field = in_schema format object.places.schema l.field in
    (after l.walk.out.items (items_bytes (message_bytes format object.left) field l.items)
    ≡ after l.initial.walk.out.items (items_bytes (message_bytes format object.left) field l.initial.items))
    × (items_error (message_error format object.left) field l.index l.items
    ≡ items_error (message_error format object.left) field 0 l.initial.items)
    × (l.walk.trail.items ≡ [])
    × (items_count l.items + l.index ≤ l.index-end)
