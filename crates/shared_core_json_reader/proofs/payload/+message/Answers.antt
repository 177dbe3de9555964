use Rattle.std.proofs.Common.{Some, None, refl, sym, ap, ◌∙◌, subst, arith, Option, List, ℕ, cond, append-nil}
use Rattle.std.proofs.lemmas.List.{drop_more}
use Rattle.json_table.specs.Counts.{items_count}
use Rattle.shared_core_json_reader.specs.declared.payload.Step.TheVariants as program
use Rattle.shared_core_codec.specs.ProgramRows.{kind_view, shape_view}
use Rattle.shared_core_codec.specs.declared.any_table.RowShape.TheVariants.{Plain, Optional, Repeated}
use Rattle.shared_core_json_reader.specs.Rows.{in_schema, named_rows}
use Rattle.shared_core_json_reader.specs.Places.{IsRowOf}
use Rattle.shared_core_json_reader.specs.Appended.{rows_bytes, message_bytes}
use Rattle.shared_core_json_reader.specs.Appended.{Appends, after}
use Rattle.shared_core_json_reader.proofs.Givens.{lacks_row, lacks_row_error, lacks_member, row_field, oneof_field}
use Rattle.shared_core_json_reader.proofs.Givens.{here_row, row_of, stops, stops_error, rows_stop}
use Rattle.shared_core_json_reader.proofs.Givens.{rows_error_stop, rows_turn, rows_error_turn}
use Rattle.shared_core_json_reader.proofs.Levels.{no_level, at_level, items_end, items_turn, none_left, oneof_turn}
use Rattle.shared_core_json_reader.proofs.Levels.{oneof_skip}
use Rattle.shared_core_json_reader.specs.FirstError.{PathError, Element, field_error, rows_error, message_error}
use Rattle.shared_core_json_reader.specs.FirstError.{trail_view, HasError}
use Rattle.shared_core_json_reader.proofs.FirstErrors.{no_level_error, at_level_error, items_error_end}
use Rattle.shared_core_json_reader.proofs.FirstErrors.{items_error_stop, items_error_turn, within_noted, trail_more}
use Rattle.shared_core_json_reader.proofs.FirstErrors.{oneof_error_turn, oneof_error_skip}
use Rattle.shared_core_json_reader.proofs.payload.+message.Goals as goal

pub append_message-returns-then-levels-eq0-clause-appended : goal.append_message-returns-then-levels-eq0-clause-appended
append_message-returns-then-levels-eq0-clause-appended g t c n =
    let format = g.T.ReadableSchemas.format c.args.of.schemas.now in
    no_level
    format c.args.levels c.args.of.schema
    c.args.value.now c.if-levels-eq0.true

pub append_message-returns-clause-appended : goal.append_message-returns-clause-appended
append_message-returns-clause-appended g t c =
    let format = g.T.ReadableSchemas.format c.args.of.schemas.now in
    subst (λ (o : Option (List ℕ)). Appends c.append_object.result o c.args.walk.now.out.items
    c.append_object.new.walk.out.items)
    (at_level format c.args.levels c.args.of.schema c.args.value.now
    (omega arith)) c.append_object.ensures.appended

pub append_items-returns-clause-appended : goal.append_items-returns-clause-appended
append_items-returns-clause-appended g t c =
    let object = c.args.object.now in
    let format = g.T.ReadableSchemas.format object.schemas.now in
    items_end (message_bytes format object.left)
    (in_schema format object.places.schema c.args.field.now) c.loop-index.items
    c.loop-index.walk.out.items _ (none_left c.loop-index.items (omega arith)) c.loop-index.invariant.0

pub append_items-returns-clause-error : goal.append_items-returns-clause-error
append_items-returns-clause-error g t c =
    let object = c.args.object.now in
    let format = g.T.ReadableSchemas.format object.schemas.now in (
      items_error_end (message_error format object.left)
          (in_schema format object.places.schema c.args.field.now) c.loop-index.items
          c.loop-index.index _
          (none_left c.loop-index.items (omega arith)) c.loop-index.invariant.1,
      c.loop-index.invariant.2,
    )

pub append_oneof-loop-field-preserved : goal.append_oneof-loop-field-preserved
append_oneof-loop-field-preserved g t c =
    let object = c.args.object.now in
    let format = g.T.ReadableSchemas.format object.schemas.now in
    let xs = c.args.fields.now in
    let i = c.loop-field.field-index in
    let here = drop_more xs i _ c.loop-field-test.true in
    let found = rw c.in-Some.is at c.in_ok-value.ensures.given in
    let appended = rw c.in_ok-value.ensures.walk at c.in_default-append_value.ensures.appended in (
      oneof_turn format (message_bytes format object.left) object.members object.places.schema xs i _ c.in-Some.value
          c.loop-field.held c.loop-field.walk.out.items c.append_value.new.walk.out.items _ here found c.if-held.false
          appended c.loop-field.invariant.0,
      oneof_error_turn format (message_error format object.left) object.members object.places.schema xs i _
          c.in-Some.value c.loop-field.held _ here found c.if-held.false c.in_default-append_value.ensures.error.0
          c.loop-field.invariant.1,
      c.in_default-append_value.ensures.error.1,
    )

pub append_message-returns-then-levels-eq0-clause-error : goal.append_message-returns-then-levels-eq0-clause-error
append_message-returns-then-levels-eq0-clause-error g t c n =
    let format = g.T.ReadableSchemas.format c.args.of.schemas.now in
    no_level_error
    format c.args.levels c.args.of.schema
    c.args.value.now c.args.walk.now.trail.items c.if-levels-eq0.true c.requires.trail

pub append_message-returns-clause-error : goal.append_message-returns-clause-error
append_message-returns-clause-error g t c =
    let format = g.T.ReadableSchemas.format c.args.of.schemas.now in
    subst (λ (o : Option PathError). HasError c.append_object.result o c.append_object.new.walk.trail.items)
    (at_level_error format c.args.levels c.args.of.schema c.args.value.now
    (omega arith)) c.append_object.ensures.error

pub append_members-returns-in-Err-clause-appended : goal.append_members-returns-in-Err-clause-appended
append_members-returns-in-Err-clause-appended g t c n =
    let format = g.T.ReadableSchemas.format c.args.of.schemas.now in
    ap (λ b. cond b (rows_bytes (message_bytes format c.args.left)
    c.args.members
    (named_rows format c.args.of.schema)) None) c.in-Err.ensures.known

pub append_members-returns-clause-appended : goal.append_members-returns-clause-appended
append_members-returns-clause-appended g t c =
    let format = g.T.ReadableSchemas.format c.args.of.schemas.now in
    let nested = message_bytes format c.args.left in
    let ms = c.args.members in
    subst (λ (o : Option (List ℕ)). Appends c.append_rows.result o c.args.walk.now.out.items
    c.append_rows.new.walk.out.items)
    (sym (ap (λ b. cond b (rows_bytes nested ms
    (named_rows format c.args.of.schema)) None) c.in_default.ensures.known))
    c.append_rows.ensures.appended

pub append_oneof-given_or_noted-requires-clause-field : goal.append_oneof-given_or_noted-requires-clause-field
append_oneof-given_or_noted-requires-clause-field g t c =
    let object = c.args.object.now in
    let format = g.T.ReadableSchemas.format object.schemas.now in
    oneof_field format object.places.schema c.loop-field.field-index
    c.args.fields.now _ _ c.requires.row
    (drop_more c.args.fields.now c.loop-field.field-index _ c.loop-field-test.true)

pub append_row-append_given-requires : goal.append_row-append_given-requires
append_row-append_given-requires g t c =
    let object = c.args.object.now in
    let format = g.T.ReadableSchemas.format object.schemas.now in
    let row = row_field format object.places.schema
    c.in-Plain.field.now.number (kind_view c.in-Plain.field.now.kind) (shape_view (Plain c.in-Plain.field)) refl
    (subst (IsRowOf format object.places.schema)
    (sym c.shape.ensures ∙ ap shape_view c.in-Plain.is) c.requires.row) in
    λ κs lives. (
      omega (arith, c.decreases),
      (lives.0, (lives.1, (c.requires.trail, (c.requires.places, row)))),
    )

pub append_row-append_given-requires-in-Optional : goal.append_row-append_given-requires-in-Optional
append_row-append_given-requires-in-Optional g t c =
    let object = c.args.object.now in
    let format = g.T.ReadableSchemas.format object.schemas.now in
    let row = row_field format object.places.schema
    c.in-Optional.field.now.number (kind_view c.in-Optional.field.now.kind) (shape_view (Optional c.in-Optional.field))
    refl
    (subst (IsRowOf format object.places.schema)
    (sym c.shape.ensures ∙ ap shape_view c.in-Optional.is) c.requires.row) in
    λ κs lives. (
      omega (arith, c.decreases),
      (lives.0, (lives.1, (c.requires.trail, (c.requires.places, row)))),
    )

pub append_row-append_list-requires : goal.append_row-append_list-requires
append_row-append_list-requires g t c =
    let object = c.args.object.now in
    let format = g.T.ReadableSchemas.format object.schemas.now in
    let row = row_field format object.places.schema
    c.in-Repeated.field.now.number (kind_view c.in-Repeated.field.now.kind) (shape_view (Repeated c.in-Repeated.field))
    refl
    (subst (IsRowOf format object.places.schema)
    (sym c.shape.ensures ∙ ap shape_view c.in-Repeated.is) c.requires.row) in
    λ κs lives. (
      omega (arith, c.decreases),
      (lives.0, (lives.1, (c.requires.trail, (c.requires.places, row)))),
    )

pub append_rows-append_row-requires : goal.append_rows-append_row-requires
append_rows-append_row-requires g t c =
    let object = c.args.object.now in
    let format = g.T.ReadableSchemas.format object.schemas.now in
    let rows = c.rows_of-rows.result.now in
    let here = here_row rows c.loop-row.row-index c.row-item.result c.loop-row-test.true c.row-item.is in
    let row = row_of format g.T.Row.SchemaRow.view object.places.schema
    c.loop-row.row-index rows _ c.row-item.result c.rows_of-rows.ensures.rows here in
    λ κs lives. (
      omega (arith, c.decreases),
      (lives.0, (lives.1, (c.loop-row.invariant.2, (c.requires.places, row)))),
    )

pub append_rows-returns-in_err-append_row-clause-appended : goal.append_rows-returns-in_err-append_row-clause-appended
append_rows-returns-in_err-append_row-clause-appended g t c =
    let object = c.args.object.now in
    let format = g.T.ReadableSchemas.format object.schemas.now in
    let l = c.loop-row in
    stops c.from_residual.result c.in_err-append_row.field-0.0 _ c.args.walk.now.out.items _ c.from_residual.ensures.1
    (λ n. rows_stop format g.T.Row.SchemaRow.view
    (message_bytes format object.left) object.members
    object.places.schema
    c.rows_of-rows.result.now l.row-index c.row-item.result _ l.walk.out.items c.args.walk.now.out.items _
    (here_row c.rows_of-rows.result.now l.row-index c.row-item.result c.loop-row-test.true c.row-item.is) l.invariant.0
    (c.in_err-append_row.ensures.appended n))

pub append_rows-returns-in_err-append_row-clause-error : goal.append_rows-returns-in_err-append_row-clause-error
append_rows-returns-in_err-append_row-clause-error g t c =
    let object = c.args.object.now in
    let format = g.T.ReadableSchemas.format object.schemas.now in
    let l = c.loop-row in
    let nested = message_error format object.left in
    let ms = object.members in
    stops_error c.from_residual.result c.in_err-append_row.field-0.0
    (rows_error nested ms (named_rows format object.places.schema))
    c.append_row.new.walk.trail.items
    c.from_residual.ensures.1
    (λ n. rows_error_stop format g.T.Row.SchemaRow.view nested ms
    object.places.schema c.rows_of-rows.result.now l.row-index c.row-item.result _ _ _
    (here_row c.rows_of-rows.result.now l.row-index c.row-item.result c.loop-row-test.true c.row-item.is) l.invariant.1
    (c.in_err-append_row.ensures.error n))

pub append_row-returns-then-lacks : goal.append_row-returns-then-lacks
append_row-returns-then-lacks g t c =
    let object = c.args.object.now in
    let format = g.T.ReadableSchemas.format object.schemas.now in
    let row = g.T.Row.SchemaRow.view c.args.row.now in
    record {
      appended =
          ap (after c.args.walk.now.out.items) (lacks_row format
          (g.met.T.ReadableSchemas.readable object.schemas.now)
          (message_bytes format object.left) object.members
          object.places
          row c.requires.places c.requires.row (c.lacks.ensures c.if-lacks.true))
          ∙ ap (λ (xs : List ℕ). Some xs) (append-nil c.args.walk.now.out.items);
      error = (
        lacks_row_error format
            (g.met.T.ReadableSchemas.readable object.schemas.now)
            (message_error format object.left) object.members
            object.places row c.requires.places c.requires.row (c.lacks.ensures c.if-lacks.true),
        c.requires.trail,
      );
    }

pub append_oneof-loop-field-preserved-then-is_absent : goal.append_oneof-loop-field-preserved-then-is_absent
append_oneof-loop-field-preserved-then-is_absent g t c =
    let object = c.args.object.now in
    let format = g.T.ReadableSchemas.format object.schemas.now in
    let xs = c.args.fields.now in
    let i = c.loop-field.field-index in
    let here = drop_more xs i _ c.loop-field-test.true in
    let found = lacks_member format
    (g.met.T.ReadableSchemas.readable object.schemas.now) i xs _ _ object.members object.places
    c.requires.places c.requires.row here
    (c.is_absent.ensures c.if-is_absent.true) in (
      oneof_skip format
          (message_bytes format object.left) object.members
          object.places.schema xs i _ c.loop-field.held
          c.loop-field.walk.out.items _ here found c.loop-field.invariant.0,
      oneof_error_skip format
          (message_error format object.left) object.members
          object.places.schema xs i _
          c.loop-field.held _ here found c.loop-field.invariant.1,
      c.loop-field.invariant.2,
    )

pub append_items-returns-in-Err-clause-error : goal.append_items-returns-in-Err-clause-error
append_items-returns-in-Err-clause-error g t c n =
    let object = c.args.object.now in
    let format = g.T.ReadableSchemas.format object.schemas.now in
    let f = in_schema format object.places.schema c.args.field.now in
    items_error_stop (message_error format object.left) f c.loop-index.items
    c.next.new.self c.in-Some.item
    c.loop-index.index _ (c.note.result, trail_view c.note.new.self.trail.items) c.in-Some.ensures
    c.loop-index.invariant.1 (within_noted (field_error
    (message_error format object.left) f c.in-Some.item)
    (Element c.loop-index.index) c.in-Err.reason c.note.result c.append_value.new.walk.trail.items
    c.note.new.self.trail.items c.in-Err.ensures.error
    (λ m. (
      (c.note.ensures m).0,
      ap trail_view (c.note.ensures m).1 ∙ trail_more c.append_value.new.walk.trail.items
          (program.Element c.loop-index.index),
    )) n)

pub append_items-loop-index-preserved : goal.append_items-loop-index-preserved
append_items-loop-index-preserved g t c =
    let object = c.args.object.now in
    let format = g.T.ReadableSchemas.format object.schemas.now in
    let f = in_schema format object.places.schema c.args.field.now in
    let appended = c.in_default-append_value.ensures in (
      items_turn (message_bytes format object.left) f c.loop-index.items
          c.next.new.self c.in-Some.item
          c.loop-index.walk.out.items c.append_value.new.walk.out.items _ c.in-Some.ensures appended.appended
          c.loop-index.invariant.0,
      items_error_turn (message_error format object.left) f c.loop-index.items
          c.next.new.self c.in-Some.item
          c.loop-index.index _ c.in-Some.ensures appended.error.0 c.loop-index.invariant.1,
      appended.error.1,
      omega (arith, ap items_count c.in-Some.ensures, c.loop-index.invariant.3),
    )

pub append_rows-loop-row-preserved : goal.append_rows-loop-row-preserved
append_rows-loop-row-preserved g t c =
    let object = c.args.object.now in
    let format = g.T.ReadableSchemas.format object.schemas.now in
    let view = g.T.Row.SchemaRow.view in
    let l = c.loop-row in
    let ms = object.members in
    let s = object.places.schema in
    let xs = c.rows_of-rows.result.now in
    let x = c.row-item.result in
    let here = here_row xs l.row-index x c.loop-row-test.true c.row-item.is in
    let appended = c.in_ok-append_row.ensures in (
      rows_turn format view (message_bytes format object.left) ms s xs l.row-index x _ l.walk.out.items
          c.append_row.new.walk.out.items _ here appended.appended l.invariant.0,
      rows_error_turn format view (message_error format object.left) ms s xs l.row-index x _ _ here
          appended.error.0 l.invariant.1,
      appended.error.1,
    )
