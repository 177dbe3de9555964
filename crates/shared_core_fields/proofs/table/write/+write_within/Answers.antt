use Rattle.std.proofs.Common.{◌+◌, ◌-◌, ◌<◌, ◌≤◌, ℕ, List, [], map, ap, subst, arith, rules}
use Rattle.shared_core_fields.specs.Rows.{level_rows}
use Rattle.shared_core_fields.specs.Views.{EachIsAt, IsAt, field_part, placed_of, unplaced, value_bytes}
use Rattle.shared_core_fields.proofs.FieldEntries.{of_last, of_other}
use Rattle.shared_core_fields.proofs.Written.{nothing, at_within, first_few, inner_few, field_step, message_rows}
use Rattle.shared_core_fields.proofs.table.write.+write_within.Goals as goal

pub write_field-count-requires-clause-place : goal.write_field-count-requires-clause-place
write_field-count-requires-clause-place t c =
    let f = c.in-Some.field in
    let here = subst (EachIsAt c.args.payload.bytes.now) (ap (map placed_of) c.in-Some.ensures.steps)
    c.loop-field.invariant.0 in
    at_within c.args.place.whole.now c.args.place.offset c.args.payload.bytes.now f.offset (value_bytes f.value)
    c.requires.place here.0

pub write_field-count-requires-clause-few : goal.write_field-count-requires-clause-few
write_field-count-requires-clause-few t c =
    let few = first_few c.args.left c.args.place.level (field_part c.in-Some.field) _ _
    (ap (map unplaced) (ap (map placed_of) c.in-Some.ensures.steps)) in
    omega (arith, few, c.loop-field.invariant.1, c.requires.few)

pub write_within-count-requires : goal.write_within-count-requires
write_within-count-requires t c =
    let f = c.in-Some.field in
    let m = c.in-Message.message in
    let here = subst (EachIsAt c.args.payload.bytes.now) (ap (map placed_of) c.in-Some.ensures.steps)
    c.loop-field.invariant.0 in
    let place = at_within c.args.place.whole.now c.args.place.offset c.args.payload.bytes.now f.offset
    (value_bytes f.value) c.requires.place here.0 in
    let few = inner_few c.args.left c.args.place.level (field_part f) _ _ _ (ap (map unplaced) (ap (map placed_of)
    c.in-Some.ensures.steps))
    (message_rows c.args.left c.args.place.level f.number f.is_repeated f.value m c.if-left-gt0.true c.in-Message.is) in
    let less : c.args.left - 1 < t = search rules in
    let low : c.args.place.level + 1 + (c.args.left - 1) ≤ 100 = omega
    (arith, c.requires.levels, c.if-left-gt0.true) in
    let inside = subst (λ (bs : List ℕ). IsAt c.args.place.whole.now (c.args.place.offset + f.offset) bs)
    (ap value_bytes c.in-Message.is) place in (
      less,
      (low, (inside, omega (arith, few, c.loop-field.invariant.1, c.requires.few, c.write_field-count.ensures.count))),
    )

pub loop-field-preserved-then-left-gt0 : goal.loop-field-preserved-then-left-gt0
loop-field-preserved-then-left-gt0 t c =
    let f = c.in-Some.field in
    let here = subst (EachIsAt c.args.payload.bytes.now) (ap (map placed_of) c.in-Some.ensures.steps)
    c.loop-field.invariant.0 in
    let step = field_step c.args.place.whole.now c.args.left c.args.place.level c.args.at c.loop-field.count
    c.write_field-count.result c.write_within-count.result _ _ c.write_field-count.new.out c.write_within-count.new.out
    _ _ (field_part f) _ _ (ap (map unplaced) (ap (map placed_of) c.in-Some.ensures.steps))
    (message_rows c.args.left c.args.place.level f.number f.is_repeated f.value c.in-Message.message
    c.if-left-gt0.true c.in-Message.is) c.write_field-count.ensures.count c.write_field-count.ensures.rows
    c.write_within-count.ensures.count c.write_within-count.ensures.rows c.loop-field.invariant.1
    c.loop-field.invariant.2 in
    (here.1, step.0, step.1)

pub loop-field-preserved-else-left-gt0 : goal.loop-field-preserved-else-left-gt0
loop-field-preserved-else-left-gt0 t c =
    let f = c.in-Some.field in
    let here = subst (EachIsAt c.args.payload.bytes.now) (ap (map placed_of) c.in-Some.ensures.steps)
    c.loop-field.invariant.0 in
    let step = field_step c.args.place.whole.now c.args.left c.args.place.level c.args.at c.loop-field.count
    c.write_field-count.result c.write_field-count.result _ _ c.write_field-count.new.out c.write_field-count.new.out _
    [] (field_part f) _ _ (ap (map unplaced) (ap (map placed_of) c.in-Some.ensures.steps))
    (ap level_rows (of_last c.args.left c.args.place.level (field_part f) (omega (arith, c.if-left-gt0.false))))
    c.write_field-count.ensures.count c.write_field-count.ensures.rows (omega arith)
    (nothing c.args.place.whole.now c.write_field-count.result c.write_field-count.new.out) c.loop-field.invariant.1
    c.loop-field.invariant.2 in
    (here.1, step.0, step.1)

pub loop-field-preserved : goal.loop-field-preserved
loop-field-preserved t c =
    let f = c.in-Some.field in
    let here = subst (EachIsAt c.args.payload.bytes.now) (ap (map placed_of) c.in-Some.ensures.steps)
    c.loop-field.invariant.0 in
    let step = field_step c.args.place.whole.now c.args.left c.args.place.level c.args.at c.loop-field.count
    c.write_field-count.result c.write_field-count.result _ _ c.write_field-count.new.out c.write_field-count.new.out _
    [] (field_part f) _ _ (ap (map unplaced) (ap (map placed_of) c.in-Some.ensures.steps))
    (ap level_rows (of_other c.args.left c.args.place.level f.number f.is_repeated f.value c.in_default.not-Message))
    c.write_field-count.ensures.count c.write_field-count.ensures.rows (omega arith)
    (nothing c.args.place.whole.now c.write_field-count.result c.write_field-count.new.out) c.loop-field.invariant.1
    c.loop-field.invariant.2 in
    (here.1, step.0, step.1)
