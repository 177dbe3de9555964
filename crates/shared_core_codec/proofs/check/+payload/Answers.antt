use Rattle.std.proofs.Common.{◌≡◌, ◌-◌, ◌∙◌, map, Bool, Option, Some, sym, ap, arith, rules}
use Rattle.shared_core_wire.specs.Acceptance.{accepts_record, accepts_message}
use Rattle.shared_core_wire.specs.Schema.{Kind}
use Rattle.shared_core_wire.specs.RecordsLeft.{records_left}
use Rattle.shared_core_codec.specs.Checking.{field_record_of, accepts_found, all_read}
use Rattle.shared_core_codec.specs.ProgramRows.{kind_view}
use Rattle.shared_core_codec.proofs.Checked.{all_checked, field_accepts, message_below_in, message_zero_in}
use Rattle.shared_core_codec.proofs.check.+payload.Goals as goal

pub accepts_payload-loop-item-init : goal.accepts_payload-loop-item-init
accepts_payload-loop-item-init g t c =
    ap (all_read (accepts_record (accepts_message (g.T.Schemas.table c.args.schemas.now) c.args.left) (g.T.Schemas.table
    c.args.schemas.now c.args.schema)))
    (ap records_left c.into_iter-item-iterator.ensures.into_iter_gives ∙ c.within-item-items.ensures.computed)
    ∙ all_checked (g.T.Schemas.table c.args.schemas.now) c.args.left c.args.schema c.args.payload.now

pub accepts_payload-returns-then-not-accepts_record : goal.accepts_payload-returns-then-not-accepts_record
accepts_payload-returns-then-not-accepts_record g t c =
    let says = c.accepts_record.ensures
    ∙ c.rows_from-own.ensures.same (accepts_message (g.T.Schemas.table c.args.schemas.now) c.args.left) in
    search rules

pub accepts_payload-loop-item-preserved : goal.accepts_payload-loop-item-preserved
accepts_payload-loop-item-preserved g t c =
    let says = c.accepts_record.ensures
    ∙ c.rows_from-own.ensures.same (accepts_message (g.T.Schemas.table c.args.schemas.now) c.args.left) in
    search rules

pub accepts_record-returns-in_default : goal.accepts_record-returns-in_default
accepts_record-returns-in_default g t c =
    let r = field_record_of c.args.found.now in
    ap (λ (o : Option (Kind × Bool)). accepts_found (accepts_message (g.T.Schemas.table c.args.schemas.now) c.args.left)
    o r.value) c.in_default.ensures
    ∙ field_accepts (accepts_message (g.T.Schemas.table c.args.schemas.now) c.args.left) r (map g.T.Row.SchemaRow.view
    c.args.rows.now) c.requires

pub accepts_record-returns-then-field : goal.accepts_record-returns-then-field
accepts_record-returns-then-field g t c =
    let r = field_record_of c.args.found.now in
    c.accepts_element.ensures
    ∙ ap (λ b. accepts_found (accepts_message (g.T.Schemas.table c.args.schemas.now) c.args.left) (Some (
      kind_view
          c.in-Some.field.kind,
      b,
    )) r.value)
    (sym c.if-field.true)
    ∙ ap (λ (o : Option (Kind × Bool)). accepts_found (accepts_message (g.T.Schemas.table c.args.schemas.now)
    c.args.left) o r.value) c.in-Some.ensures
    ∙ field_accepts (accepts_message (g.T.Schemas.table c.args.schemas.now) c.args.left) r (map g.T.Row.SchemaRow.view
    c.args.rows.now) c.requires

pub accepts_record-returns-else-field : goal.accepts_record-returns-else-field
accepts_record-returns-else-field g t c =
    let r = field_record_of c.args.found.now in
    c.accepts_value.ensures
    ∙ ap (λ b. accepts_found (accepts_message (g.T.Schemas.table c.args.schemas.now) c.args.left) (Some (
      kind_view
          c.in-Some.field.kind,
      b,
    )) r.value)
    (sym c.if-field.false)
    ∙ ap (λ (o : Option (Kind × Bool)). accepts_found (accepts_message (g.T.Schemas.table c.args.schemas.now)
    c.args.left) o r.value) c.in-Some.ensures
    ∙ field_accepts (accepts_message (g.T.Schemas.table c.args.schemas.now) c.args.left) r (map g.T.Row.SchemaRow.view
    c.args.rows.now) c.requires

pub accepts_value-returns-then-left-gt0 : goal.accepts_value-returns-then-left-gt0
accepts_value-returns-then-left-gt0 g t c =
    rw (c.in-Length.is, c.in-Message.is) (c.accepts_payload.ensures ∙ sym
    (message_below_in (g.T.Schemas.table c.args.schemas.now) (c.args.left - 1) c.args.left c.in-Message.schema
    c.in-Length.bytes.now
    (omega (arith, c.if-left-gt0.true))))

pub accepts_value-returns-else-left-gt0 : goal.accepts_value-returns-else-left-gt0
accepts_value-returns-else-left-gt0 g t c =
    let none : c.args.left ≡ 0 = omega (arith, c.if-left-gt0.false) in
    rw (c.in-Length.is, c.in-Message.is, none) (sym (message_zero_in (g.T.Schemas.table c.args.schemas.now)
    c.in-Message.schema c.in-Length.bytes.now))
