use Rattle.std.proofs.Common.{◌≡◌, ◌∙◌, ◌<◌, ◌-◌, ℕ, List, map, length, true, false, eqb, ltb, sym, ap, arith, rules}
use Rattle.shared_core_wire.specs.ReadRecords.{read_records, records_past}
use Rattle.shared_core_wire.specs.Reader.{record_at}
use Rattle.shared_core_wire.specs.Schema.{Row}
use Rattle.shared_core_codec.specs.Canonicity.{all_come_read, is_canonical_message_in, is_plain}
use Rattle.shared_core_codec.specs.ProgramRows.{kind_view}
use Rattle.shared_core_codec.proofs.CanonicityIn.{all_come_is, canonical_below, canonical_zero}
use Rattle.shared_core_fields.specs.Coming.{is_repeated}
use Rattle.shared_core_fields.proofs.Checked.{is_nested, not_nested}
use Rattle.shared_core_fields.proofs.Goes.{goes_on, goes_not}
use Rattle.shared_core_fields.proofs.SingleBytes.{single_canonical}
use Rattle.shared_core_fields.proofs.WrittenRecords.{ends_canonical}
use Rattle.shared_core_fields.proofs.check.+check.Goals as goal
use Rattle.shared_core_fields.proofs.check.+check.Goals.{is_content-else-is_plain-via-then-is_plain+else-is_empty}
use Rattle.shared_core_fields.proofs.check.+check.Goals.{is_content-else-is_plain-via-else-is_plain}

pub is_canonical_bytes-loop-rows-init : goal.is_canonical_bytes-loop-rows-init
unfolding read_records
is_canonical_bytes-loop-rows-init g t c =
    let bytes = c.args.bytes.now in
    ap (λ (rows : List Row). all_come_read (is_canonical_message_in (g.T.Schemas.table c.args.schemas.now) c.args.left)
    (rows, length bytes)
    (records_past (record_at 0) (length bytes) 0 bytes)) c.rows_of-rows.ensures ∙ all_come_is (g.T.Schemas.table
    c.args.schemas.now)
    c.args.left c.args.schema bytes

pub is_canonical_bytes-returns-in_default : goal.is_canonical_bytes-returns-in_default
is_canonical_bytes-returns-in_default g t c =
    let some : 0 < length c.loop-rows.rest.now = search rules in
    sym (goes_not (is_canonical_message_in (g.T.Schemas.table c.args.schemas.now) c.args.left) (length c.args.bytes.now)
    (map g.T.Row.SchemaRow.view c.loop-rows.rows.now)
    c.loop-rows.rest.now some c.in_default.ensures) ∙ c.loop-rows.invariant

pub is_canonical_bytes-loop-rows-smaller : goal.is_canonical_bytes-loop-rows-smaller
is_canonical_bytes-loop-rows-smaller g t c =
    (goes_on (is_canonical_message_in (g.T.Schemas.table c.args.schemas.now) c.args.left) (length c.args.bytes.now) (map
    g.T.Row.SchemaRow.view c.loop-rows.rows.now)
    (map g.T.Row.SchemaRow.view c.in-Some.next.now) c.loop-rows.rest.now c.in-Some.after.now c.in-Some.ensures).shorter

pub is_canonical_bytes-loop-rows-preserved : goal.is_canonical_bytes-loop-rows-preserved
is_canonical_bytes-loop-rows-preserved g t c =
    sym (goes_on (is_canonical_message_in (g.T.Schemas.table c.args.schemas.now) c.args.left) (length c.args.bytes.now)
    (map g.T.Row.SchemaRow.view c.loop-rows.rows.now)
    (map g.T.Row.SchemaRow.view c.in-Some.next.now) c.loop-rows.rest.now c.in-Some.after.now c.in-Some.ensures).same ∙
    c.loop-rows.invariant

pub is_canonical_bytes-returns : goal.is_canonical_bytes-returns
is_canonical_bytes-returns g t c =
    let none : length c.loop-rows.rest.now ≡ 0 = search rules in
    sym (ends_canonical (is_canonical_message_in (g.T.Schemas.table c.args.schemas.now) c.args.left) (length
    c.args.bytes.now) (map g.T.Row.SchemaRow.view c.loop-rows.rows.now)
    c.loop-rows.rest.now none) ∙ c.loop-rows.invariant

pub is_content-returns-then-left-gt0 : goal.is_content-returns-then-left-gt0
is_content-returns-then-left-gt0 g t c =
    let row = g.T.Row.SchemaRow.view c.args.row.now in
    let bytes = c.args.content.now in
    let some : is_plain row ≡ true → is_repeated row ≡ false → eqb (length bytes) 0 ≡ false = λ p r.
    elim c.else-is_plain.branch [
      | is_content-else-is_plain-via-then-is_plain+else-is_empty w ↦ sym w.is_empty.ensures ∙ w.if-is_empty.false
      | is_content-else-is_plain-via-else-is_plain w ↦
          absurd (let plain = c.is_plain.ensures in let not = w.if-is_plain.false in cc)
    ] in
    c.is_message.ensures
    ∙ sym (canonical_below (g.T.Schemas.table c.args.schemas.now) (c.args.left - 1) c.args.left c.in-Message.schema
    bytes (omega (arith, c.if-left-gt0.true)))
    ∙ sym (is_nested (is_canonical_message_in (g.T.Schemas.table c.args.schemas.now) c.args.left) (is_plain row)
    (kind_view c.args.field.now.kind)
    c.in-Message.schema (is_repeated row) bytes (ap kind_view c.in-Message.is) some)

pub is_content-returns-else-left-gt0 : goal.is_content-returns-else-left-gt0
is_content-returns-else-left-gt0 g t c =
    let row = g.T.Row.SchemaRow.view c.args.row.now in
    let none : c.args.left ≡ 0 = omega (arith, c.if-left-gt0.false) in
    ap (ltb 0) none
    ∙ not_nested (is_canonical_message_in (g.T.Schemas.table c.args.schemas.now) c.args.left) (is_plain row) (kind_view
    c.args.field.now.kind)
    c.in-Message.schema (is_repeated row) c.args.content.now (ap kind_view c.in-Message.is)
    (ap (λ (left : ℕ). is_canonical_message_in (g.T.Schemas.table c.args.schemas.now) left c.in-Message.schema
    c.args.content.now) none ∙ canonical_zero
    (g.T.Schemas.table c.args.schemas.now) c.in-Message.schema c.args.content.now)

pub is_message-returns-in-Some : goal.is_message-returns-in-Some
is_message-returns-in-Some g t c =
    sym (single_canonical (g.T.Schemas.table c.args.schemas.now) c.args.left c.in-Some._number c.args.schema
    c.args.bytes.now c.in-Some.ensures)
