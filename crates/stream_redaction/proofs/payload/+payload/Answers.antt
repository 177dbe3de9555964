use Rattle.std.proofs.Common.{◌≡◌, ◌-◌, ◌++◌, List, ℕ, OnOk, subst, sym, ap, ◌∙◌, arith}
use Rattle.shared_core_wire.specs.RecordsLeft.{records_left}
use Rattle.shared_core_codec.specs.ProgramRows.{rows_view}
use Rattle.stream_redaction.proofs.Redacting.{going_start, nested_below, nested_zero}
use Rattle.stream_redaction.proofs.payload.+payload.Goals as goal

pub append_nested-returns-then-level-eq0 : goal.append_nested-returns-then-level-eq0
append_nested-returns-then-level-eq0 t c =
    subst (λ (more : List ℕ). OnOk c.append_zeros.result
    (c.append_zeros.new.out.items ≡ c.args.out.now.items ++ more))
    (sym (nested_zero c.args.level.key.now c.args.level.left (rows_view c.args.level.rows) c.args.content.now
    (omega (arith, c.if-level-eq0.true))))
    c.append_zeros.ensures

pub append_nested-returns : goal.append_nested-returns
append_nested-returns t c =
    subst (λ (more : List ℕ). OnOk c.append_records.result
    (c.append_records.new.out.items ≡ c.args.out.now.items ++ more))
    (sym (nested_below c.args.level.key.now (c.args.level.left - 1) c.args.level.left (rows_view c.args.level.rows)
    c.args.content.now (omega (arith, c.if-level-eq0.false))))
    c.append_records.ensures

pub append_records-loop-item-init : goal.append_records-loop-item-init
append_records-loop-item-init t c =
    going_start c.args.level.key.now c.args.level.left (rows_view c.args.level.rows) c.args.out.now.items
    c.args.payload.now
    (records_left c.into_iter-item-iterator.result)
    (ap records_left c.into_iter-item-iterator.ensures.into_iter_gives ∙ c.within-item-items.ensures.computed)
