use Rattle.std.proofs.Common.{◌-◌, ◌∙◌, sym, arith}
use Rattle.shared_core_renumber.proofs.Steps.{allows_none, allows_below}
use Rattle.shared_core_renumber.proofs.check.+payload.Goals as goal

pub allows_nested-returns-then-source-eq0 : goal.allows_nested-returns-then-source-eq0
allows_nested-returns-then-source-eq0 t c = sym (allows_none c.args.entries.now c.args.source.now.left c.args.schema
    c.args.bytes.now (omega (arith, c.if-source-eq0.true)))

pub allows_nested-returns : goal.allows_nested-returns
allows_nested-returns t c = c.allows_payload.ensures ∙ sym (allows_below c.args.entries.now (c.args.source.now.left - 1)
    c.args.source.now.left c.args.schema c.args.bytes.now (omega (arith, c.if-source-eq0.false)))
