use Rattle.std.proofs.Common.{◌≡◌, sym, ◌∙◌, arith, Bool, true, false, not, refl}
use Rattle.shared_core_parts.proofs.EqualFutures.{by_last, eq_step, eq_stop, eq_whole}
use Rattle.shared_core_parts.proofs.future.+futures_equal.Goals as goal

shown : (b : Bool) → false ≡ not b → b ≡ true
shown true h = refl
shown false h = cc

pub futures_equal-returns : goal.futures_equal-returns
futures_equal-returns t c =
    c.eq.ensures ∙ by_last c.args.a.now c.args.b.now (shown _ c.if-ne.ensures) (shown _ c.if-ne-2.ensures)
    (shown _ c.if-ne-3.ensures) (sym c.if-not-all_equal.ensures)

pub all_equal-loop-i-preserved : goal.all_equal-loop-i-preserved
all_equal-loop-i-preserved t c =
    eq_step c.args.a.now.items c.args.b.now.items c.loop-i.i c.index.result.now c.index-in-loop-i.result.now
    (omega (arith, c.args.a.now.ok.0, c.args.b.now.ok.0)) (omega (arith, c.args.a.now.ok.0, c.args.b.now.ok.0))
    c.index.ensures c.index-in-loop-i.ensures (sym c.futures_equal.ensures ∙ c.if-not-futures_equal.false)
    c.loop-i.invariant

pub all_equal-returns-then-not-futures_equal : goal.all_equal-returns-then-not-futures_equal
all_equal-returns-then-not-futures_equal t c =
    eq_stop c.args.a.now.items c.args.b.now.items c.loop-i.i c.index.result.now c.index-in-loop-i.result.now
    (omega (arith, c.args.a.now.ok.0, c.args.b.now.ok.0)) (omega (arith, c.args.a.now.ok.0, c.args.b.now.ok.0))
    c.index.ensures c.index-in-loop-i.ensures (sym c.futures_equal.ensures ∙ c.if-not-futures_equal.true)
    c.loop-i.invariant

pub all_equal-returns : goal.all_equal-returns
all_equal-returns t c =
    eq_whole c.args.a.now.items c.args.b.now.items c.loop-i.i (omega (arith, c.args.a.now.ok.0, c.args.b.now.ok.0))
    (omega (arith, c.args.a.now.ok.0, c.args.b.now.ok.0)) c.loop-i.invariant
