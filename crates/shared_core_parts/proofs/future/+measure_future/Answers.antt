use Rattle.std.proofs.Common.{◌∙◌, ap, refl, subst, arith}
use Rattle.shared_core_parts.proofs.NestedFutures.{future_part, all_parts}
use Rattle.shared_core_codec.proofs.ElementLoops.{measure_step}
use Rattle.shared_core_codec.proofs.FittingRows.{fit_end}
use Rattle.shared_core_codec.proofs.Measuring.{count_from}
use Rattle.shared_core_codec.specs.RowFitting.{FieldFits}
use Rattle.shared_core_codec.specs.RowEncoding.{measured_row}
use Rattle.shared_core_codec.specs.Table.{future}
use Rattle.shared_core_wire.specs.Schema.{Message, Repeated}
use Rattle.shared_core_wire.specs.Value.{Part}
use Rattle.shared_core_parts.proofs.future.+measure_future.Goals as goal

pub measure_futures-loop-future-preserved : goal.measure_futures-loop-future-preserved
measure_futures-loop-future-preserved t c =
    measure_step future_part 4 (Message future) c.args.futures.now.items c.loop-future.future-index c.future-item.result
    c.args.size.now c.loop-future.size c.measure_nested.new.size (omega arith)
    (rw c.deref-future-items.ensures.value at c.future-item.is) c.measure_nested.ensures.sum
    c.measure_nested.ensures.fit c.loop-future.invariant

pub measure_futures-returns-clause-sum : goal.measure_futures-returns-clause-sum
measure_futures-returns-clause-sum t c =
    count_from future_part 4 (Message future) c.args.futures.now.items c.args.size.now c.loop-future.size
    c.loop-future.future-index c.loop-future.invariant.1 (omega arith) refl c.loop-future.invariant.0
    ∙ ap (λ (p : Part). measured_row (Repeated 4 (Message future)) p c.args.size.now)
    (all_parts c.args.futures.now.items)

pub measure_futures-returns-clause-fit : goal.measure_futures-returns-clause-fit
measure_futures-returns-clause-fit t c =
    subst (λ (p : Part). FieldFits (Repeated 4 (Message future)) p) (all_parts c.args.futures.now.items)
    (fit_end future_part 4 (Message future) c.args.futures.now.items c.loop-future.future-index (omega arith)
    c.loop-future.invariant.2)
