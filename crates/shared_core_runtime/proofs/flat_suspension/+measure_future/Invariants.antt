use Rattle.shared_core_runtime.specs.AwaitedLists.{AwaitedList, size_in}
use Rattle.shared_core_runtime.proofs.AwaitedLists.{IsMeasured}
use Rattle.shared_core_runtime.proofs.flat_suspension.+measure_future.Given as goal

abbrev pub invariant-measure_futures-loop-i : goal.invariant-measure_futures-loop-i
invariant-measure_futures-loop-i l = (list : AwaitedList) → IsMeasured list l.futures.items
    (size_in list l.initial.sizes) l.i (size_in list l.sizes)
