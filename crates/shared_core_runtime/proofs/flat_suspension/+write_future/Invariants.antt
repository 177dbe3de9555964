use Rattle.std.proofs.Common.{drop}
use Rattle.shared_core_runtime.specs.AwaitedLists.{AwaitedList, end_in, of_list}
use Rattle.shared_core_runtime.proofs.AwaitedLists.{IsWritten}
use Rattle.shared_core_runtime.proofs.flat_suspension.+write_future.Given as goal

abbrev pub invariant-write_futures-loop-i : goal.invariant-write_futures-loop-i
invariant-write_futures-loop-i l =
    (list : AwaitedList)
    → IsWritten list l.futures.items l.i (end_in list l.fn.ends) (end_in list l.ends)
    (drop (end_in list l.fn.ends) (of_list list l.fn.completions l.fn.signals l.fn.names))
    (drop (end_in list l.ends) (of_list list l.completions l.signals l.names))
