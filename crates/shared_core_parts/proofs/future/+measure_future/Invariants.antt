use Rattle.shared_core_parts.proofs.NestedFutures.{future_part}
use Rattle.shared_core_codec.proofs.ElementLoops.{IsMeasured}
use Rattle.shared_core_codec.specs.Table.{future}
use Rattle.shared_core_wire.specs.Schema.{Message}
use Rattle.shared_core_parts.proofs.future.+measure_future.Given as goal

abbrev pub invariant-measure_futures-loop-future : goal.invariant-measure_futures-loop-future
invariant-measure_futures-loop-future l = IsMeasured future_part 4 (Message future) l.futures.items l.initial.size
    l.future-index l.size
