use Rattle.std.proofs.Common.{drop}
use Rattle.shared_core_parts.proofs.NestedFutures.{future_part}
use Rattle.shared_core_codec.proofs.Backwards.{IsAfter}
use Rattle.shared_core_codec.proofs.Measuring.{from_index}
use Rattle.shared_core_codec.specs.Table.{future}
use Rattle.shared_core_wire.specs.Schema.{Message}
use Rattle.shared_core_parts.proofs.future.+encode_future.Given as goal

abbrev pub invariant-encode_futures-loop-i : goal.invariant-encode_futures-loop-i
invariant-encode_futures-loop-i l = IsAfter (from_index future_part 4 (Message future) l.futures.items l.i) l.end
    l.start (drop l.end l.fn.out) (drop l.start l.out)
