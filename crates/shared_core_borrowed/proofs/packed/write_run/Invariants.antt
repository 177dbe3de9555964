use Rattle.std.proofs.Common.{drop}
use Rattle.shared_core_codec.proofs.Backwards.{IsAfter}
use Rattle.shared_core_codec.proofs.Measuring.{packed_from}
use Rattle.shared_core_borrowed.proofs.packed.write_run.Given as goal

abbrev pub invariant-loop-i : goal.invariant-loop-i
invariant-loop-i l = IsAfter (packed_from l.numbers l.i) l.end l.start (drop l.end l.fn.out) (drop l.start l.out)
