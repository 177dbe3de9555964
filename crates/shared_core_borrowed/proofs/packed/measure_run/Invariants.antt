use Rattle.shared_core_codec.proofs.ElementLoops.{IsPacked}
use Rattle.shared_core_borrowed.proofs.packed.measure_run.Given as goal

abbrev pub invariant-loop-number : goal.invariant-loop-number
invariant-loop-number l = IsPacked l.numbers l.initial.size l.number-index l.size
