use Rattle.std.proofs.Common.{drop}
use Rattle.shared_core_codec.proofs.Backwards.{IsAfter}
use Rattle.shared_core_codec.proofs.Measuring.{from_index}
use Rattle.shared_core_borrowed.proofs.repeated.write.Given as goal

abbrev pub invariant-loop-i : goal.invariant-loop-i
invariant-loop-i g l = IsAfter (from_index g.V.FieldValue.part l.number g.V.FieldValue.kind l.field l.i) l.end
    l.start (drop l.end l.fn.out) (drop l.start l.out)
