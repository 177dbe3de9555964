use Rattle.std.proofs.Common.{◌≡◌, length}
use Rattle.shared_core_wire.specs.Value.{Number}
use Rattle.shared_core_codec.specs.Computed.{packed_onto}
use Rattle.shared_core_codec.specs.FieldParts.{parts_of}
use Rattle.shared_core_codec.specs.Kept.{BeginsWith}
use Rattle.shared_core_codec.proofs.packed.merge_run.Given as goal

abbrev pub invariant-loop-rest : goal.invariant-loop-rest
invariant-loop-rest l = record {
  same : packed_onto l.numbers.items l.rest ≡ packed_onto l.fn.numbers.items l.run;
  kept : BeginsWith (parts_of Number l.fn.numbers.items) (parts_of Number l.numbers.items);
}

abbrev pub decreases-loop-rest : goal.decreases-loop-rest
decreases-loop-rest l = length l.rest
